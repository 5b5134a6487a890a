-- A loop that looks for another entry of one node.
-- Assumes nothing.
use mathlib.Core.Path.{◌≡◌, sym, ap, ◌∙◌}
use mathlib.Core.Bool.{Bool, not, ◌&&◌, ◌||◌}
use mathlib.Core.List.{List}
use Prim.Native.Nat.{ℕ, ◌+◌, ◌≤◌, ◌<◌}
use native.Mathlib.Omega.{arith}
use Rattle.std.proofs.Common.{add-one}
use lib.Dec.{eqb}
use lib.ListN.{get_or}
use Rattle.profile.specs.WatchEntries.{some, node_in, is_used, watches, is_second}
use Rattle.watches.specs.View.{watches_of}

-- an entry other than n names the node
abbrev pub other_named : List ℕ → ℕ → ℕ → ℕ → Bool
other_named deltas n node j = not (eqb j n) && watches node (get_or deltas (120 + j) 0)

-- one of those before j does
pub record Named (deltas : List ℕ) (n node : ℕ) (r : Bool) (j : ℕ) : Type 0 where
  pub is : r ≡ some j (other_named deltas n node)
  pub within : j ≤ 4

module _ {deltas : List ℕ} {n node : ℕ} where
  pub named_more : (r : Bool) (j : ℕ) → Named deltas n node r j → j < 4 → Named deltas n node (r || other_named deltas n node j) (j + 1)
  named_more r j s h =
      record {
        is = ap (λ (b : Bool). b || other_named deltas n node j) s.is
            ∙ sym (ap (λ (k : ℕ). some k (other_named deltas n node)) (add-one j));
        within = omega arith;
      }

  pub second_by : (v : ℕ) (r : Bool) (j : ℕ) → node ≡ node_in v → Named deltas n node r j → 4 ≤ j
      → is_used v && r ≡ is_second n v (watches_of deltas)
  unfolding is_second
  second_by v r j e s h =
      let all : j ≡ 4 = omega (arith, s.within, h) in
      ap (λ (b : Bool). is_used v && b)
      (s.is ∙ ap (λ (k : ℕ). some k (other_named deltas n node)) all ∙ ap (λ (m : ℕ). some 4 (other_named deltas n m)) e)
