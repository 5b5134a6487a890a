-- A loop over the entries that makes f of each, and one that lets time pass.
-- Assumes nothing.
use mathlib.Core.Path.{◌≡◌, ap, ap₂, ◌∙◌, sym}
use mathlib.Core.Logic.{⊎_elim}
use mathlib.Core.Bool.{Bool, ◌||◌}
use mathlib.Core.List.{List, map}
use Prim.Native.Nat.{ℕ, ◌+◌, ◌≤◌, ◌<◌}
use native.Mathlib.Omega.{arith}
use native.Mathlib.Nat.{eq-or-lt_of_le}
use Rattle.std.proofs.Common.{add-one}
use lib.ListN.{length, get_or, set}
use lib.Seq.{get_or-set_same, get_or-set_other}
use Rattle.profile.specs.WatchEntries.{Watch, some}
use Rattle.profile.specs.Watch.{expires, take_time, is_due}
use Rattle.profile.proofs.ListLaws.{list_from_cong}
use Rattle.channels.specs.View.{Outside}
use Rattle.channels.proofs.StoreLaws.{outside_set}
use Rattle.watches.specs.View.{entry_of, entry_at, watches_of, WatchesLeft}

-- those before j are done
pub record Swept (f : Watch → Watch) (deltas deltas' : List ℕ) (j : ℕ) : Type 0 where
  pub done : (k : ℕ) → k < j → entry_at deltas' k ≡ f (entry_at deltas k)
  pub left : (k : ℕ) → j ≤ k → k < 4 → entry_at deltas' k ≡ entry_at deltas k
  pub kept : Outside 120 128 0 deltas deltas'

module _ {f : Watch → Watch} {deltas deltas' : List ℕ} {j : ℕ} where
  pub swept_more : (c : ℕ) → Swept f deltas deltas' j → length deltas ≡ 128 → j < 4
      → entry_of (get_or deltas' (120 + j) 0) c ≡ f (entry_at deltas' j) → Swept f deltas (set deltas' (124 + j) c) (j + 1)
  swept_more c s long h e =
      record {
        done = λ k l. ⊎_elim (λ (q : k ≡ j). ap (entry_at next) q ∙ here ∙ ap f (sym (ap (entry_at deltas) q)))
            (λ (m : k < j). other k (omega (arith, m, h)) (λ q. omega (arith, q, m)) ∙ s.done k m) (eq-or-lt_of_le (omega arith));
        left = λ k l m. other k m (λ q. omega (arith, q, l)) ∙ s.left k (omega arith) m;
        kept = outside_set (124 + j) c (omega arith) (omega arith) s.kept;
      }
    where
      next : List ℕ
      next = set deltas' (124 + j) c

      value : (k : ℕ) → k < 4 → get_or next (120 + k) 0 ≡ get_or deltas' (120 + k) 0
      value k l = get_or-set_other deltas' (124 + j) (120 + k) c 0 (λ q. omega (arith, q, l))

      here : entry_at next j ≡ f (entry_at deltas j)
      here = ap₂ entry_of (value j h) (get_or-set_same deltas' (124 + j) c 0 (omega (arith, s.kept.len, long, h))) ∙ e
          ∙ ap f (s.left j (omega arith) h)

      other : (k : ℕ) → k < 4 → (k ≡ j → ⊥) → entry_at next k ≡ entry_at deltas' k
      other k l ne = ap₂ entry_of (value k l) (get_or-set_other deltas' (124 + j) (124 + k) c 0 (λ q. ne (omega (arith, q))))

  pub swept_all : Swept f deltas deltas' j → 4 ≤ j → WatchesLeft (map f (watches_of deltas)) deltas deltas'
  swept_all s h =
      record {
        watches = list_from_cong 4 0 (entry_at deltas') (λ k. f (entry_at deltas k)) (λ k l. s.done k (omega (arith, h, l)));
        deltas_kept = s.kept;
      }

-- ---- time that passes

-- at those before j, and whether one of them expires
pub record Passed (t : ℕ) (deltas deltas' : List ℕ) (due : Bool) (j : ℕ) : Type 0 where
  pub swept : Swept (take_time t) deltas deltas' j
  pub due_is : due ≡ some j (λ n. expires t (entry_at deltas n))

module _ {t : ℕ} {deltas deltas' : List ℕ} {due : Bool} {j : ℕ} where
  pub passed_more : (c : ℕ) (b : Bool) → Passed t deltas deltas' due j → length deltas ≡ 128 → j < 4
      → entry_of (get_or deltas' (120 + j) 0) c ≡ take_time t (entry_at deltas' j) → b ≡ expires t (entry_at deltas' j)
      → Passed t deltas (set deltas' (124 + j) c) (due || b) (j + 1)
  passed_more c b p long h e q =
      record {
        swept = swept_more c p.swept long h e;
        due_is = ap₂ (λ (x y : Bool). x || y) p.due_is (q ∙ ap (expires t) (p.swept.left j (omega arith) h))
            ∙ sym (ap (λ (k : ℕ). some k (λ n. expires t (entry_at deltas n))) (add-one j));
      }

  pub passed_all : Passed t deltas deltas' due j → 4 ≤ j → j ≤ 4 → WatchesLeft (map (take_time t) (watches_of deltas)) deltas deltas'
  passed_all p h l = swept_all p.swept h

  pub due_all : Passed t deltas deltas' due j → 4 ≤ j → j ≤ 4 → due ≡ is_due t (watches_of deltas)
  unfolding is_due
  due_all p h l =
      let all : j ≡ 4 = omega arith in
      p.due_is ∙ ap (λ (k : ℕ). some k (λ n. expires t (entry_at deltas n))) all
