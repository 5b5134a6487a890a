-- Laws of the elements in front of a list that are a byte, or are not.
-- Assumes nothing.
use mathlib.Core.Path.{◌≡◌, refl, sym, ap, ◌∙◌}
use mathlib.Core.Bool.{Bool, true, false, not, cond}
use mathlib.Core.List.{List, [], ◌∷◌}
use Prim.Native.Nat.{ℕ, suc, ◌+◌, ◌≤◌}
use native.Mathlib.Numerals.{one-add}
use native.Mathlib.Omega.{arith}
use lib.Dec.{eqb}
use lib.ListN.{length}
use Rattle.std.specs.Prelude.{Option, unwrap_or}
use Rattle.std.specs.List.{position, position_or_len}
use Rattle.std.proofs.lemmas.List.Recursion.{is_position_or_len}
use Rattle.std.proofs.lemmas.Bool.Decides.{nat_tests}
use Rattle.std.proofs.lemmas.List.Sums.{prefix_len-le-length}
use Rattle.words.specs.Words.{run, InFront}

within_cond : (t : Bool) (n k : ℕ) → n ≤ k → (cond t (suc n) 0 ≤ suc k) × (cond t 0 (suc n) ≤ suc k)
within_cond true n k h = (omega arith, omega arith)
within_cond false n k h = (omega arith, omega arith)

pub run_within : (same : Bool) (b : ℕ) (xs : List ℕ) → run same b xs ≤ length xs
run_within true b [] = omega arith
run_within false b [] = omega arith
run_within true b (x ∷ xs) = (within_cond (eqb x b) (run true b xs) (length xs) (run_within true b xs)).0
run_within false b (x ∷ xs) = (within_cond (eqb x b) (run false b xs) (length xs) (run_within false b xs)).1

-- the elements in front, as the library counts them
run_is : (b : ℕ) (xs : List ℕ) → (run true b xs ≡ position_or_len (λ x. not (eqb x b)) xs)
    × (run false b xs ≡ position_or_len (λ x. eqb x b) xs)
run_is b xs = (
  is_position_or_len (run true b) (λ x. not (eqb x b)) refl (λ x ys. step (eqb x b) (run true b ys)) xs,
  is_position_or_len (run false b) (λ x. eqb x b) refl (λ x ys. ap (cond (eqb x b) 0) (sym (one-add (run false b ys)))) xs,
)
  where
    step : (t : Bool) (n : ℕ) → cond t (suc n) 0 ≡ cond (not t) 0 (1 + n)
    step true n = sym (one-add n)
    step false n = refl

-- what a search finds, or the length where it finds none
place : (p : ℕ → Bool) (xs : List ℕ) (found : Option ℕ) → found ≡ position p xs → unwrap_or found (length xs) ≡ position_or_len p xs
place p xs found e = let most = prefix_len-le-length (λ x. not (p x)) xs in grind (arith, nat_tests)

module _ (b : ℕ) (xs : List ℕ) (found : Option ℕ) (r : ℕ) where
  pub leading_is : found ≡ position (λ x. not (eqb x b)) xs → r ≡ unwrap_or found (length xs) → InFront true b xs r
  leading_is e q =
      let is = q ∙ place (λ x. not (eqb x b)) xs found e ∙ sym (run_is b xs).0 in
      record { is = is; within = omega (arith, is, run_within true b xs) }

  pub until_is : found ≡ position (λ x. eqb x b) xs → r ≡ unwrap_or found (length xs) → InFront false b xs r
  until_is e q =
      let is = q ∙ place (λ x. eqb x b) xs found e ∙ sym (run_is b xs).1 in
      record { is = is; within = omega (arith, is, run_within false b xs) }
