-- The number that digits spell, read one digit after the other under a cap.
-- Assumes nothing.
use mathlib.Core.Path.{◌≡◌, refl}
use mathlib.Core.Bool.{cond}
use mathlib.Core.List.{List, [], ◌∷◌}
use Prim.Native.Nat.{ℕ, ◌+◌, ◌*◌, ◌≤◌, ◌<◌}
use native.Mathlib.Nat.{mul-le-mul_left}
use native.Mathlib.Numerals.{add-one}
use native.Mathlib.Omega.{arith}
use lib.ListN.{length, drop, get_or, drop_of_length-le}
use lib.Seq.{drop-cons}
use borrow.Author.Tests.{lt-ltb, le-ltb, eq-eqb, ne_eqb}
use Rattle.std.specs.Char.{digit_value}
use Rattle.std.proofs.lemmas.Bool.Decides.{nat_tests}
use Rattle.words.specs.Numbers.{digit_of, all_digits, spelled_on, no_number, capped, number_of, short_number, minus, plus, signed_of}

-- what is left of a word makes of the number so far
abbrev pub onward : ℕ → ℕ → List ℕ → ℕ
onward b v rest = cond (all_digits b rest) (capped (spelled_on b v rest)) no_number

-- a digit is the library's
digit_is : (x : ℕ) → (digit_value x < 16 → digit_of x ≡ digit_value x) × (16 ≤ digit_value x → digit_of x ≡ 16)
unfolding digit_of
digit_is x = (λ h. grind (arith, nat_tests), λ h. grind (arith, nat_tests))

-- more digits make no smaller number
spelled_most : (b v : ℕ) (rest : List ℕ) → 1 ≤ b → v ≤ spelled_on b v rest
spelled_most b v [] h = omega arith
spelled_most b v (x ∷ rest) h =
    let q : v * 1 ≤ v * b = mul-le-mul_left v h in
    omega (arith, q, spelled_most b (v * b + digit_of x) rest h)

pub onward_over : (b v : ℕ) (rest : List ℕ) → 1 ≤ b → no_number ≤ v → onward b v rest ≡ no_number
onward_over b v rest h k = let most = spelled_most b v rest h in grind (arith, nat_tests)

pub number_is : (b : ℕ) (word : List ℕ) → (length word ≡ 0 → ⊥) → onward b 0 word ≡ number_of b word
unfolding number_of
number_is b [] n = absurd (n refl)
number_is b (x ∷ xs) n = refl

pub number_none : (b : ℕ) (word : List ℕ) → length word ≡ 0 → no_number ≡ number_of b word
unfolding number_of
number_none b [] e = refl
number_none b (x ∷ xs) e = absurd (omega (arith, e))

-- the byte at i
module _ (b v : ℕ) (word : List ℕ) (i : ℕ) (base : b ≤ 16) where
  pub onward_more : i < length word → digit_value (get_or word i 0) < b
      → onward b v (drop i word) ≡ onward b (v * b + digit_value (get_or word i 0)) (drop (i + 1) word)
  onward_more inside h =
      let d = (digit_is (get_or word i 0)).0 (omega arith) in
      rw (add-one, drop-cons word i 0 inside) (grind (arith, nat_tests))

  pub onward_none : i < length word → b ≤ digit_value (get_or word i 0) → onward b v (drop i word) ≡ no_number
  onward_none inside h =
      let d = digit_is (get_or word i 0) in
      rw (drop-cons word i 0 inside) (grind (arith, nat_tests, d.0, d.1))

  pub onward_ends : length word ≤ i → v < no_number → onward b v (drop i word) ≡ v
  onward_ends h k = rw (drop_of_length-le word h, lt-ltb v no_number k)

-- what a loop over a word's digits needs
pub ruleset digits_read = (number_none, number_is, onward_more, onward_none, onward_over, onward_ends)

pub few_enough : (most : ℕ) (word : List ℕ) (r : ℕ) → length word ≤ most → r ≡ number_of 16 word → r ≡ short_number most word
unfolding short_number
few_enough most word r h e = rw (le-ltb most (length word) h) e

pub minus_is : (word : List ℕ) (r : ℕ) → get_or word 0 0 ≡ 45 → r ≡ minus (number_of 10 (drop 1 word)) → r ≡ signed_of word
unfolding signed_of
minus_is word r h e = rw (eq-eqb (get_or word 0 0) 45 h) e

pub plus_is : (word : List ℕ) (r : ℕ) → (get_or word 0 0 ≡ 45 → ⊥) → r ≡ plus (number_of 10 word) → r ≡ signed_of word
unfolding signed_of
plus_is word r h e = rw (ne_eqb (get_or word 0 0) 45 h) e
