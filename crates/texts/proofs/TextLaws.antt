-- Numbers and lists as text.
-- Assumes nothing.
use mathlib.Core.Path.{◌≡◌, refl, sym, ap, subst, ◌∙◌}
use mathlib.Core.Bool.{Bool, true, false, cond, ◌||◌}
use mathlib.Core.List.{List, [], ◌∷◌, ◌++◌, append-nil, append_assoc}
use Prim.Native.Nat.{ℕ, zero, suc, ◌+◌, ◌-◌, ◌*◌, ◌/◌, ◌%◌, ◌^◌, ◌≤◌, ◌<◌}
use native.Mathlib.Nat.{pow-suc, one-le-pow, mul-le-mul_left, le-div_iff_mul-le, div-lt_iff_lt-mul}
use native.Mathlib.Omega.{arith}
use lib.Dec.{ltb, leb, eqb}
use lib.IntN.{ℤ, pos, negsuc}
use mir.Syntax.{w16, w32}
use mir.Val.{SFits, of_z}
use Rattle.std.specs.Int.{is_negative, to_be_bytes}
use Rattle.std.proofs.lemmas.List.{take_more}
use Rattle.std.specs.Int.RustNames.{unsigned_abs}
use lib.Pow.{pow-add}
use lib.ListN.{length, take, get_or}
use borrow.Author.Tests.{eqb-true, eqb-false, lt-ltb, le-ltb, leb-true, leb-false}
use Rattle.io.specs.Digits.{last_digits, IsDigitCount}
use Rattle.words.specs.Words.{first_word, after_word, words_of, is_blank}
use Rattle.words.proofs.SplitLaws.{words_more, words_none, after_shorter}
use Rattle.texts.specs.Texts.{digits_of, places_of, hex_text, long_hex_text, decimal_text, bits_text, each_text, words_text}
use Rattle.texts.specs.Texts.{place_text, places_from, places_text, run_text, runs_from, runs_text}
use Rattle.words.specs.Buffers.{put}
use Rattle.words.proofs.BufferLaws.{put_none, put_then}

-- ---- decimal digits

-- io's digits are lower case; those of base 10 have none
decimal_digits : (k n : ℕ) → last_digits 10 k n ≡ digits_of 10 k n
decimal_digits zero n = refl
decimal_digits (suc k) n =
    let small : ltb (n % 10) 10 ≡ true = lt-ltb (n % 10) 10 (omega arith) in
    rw (small, decimal_digits k (n / 10))

ten_more : (m : ℕ) → 10 ≤ 10 ^ suc m
ten_more m = omega (arith, pow-suc 10 m, one-le-pow m 10 (omega arith))

less : (m : ℕ) → suc m - 1 ≡ m
less m = omega arith

places_is : (f n k : ℕ) → 1 ≤ k → k ≤ suc f → n < 10 ^ k → (1 < k → 10 ^ (k - 1) ≤ n) → k ≡ places_of f n
places_is zero n k h l s b = omega arith
places_is (suc f) n zero h l s b = absurd (omega arith)
places_is (suc f) n (suc zero) h l s b = rw (lt-ltb n 10 s)
places_is (suc f) n (suc (suc m)) h l s b =
    let big : 10 ^ suc m ≤ n = subst (λ x. 10 ^ x ≤ n) (less (suc m)) (b (omega arith)) in
    rw (le-ltb n 10 (omega (arith, big, ten_more m)))
    (ap suc (places_is f (n / 10) (suc m) (omega arith) (omega arith)
    ((div-lt_iff_lt-mul (omega arith)).1 (subst (λ x. n < x) (pow-suc 10 (suc m)) s))
    (λ g. (le-div_iff_mul-le (omega arith)).1 (subst (λ x. x ≤ n) (pow-suc 10 m ∙ ap (λ x. 10 ^ x * 10) (sym (less m))) big))))

-- 64 bits have at most 20 digits
few_places : (n k : ℕ) → n < 2 ^ 64 → (1 < k → 10 ^ (k - 1) ≤ n) → k ≤ 20
few_places n k small b = at (leb k 20) refl
  where
    at : (t : Bool) → leb k 20 ≡ t → k ≤ 20
    at true e = leb-true k 20 e
    at false e =
        let more : 20 < k = leb-false k 20 e in
        let big : 10 ^ (20 + (k - 21)) ≤ n = subst (λ x. 10 ^ x ≤ n) (omega arith) (b (omega arith)) in
        let large : 100000000000000000000 * 1 ≤ 10 ^ 20 * 10 ^ (k - 21) = mul-le-mul_left 100000000000000000000
        (one-le-pow (k - 21) 10 (omega arith)) in
        absurd (omega (arith, subst (λ x. x ≤ n) (pow-add 10 20 (k - 21)) big))

-- the digits that `io::decimal` finds
pub decimal_is : (n k : ℕ) (t : List ℕ) → n < 2 ^ 64 → IsDigitCount 10 1 n k → t ≡ last_digits 10 k n → t ≡ decimal_text n
unfolding decimal_text
decimal_is n k t h f e = e ∙ decimal_digits k n ∙ ap (λ j. digits_of 10 j n)
    (places_is 19 n k f.0 (few_places n k h f.2) f.1 f.2)

-- ---- numbers by bytes, and with a sign

-- the bytes of 32 bits, the highest first
pub long_hex_is : (n : ℕ) → n < 2 ^ 32 → long_hex_text n ≡ each_text hex_text (to_be_bytes w32 n)
unfolding long_hex_text hex_text
long_hex_is n h =
    let high : n / 16777216 % 256 ≡ n / 16777216 = omega arith in
    simp high

-- 16 bits are written by their sign and their absolute value
pub signed_is : (z : ℤ) (n : ℕ) → SFits w16 z → n ≡ unsigned_abs z → bits_text (of_z w16 z)
    ≡ cond (is_negative z) (45 ∷ []) [] ++ decimal_text n
unfolding bits_text
signed_is (pos k) n f e =
    let fits : k < 32768 = f.sfits in
    rw (e, lt-ltb k 32768 fits, le-ltb k 0 (omega arith))
signed_is (negsuc k) n f e =
    let fits : k < 32768 = f.sfits in
    rw (e, le-ltb (65536 - suc k) 32768 (omega arith)) (ap (λ k. 45 ∷ decimal_text k) (omega arith))

-- ---- lists

module _ {A : Type 0} (f : A → List ℕ) where
  each_snoc : (xs : List A) (x : A) → each_text f (xs ++ (x ∷ [])) ≡ each_text f xs ++ f x
  each_snoc [] x = append-nil (f x)
  each_snoc (y ∷ xs) x = ap (λ (l : List ℕ). f y ++ l) (each_snoc xs x) ∙ sym (append_assoc (f y) (each_text f xs) (f x))

  -- one element more
  pub each_more : (n : ℕ) (b : List ℕ) (xs : List A) (i : ℕ) (d : A) → i < length xs
      → put n (put n b (each_text f (take i xs))) (f (get_or xs i d)) ≡ put n b (each_text f (take (i + 1) xs))
  each_more n b xs i d h =
      put_then n b (each_text f (take i xs)) (f (get_or xs i d))
      ∙ ap (put n b) (sym (ap (each_text f) (take_more xs i d h) ∙ each_snoc (take i xs) (get_or xs i d)))

-- ---- words

-- no word is left
pub words_put_none : (l : List ℕ) → is_blank l ≡ true → words_text (words_of l) ≡ []
words_put_none l p = ap words_text (words_none l (eqb-true (length (first_word l)) 0 p))

-- the first word and those after it
pub words_put_more : (l : List ℕ) → is_blank l ≡ false
    → words_text (words_of l) ≡ (32 ∷ []) ++ first_word l ++ words_text (words_of (after_word l))
words_put_more l p = ap words_text (words_more l (eqb-false (length (first_word l)) 0 p))

-- a word after the other
pub ruleset each_word = (put_none, put_then, after_shorter, words_put_none, words_put_more)

-- ---- places

-- text that was put, and what is left of the places
pub record Placing (most bits : ℕ) (before : List ℕ) (n rest : ℕ) (after : List ℕ) : Type 0 where
  pub text : List ℕ
  pub put : after ≡ put most before text
  pub left : text ++ places_from (17 - n) n rest ≡ places_text bits

pub placing_none : (most bits : ℕ) (b : List ℕ) → Placing most bits b 1 bits b
unfolding places_text
placing_none most bits b = record { text = []; put = sym (put_none most b); left = refl }

pub placing_more : {most bits n rest : ℕ} {a b c : List ℕ} → n < 17 → Placing most bits a n rest b → c ≡ put most b (place_text n rest)
    → Placing most bits a (n + 1) (rest / 2) c
placing_more {most} {bits} {n} {rest} {a} {b} {c} h u v =
    let e : 17 - n ≡ suc (17 - (n + 1)) = omega arith in
    record {
      text = u.text ++ place_text n rest;
      put = v ∙ ap (λ (l : List ℕ). put most l (place_text n rest)) u.put ∙ put_then most a u.text (place_text n rest);
      left = append_assoc u.text (place_text n rest) (places_from (17 - (n + 1)) (n + 1) (rest / 2))
          ∙ ap (λ k. u.text ++ places_from k n rest) (sym e) ∙ u.left;
    }

-- ---- runs

-- text that was put, and what is left of the runs
pub record Runs (most from bits : ℕ) (held : List ℕ) (n rest : ℕ) (some before : Bool) (after : List ℕ) : Type 0 where
  pub text : List ℕ
  pub put : after ≡ put most held text
  pub left : text ++ runs_from (from + 32 - n) n some before rest ≡ runs_text from bits

pub running_none : (most from bits : ℕ) (b : List ℕ) → Runs most from bits b from bits false false b
unfolding runs_text
running_none most from bits b =
    let all : from + 32 - from ≡ 32 = omega arith in
    record { text = []; put = sym (put_none most b); left = ap (λ k. runs_from k from false false bits) all }

pub running_more : {most from bits n rest : ℕ} {some before : Bool} {a b c : List ℕ} → n < from + 32
    → Runs most from bits a n rest some before b → c ≡ put most b (run_text n some before rest)
    → Runs most from bits a (n + 1) (rest / 2) (some || eqb (rest % 2) 1) (eqb (rest % 2) 1) c
running_more {most} {from} {bits} {n} {rest} {some} {before} {a} {b} {c} h u v =
    let here = run_text n some before rest in
    let k = from + 32 - (n + 1) in
    let later = runs_from k (n + 1) (some || eqb (rest % 2) 1) (eqb (rest % 2) 1) (rest / 2) in
    let e : from + 32 - n ≡ suc k = omega arith in
    record {
      text = u.text ++ here;
      put = v ∙ ap (λ (l : List ℕ). put most l here) u.put ∙ put_then most a u.text here;
      left = append_assoc u.text here later ∙ ap (λ j. u.text ++ runs_from j n some before rest) (sym e) ∙ u.left;
    }
