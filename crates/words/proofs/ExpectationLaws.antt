-- The words of two lines, one after the other, and the parts of a line that begins with `>`.
-- Assumes nothing.
use mathlib.Core.Path.{◌≡◌, refl, sym, ap, ◌∙◌}
use mathlib.Core.Bool.{Bool, true, false, not, cond, ◌&&◌}
use mathlib.Core.List.{List, [], ◌∷◌}
use Prim.Native.Nat.{ℕ, ◌-◌, ◌≤◌}
use native.Mathlib.Nat.{min-le_right}
use native.Mathlib.Omega.{arith}
use lib.Dec.{eqb}
use lib.Pointwise.{pointwise}
use lib.ListN.{length, take, drop, length-take, length-drop}
use borrow.Author.Tests.{eqb-true, eqb-false}
use Rattle.words.specs.Words.{run, first_word, after_word, words_of, is_blank, last_byte, without_return, content_of}
use Rattle.words.specs.Expectations.{before_parenthesis, expected_of, same_words}
use Rattle.words.proofs.SplitLaws.{words_more, words_none, is_word_is, same_word}

unlike : (v w : List ℕ) → (length v ≡ 0 → ⊥) → length w ≡ 0 → pointwise eqb v w ≡ false
unlike [] w h e = absurd (h refl)
unlike (x ∷ v) [] h e = refl
unlike (x ∷ v) (y ∷ w) h e = absurd (omega (arith, e))

-- the words of two lines, by the library's test of their first words
module _ (a b : List ℕ) where
  abbrev firsts : Bool
  firsts = pointwise eqb (first_word a) (first_word b)

  abbrev others : Bool
  others = same_words (words_of (after_word a)) (words_of (after_word b))

  pub same_step : same_words (words_of a) (words_of b) ≡ cond (is_blank a) (is_blank b) (firsts && others)
  same_step = at (is_blank a) (is_blank b) (eqb-true (length (first_word a)) 0) (eqb-false (length (first_word a)) 0)
      (eqb-true (length (first_word b)) 0) (eqb-false (length (first_word b)) 0) refl refl
    where
      at : (s t : Bool) → (is_blank a ≡ true → length (first_word a) ≡ 0) → (is_blank a ≡ false → length (first_word a) ≡ 0 → ⊥)
          → (is_blank b ≡ true → length (first_word b) ≡ 0) → (is_blank b ≡ false → length (first_word b) ≡ 0 → ⊥)
          → is_blank a ≡ s → is_blank b ≡ t → same_words (words_of a) (words_of b) ≡ cond s t (firsts && others)
      at true true a0 a1 b0 b1 e f = rw (words_none a (a0 e), words_none b (b0 f))
      at true false a0 a1 b0 b1 e f = rw (words_none a (a0 e), words_more b (b1 f))
      at false true a0 a1 b0 b1 e f = rw (words_more a (a1 e), words_none b (b0 f), unlike (first_word a) (first_word b) (a1 e) (b0 f))
      at false false a0 a1 b0 b1 e f = rw (words_more a (a1 e), words_more b (b1 f), is_word_is (first_word a) (first_word b))

-- a bit whose inverse is known
inverse : (r t : Bool) → not r ≡ t → r ≡ not t
inverse true t e = ap not e
inverse false t e = ap not e

-- ---- the same by what is found of the two lines

module _ (a b : List ℕ) where
  -- no word is left of the first
  pub same_none : is_blank a ≡ true → is_blank b ≡ same_words (words_of a) (words_of b)
  same_none p = rw (words_none a (eqb-true (length (first_word a)) 0 p)) (at (is_blank b) refl)
    where
      at : (t : Bool) → is_blank b ≡ t → t ≡ same_words [] (words_of b)
      at true e = rw (words_none b (eqb-true (length (first_word b)) 0 e))
      at false e = rw (words_more b (eqb-false (length (first_word b)) 0 e))

  -- a word is left of the first, and the first words are the same or not
  pub same_more : (r : Bool) → is_blank a ≡ false → (r ≡ true → first_word a ≡ first_word b) × (first_word a ≡ first_word b → r ≡ true)
      → same_words (words_of a) (words_of b) ≡ (r && same_words (words_of (after_word a)) (words_of (after_word b)))
  same_more r p h = rw (words_more a (eqb-false (length (first_word a)) 0 p)) (at (is_blank b) refl)
    where
      at : (t : Bool) → is_blank b ≡ t → same_words (first_word a ∷ words_of (after_word a)) (words_of b)
          ≡ (r && same_words (words_of (after_word a)) (words_of (after_word b)))
      at true e = rw (words_none b (eqb-true (length (first_word b)) 0 e)) (sym (unlike r h.0))
        where
          unlike : (t : Bool) → (t ≡ true → first_word a ≡ first_word b)
              → (t && same_words (words_of (after_word a)) (words_of (after_word b))) ≡ false
          unlike true g = absurd (eqb-false (length (first_word a)) 0 p (ap length (g refl) ∙ eqb-true (length (first_word b)) 0 e))
          unlike false g = refl
      at false e = rw (words_more b (eqb-false (length (first_word b)) 0 e), sym (same_word (first_word a) (first_word b) r h))

  -- the same by what the code finds: its words, its answer to their being the same, and what it compares after them
  module _ (w v : List ℕ) (r : Bool) (p : is_blank a ≡ false) (f : w ≡ first_word a) (g : v ≡ first_word b)
      (h : (r ≡ true → w ≡ v) × (w ≡ v → r ≡ true)) where
    found : same_words (words_of a) (words_of b) ≡ (r && same_words (words_of (after_word a)) (words_of (after_word b)))
    found = same_more r p (λ e. sym f ∙ h.0 e ∙ g, λ e. h.1 (f ∙ e ∙ sym g))

    pub other_words : not r ≡ true → false ≡ same_words (words_of a) (words_of b)
    other_words e = sym (found ∙ ap (λ (t : Bool). t && same_words (words_of (after_word a)) (words_of (after_word b))) (inverse r true e))

    pub later_words : (x y : List ℕ) (s : Bool) → not r ≡ false → x ≡ after_word a → y ≡ after_word b
        → s ≡ same_words (words_of x) (words_of y) → s ≡ same_words (words_of a) (words_of b)
    later_words x y s e i j k =
        k ∙ ap (λ (l : List ℕ). same_words (words_of l) (words_of y)) i ∙ ap (λ (l : List ℕ). same_words (words_of (after_word a)) (words_of l)) j
        ∙ sym (found ∙ ap (λ (t : Bool). t && same_words (words_of (after_word a)) (words_of (after_word b))) (inverse r false e))

-- ---- no part is longer than the whole

take_short : (n : ℕ) (l : List ℕ) → length (take n l) ≤ length l
take_short n l = omega (arith, length-take n l, min-le_right n (length l))

drop_short : (n : ℕ) (l : List ℕ) → length (drop n l) ≤ length l
drop_short n l = omega (arith, length-drop n l)

content_short : (line : List ℕ) → length (content_of line) ≤ length line
unfolding content_of without_return
content_short line = omega (arith, take_short (run false 35 (without_return line)) (without_return line), at (eqb (last_byte line) 13))
  where
    at : (t : Bool) → length (cond t (take (length line - 1) line) line) ≤ length line
    at true = take_short (length line - 1) line
    at false = omega arith

pub expected_short : (line : List ℕ) → length (expected_of line) ≤ length line
unfolding expected_of before_parenthesis
expected_short line =
    let text = content_of line in
    let mark = drop (run false 62 text) text in
    omega (
      arith,
      take_short (run false 40 (drop 1 mark)) (drop 1 mark),
      drop_short 1 mark,
      drop_short
          (run false 62 text) text,
      content_short line,
    )
