-- The words of a line, one after the other: the first word and the words after it.
-- Assumes nothing.
use mathlib.Core.Path.{◌≡◌, refl, sym, ap, subst, ◌∙◌}
use mathlib.Core.Bool.{Bool, true, false, cond, ◌&&◌}
use mathlib.Core.List.{List, [], ◌∷◌}
use Prim.Native.Nat.{ℕ, suc, ◌+◌, ◌≤◌, ◌<◌}
use native.Mathlib.Omega.{arith}
use lib.Dec.{eqb}
use lib.Pointwise.{pointwise}
use lib.ListN.{length, take, drop, length-drop}
use lib.Seq.{drop-drop, length-take-le}
use borrow.Author.Tests.{eqb-true, eqb-false, eq-eqb}
use Rattle.words.specs.Words.{run, spaces, word_end, first_word, after_word, with_byte, pieces_of, without_empty, words_of, first_of}
use Rattle.words.specs.Words.{others_of, is_word}
use Rattle.words.proofs.RunLaws.{run_within}

-- the pieces after a space
abbrev after_space : List ℕ → List (List ℕ)
after_space [] = []
after_space (x ∷ xs) = pieces_of xs

-- the first piece goes to the first space
pieces_first : (l : List ℕ) → pieces_of l ≡ take (run false 32 l) l ∷ after_space (drop (run false 32 l) l)
pieces_first [] = refl
pieces_first (x ∷ xs) = at (eqb x 32) (pieces_first xs)
  where
    at : (t : Bool) → pieces_of xs ≡ take (run false 32 xs) xs ∷ after_space (drop (run false 32 xs) xs) → cond t ([] ∷ pieces_of xs)
        (with_byte x (pieces_of xs)) ≡ take (cond t 0 (suc (run false 32 xs))) (x ∷ xs) ∷ after_space
        (drop (cond t 0 (suc (run false 32 xs))) (x ∷ xs))
    at true r = refl
    at false r = ap (with_byte x) r

-- spaces in front make no words
words_skip : (l : List ℕ) → without_empty (pieces_of l) ≡ without_empty (pieces_of (drop (run true 32 l) l))
words_skip [] = refl
words_skip (x ∷ xs) = at (eqb x 32) refl (words_skip xs)
  where
    at : (t : Bool) → eqb x 32 ≡ t → without_empty (pieces_of xs) ≡ without_empty (pieces_of (drop (run true 32 xs) xs)) → without_empty
        (pieces_of (x ∷ xs)) ≡ without_empty (pieces_of (drop (cond t (suc (run true 32 xs)) 0) (x ∷ xs)))
    at true e r = rw e r
    at false e r = refl

-- what follows a piece is the end or a space, which makes no word
words_after : (l : List ℕ) → without_empty (after_space (drop (run false 32 l) l)) ≡ without_empty (pieces_of (drop (run false 32 l) l))
words_after [] = refl
words_after (x ∷ xs) = at (eqb x 32) refl (words_after xs)
  where
    at : (t : Bool) → eqb x 32 ≡ t → without_empty (after_space (drop (run false 32 xs) xs)) ≡ without_empty
        (pieces_of (drop (run false 32 xs) xs)) → without_empty
        (after_space (drop (cond t 0 (suc (run false 32 xs))) (x ∷ xs))) ≡ without_empty
        (pieces_of (drop (cond t 0 (suc (run false 32 xs))) (x ∷ xs)))
    at true e r = rw e
    at false e r = r

-- past the spaces in front stands a word or nothing
ends_there : (l : List ℕ) → run false 32 (drop (run true 32 l) l) ≡ 0 → drop (run true 32 l) l ≡ []
ends_there [] e = refl
ends_there (x ∷ xs) e = at (eqb x 32) refl (ends_there xs) e
  where
    at : (t : Bool) → eqb x 32 ≡ t → (run false 32 (drop (run true 32 xs) xs) ≡ 0 → drop (run true 32 xs) xs ≡ []) → run false 32
        (drop (cond t (suc (run true 32 xs)) 0) (x ∷ xs)) ≡ 0 → drop (cond t (suc (run true 32 xs)) 0) (x ∷ xs) ≡ []
    at true p r e = r e
    at false p r e =
        let q : suc (run false 32 xs) ≡ 0 = subst (λ (t : Bool). cond t 0 (suc (run false 32 xs)) ≡ 0) p e in
        absurd (omega (arith, q))

first_long : (l : List ℕ) → length (first_word l) ≡ run false 32 (drop (spaces l) l)
unfolding first_word
first_long l = length-take-le (run false 32 (drop (spaces l) l)) (drop (spaces l) l) (run_within false 32 (drop (spaces l) l))

-- the words of a line, by its first piece past the spaces in front
words_of_lem : (l : List ℕ) → words_of l ≡ without_empty (first_word l ∷ after_space (drop (run false 32 (drop (spaces l) l)) (drop (spaces l) l)))
unfolding words_of first_word
words_of_lem l = words_skip l ∙ ap without_empty (pieces_first (drop (spaces l) l))

words_behind : (l : List ℕ) → without_empty (after_space (drop (run false 32 (drop (spaces l) l)) (drop (spaces l) l))) ≡ words_of
    (after_word l)
unfolding words_of after_word word_end
words_behind l = words_after (drop (spaces l) l) ∙ ap (λ (x : List ℕ). without_empty (pieces_of x))
    (drop-drop (run false 32 (drop (spaces l) l)) (spaces l) l)

with_first : (w : List ℕ) (ps : List (List ℕ)) → (length w ≡ 0 → ⊥) → without_empty (w ∷ ps) ≡ w ∷ without_empty ps
with_first [] ps h = absurd (h refl)
with_first (x ∷ w) ps h = refl

-- a line that is not blank has its first word and the words after it
pub words_more : (l : List ℕ) → (length (first_word l) ≡ 0 → ⊥) → words_of l ≡ first_word l ∷ words_of (after_word l)
words_more l h = words_of_lem l ∙ with_first (first_word l) (after_space (drop (run false 32 (drop (spaces l) l)) (drop (spaces l) l))) h ∙ ap
    (λ (ws : List (List ℕ)). first_word l ∷ ws) (words_behind l)

past_blank : (l : List ℕ) → length (first_word l) ≡ 0 → drop (spaces l) l ≡ []
past_blank l e = ends_there l (sym (first_long l) ∙ e)

-- a blank line has none
pub words_none : (l : List ℕ) → length (first_word l) ≡ 0 → words_of l ≡ []
unfolding words_of
words_none l e = words_skip l ∙ ap (λ (x : List ℕ). without_empty (pieces_of x)) (past_blank l e)

none_behind : (l : List ℕ) → length (first_word l) ≡ 0 → words_of (after_word l) ≡ []
none_behind l e = sym (words_behind l) ∙ ap (λ (x : List ℕ). without_empty (after_space (drop (run false 32 x) x))) (past_blank l e)

pub first_of_lem : (l w : List ℕ) → w ≡ first_word l → w ≡ first_of (words_of l)
first_of_lem l w p = at (eqb (length (first_word l)) 0) refl
  where
    at : (t : Bool) → eqb (length (first_word l)) 0 ≡ t → w ≡ first_of (words_of l)
    at true e = p ∙ empty (first_word l) (eqb-true (length (first_word l)) 0 e) ∙ sym
        (ap first_of (words_none l (eqb-true (length (first_word l)) 0 e)))
      where
        empty : (x : List ℕ) → length x ≡ 0 → x ≡ []
        empty [] e = refl
        empty (y ∷ x) e = absurd (omega (arith, e))
    at false e = p ∙ sym (ap first_of (words_more l (eqb-false (length (first_word l)) 0 e)))

pub others_of_lem : (l r : List ℕ) → r ≡ after_word l → words_of r ≡ others_of (words_of l)
others_of_lem l r p = at (eqb (length (first_word l)) 0) refl
  where
    at : (t : Bool) → eqb (length (first_word l)) 0 ≡ t → words_of r ≡ others_of (words_of l)
    at true e = ap words_of p ∙ none_behind l (eqb-true (length (first_word l)) 0 e) ∙ sym
        (ap others_of (words_none l (eqb-true (length (first_word l)) 0 e)))
    at false e = ap words_of p ∙ sym (ap others_of (words_more l (eqb-false (length (first_word l)) 0 e)))

-- what follows a word is shorter than the line
pub after_shorter : (l : List ℕ) → (length (first_word l) ≡ 0 → ⊥) → length (after_word l) < length l
unfolding after_word word_end
after_shorter l h =
    let n = run false 32 (drop (spaces l) l) in
    let some : 1 ≤ n = omega (arith, first_long l, h) in
    omega (arith, length-drop (spaces l + n) l, length-drop (spaces l) l, run_within false 32 (drop (spaces l) l))

unlike : ◌≡◌ {A = Bool} false true → ⊥
unlike e = let z : ◌≡◌ {A = ℕ} 0 1 = ap (λ (t : Bool). cond t 1 0) e in absurd (omega (arith, z))

-- the test of the library and the test of two words
is_word_refl : (a : List ℕ) → is_word a a ≡ true
is_word_refl [] = refl
is_word_refl (x ∷ a) = rw (eq-eqb x x refl) (is_word_refl a)

is_word_eq : (a b : List ℕ) → is_word a b ≡ true → a ≡ b
is_word_eq [] [] e = refl
is_word_eq [] (y ∷ b) e = absurd (unlike e)
is_word_eq (x ∷ a) [] e = absurd (unlike e)
is_word_eq (x ∷ a) (y ∷ b) e = at (eqb x y) refl (is_word_eq a b) e
  where
    at : (t : Bool) → eqb x y ≡ t → (is_word a b ≡ true → a ≡ b) → (t && is_word a b) ≡ true → x ∷ a ≡ y ∷ b
    at true p r e = ap (λ k. k ∷ a) (eqb-true x y p) ∙ ap (λ (l : List ℕ). y ∷ l) (r e)
    at false p r e = absurd (unlike e)

pub same_word : (a b : List ℕ) (r : Bool) → ((r ≡ true → a ≡ b) × (a ≡ b → r ≡ true)) → r ≡ is_word a b
same_word a b true h = sym (is_word_refl a) ∙ ap (is_word a) (h.0 refl)
same_word a b false h = at (is_word a b) refl
  where
    at : (t : Bool) → is_word a b ≡ t → false ≡ t
    at true e = h.1 (is_word_eq a b e)
    at false e = refl

-- the library's test of two texts and the test of two words
pub is_word_is : (a b : List ℕ) → pointwise eqb a b ≡ is_word a b
is_word_is [] [] = refl
is_word_is [] (y ∷ b) = refl
is_word_is (x ∷ a) [] = refl
is_word_is (x ∷ a) (y ∷ b) = ap (λ t. eqb x y && t) (is_word_is a b)
