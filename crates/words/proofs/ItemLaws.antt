-- The items of a line's words, read one after the other into a buffer.
-- Assumes nothing.
use mathlib.Core.Path.{◌≡◌, refl, sym, ap, ◌∙◌}
use mathlib.Core.Bool.{Bool, true, false, ◌||◌}
use mathlib.Core.List.{List, [], ◌∷◌, ◌++◌, append_assoc}
use Prim.Native.Nat.{ℕ, zero, suc, ◌+◌, ◌-◌, ◌≤◌}
use native.Mathlib.Omega.{arith}
use lib.Dec.{eqb}
use Rattle.std.specs.Prelude.{nat_le}
use lib.ListN.{length, take, drop, length-append, length-drop}
use lib.Seq.{take-nil, drop-drop}
use borrow.Author.Tests.{eqb-true, eqb-false}
use Rattle.std.proofs.Common.{Ok, Err}
use Rattle.std.proofs.lemmas.Bool.Decides.{nat_tests}
use Rattle.words.specs.declared.Expected.{Expected}
use Rattle.words.specs.declared.Expected.TheVariants as Ex
use Rattle.words.specs.Buffers.{put}
use Rattle.words.specs.Words.{run, spaces, words_of, word_end, first_word, after_word, is_word}
use Rattle.words.specs.Items.{Item, Found, slash, is_over, read_as, with_item, items_of}
use Rattle.words.specs.Items.Found.{items, missing}
use Rattle.words.proofs.RunLaws.{run_within}
use Rattle.words.proofs.SplitLaws.{words_none, words_more}

-- no item follows where no word is left, or the first is a `/`
pub over_is : (l : List ℕ) → is_over (words_of l) ≡ (eqb (length (first_word l)) 0 || is_word (first_word l) slash)
over_is l = at (eqb (length (first_word l)) 0) refl
  where
    at : (t : Bool) → eqb (length (first_word l)) 0 ≡ t → is_over (words_of l) ≡ (t || is_word (first_word l) slash)
    at true e = ap is_over (words_none l (eqb-true (length (first_word l)) 0 e))
    at false e = ap is_over (words_more l (eqb-false (length (first_word l)) 0 e))

pub not_over : (l : List ℕ) → is_over (words_of l) ≡ false → (length (first_word l) ≡ 0 → ⊥) × (is_word (first_word l) slash ≡ false)
not_over l e = let o = over_is l in (λ z. grind (arith, nat_tests), grind (arith, nat_tests))

module _ {A : Type 0} where
  -- items in front of what is found
  abbrev pub onto : List A → Found A → Found A
  onto xs (items ys ws) = items (xs ++ ys) ws
  onto xs (missing e) = missing e

  onto_more : (xs : List A) (x : A) (f : Found A) → onto xs (with_item x f) ≡ onto (xs ++ (x ∷ [])) f
  onto_more xs x (items ys ws) = ap (λ (l : List A). items l ws) (sym (append_assoc xs (x ∷ []) ys))
  onto_more xs x (missing e) = refl

module _ {A : Type 0} (k : Item A) where
  module _ (w : List ℕ) (ws : List (List ℕ)) (on : is_word w slash ≡ false) where
    items_wrong : (n : ℕ) (e : Expected) → read_as k w ≡ Err e → items_of k n (w ∷ ws) ≡ missing e
    items_wrong zero e r = grind (arith, nat_tests)
    items_wrong (suc n) e r = grind (arith, nat_tests)

    items_full : (x : A) → read_as k w ≡ Ok x → items_of k 0 (w ∷ ws) ≡ missing Ex.Fewer
    items_full x r = grind (arith, nat_tests)

    items_more : (n : ℕ) (x : A) → read_as k w ≡ Ok x → items_of k (suc n) (w ∷ ws) ≡ with_item x (items_of k n ws)
    items_more n x r = grind (arith, nat_tests)

-- what is held are the items of the words before `rest`
pub record Reading {A : Type 0} (k : Item A) (most : ℕ) (line : List ℕ) (held : List A) (rest : List ℕ) : Type 0 where
  pub found : items_of k most (words_of line) ≡ onto held (items_of k (most - length held) (words_of rest))
  pub room : length held ≤ most
  pub behind : rest ≡ drop (length line - length rest) line

-- the end of a line goes on past its first word
ends_on : (line rest : List ℕ) → rest ≡ drop (length line - length rest) line
    → after_word rest ≡ drop (length line - length (after_word rest)) line
unfolding after_word word_end
ends_on line rest e =
    let n = spaces rest in
    let m = run false 32 (drop n rest) in
    let whole : length rest ≤ length line = omega (arith, ap length e, length-drop (length line - length rest) line) in
    let in-word : m ≤ length (drop n rest) = run_within false 32 (drop n rest) in
    let in-line : n ≤ length rest = run_within true 32 rest in
    ap (drop (n + m)) e ∙ drop-drop (n + m) (length line - length rest) line
    ∙ ap (λ i. drop i line) (omega (arith, length-drop n rest, length-drop (n + m) rest))

module _ {A : Type 0} (k : Item A) (most : ℕ) (line : List ℕ) (held : List A) (rest : List ℕ) (so : Reading k most line held rest) where
  module _ (on : is_over (words_of rest) ≡ false) where
    here : items_of k most (words_of line)
        ≡ onto held (items_of k (most - length held) (first_word rest ∷ words_of (after_word rest)))
    here = so.found ∙ ap (λ ws. onto held (items_of k (most - length held) ws)) (words_more rest (not_over rest on).0)

    pub reading_wrong : (e : Expected) → read_as k (first_word rest) ≡ Err e → items_of k most (words_of line) ≡ missing e
    reading_wrong e r = here ∙ ap (onto held)
        (items_wrong k (first_word rest) (words_of (after_word rest)) (not_over rest on).1 (most - length held) e r)

    pub reading_full : (x : A) → read_as k (first_word rest) ≡ Ok x → nat_le most (length held) ≡ true
        → items_of k most (words_of line) ≡ missing Ex.Fewer
    reading_full x r full =
        let none : most - length held ≡ 0 = grind (arith, nat_tests) in
        here
        ∙ ap (λ m. onto held (items_of k m (first_word rest ∷ words_of (after_word rest)))) none
        ∙ ap (onto held) (items_full k (first_word rest) (words_of (after_word rest)) (not_over rest on).1 x r)

    pub reading_more : (x : A) → read_as k (first_word rest) ≡ Ok x → nat_le most (length held) ≡ false
        → Reading k most line (put most held (x ∷ [])) (after_word rest)
    unfolding put
    reading_more x r free =
        let n = most - (length held + 1) in
        let left : most - length held ≡ suc n = grind (arith, nat_tests) in
        let taken : held ++ take (most - length held) (x ∷ []) ≡ held ++ (x ∷ []) =
        ap (λ m. held ++ take m (x ∷ [])) left ∙ ap (λ (ys : List A). held ++ (x ∷ ys)) (take-nil n) in
        let long : length (held ++ (x ∷ [])) ≡ length held + 1 = length-append held (x ∷ []) in
        rw taken (record {
          found =
              here
              ∙ ap (λ m. onto held (items_of k m (first_word rest ∷ words_of (after_word rest)))) left
              ∙ ap (onto held) (items_more k (first_word rest) (words_of (after_word rest)) (not_over rest on).1 n x r)
              ∙ onto_more held x (items_of k n (words_of (after_word rest)))
              ∙ ap (λ m. onto (held ++ (x ∷ [])) (items_of k (most - m) (words_of (after_word rest)))) (sym long);
          room = grind (arith, nat_tests, long);
          behind = ends_on line rest so.behind;
        })
