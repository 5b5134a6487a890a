-- Tables of words: a table kept as one text, with `;` between the entries, says the table's words. (The code keeps each text by itself,
-- in a `match`; see `crates/answers/src/tables.rt`.)
-- Assumes nothing.
use mathlib.Core.Path.{◌≡◌, refl, ap, ◌∙◌}
use mathlib.Core.Bool.{Bool, true, false, cond}
use mathlib.Core.List.{List, [], ◌∷◌}
use Prim.Native.Nat.{ℕ, zero, suc, ◌<◌}
use native.Mathlib.Omega.{arith}
use lib.Dec.{eqb}
use lib.ListN.{length, take, drop, get_or}
use Rattle.words.specs.Words.{run}
use Rattle.texts.specs.Tables.{Row, text_of}
use Rattle.words.specs.Buffers.{put}
use Rattle.words.proofs.RunLaws.{run_within}

-- the nth entry of such a text
abbrev pub entry_of : ℕ → List ℕ → List ℕ
entry_of zero text = take (run false 59 text) text
entry_of (suc n) text = entry_of n (drop 1 (drop (run false 59 text) text))

-- what was put for a number is the entry of its place among the numbers; the last entry where it is none of them
pub record PutFrom (numbers text : List ℕ) (n most : ℕ) (before after : List ℕ) : Type 0 where
  pub put : after ≡ put most before (entry_of (run false n numbers) text)

-- ---- an entry of a text

-- the first k entries
abbrev pub entries_of : ℕ → List ℕ → List (List ℕ)
entries_of zero text = []
entries_of (suc k) text = entry_of 0 text ∷ entries_of k (drop 1 (drop (run false 59 text) text))

entry_among : (k n : ℕ) (text : List ℕ) → n < k → entry_of n text ≡ get_or (entries_of k text) n []
entry_among zero n text h = absurd (omega arith)
entry_among (suc k) zero text h = refl
entry_among (suc k) (suc n) text h = entry_among k n (drop 1 (drop (run false 59 text) text)) (omega arith)

pub entry_is : (texts : List (List ℕ)) (text : List ℕ) (n : ℕ) → n < length texts → entries_of (length texts) text ≡ texts
    → entry_of n text ≡ get_or texts n []
entry_is texts text n h e = entry_among (length texts) n text h ∙ ap (λ (l : List (List ℕ)). get_or l n []) e

-- ---- a table's rows

abbrev pub numbers_of : List Row → List ℕ
numbers_of [] = []
numbers_of (row ∷ rows) = row.number ∷ numbers_of rows

abbrev pub texts_of : List ℕ → List Row → List (List ℕ)
texts_of other [] = other ∷ []
texts_of other (row ∷ rows) = row.words ∷ texts_of other rows

one_more : (other : List ℕ) (rows : List Row) → length (texts_of other rows) ≡ suc (length (numbers_of rows))
one_more other [] = refl
one_more other (row ∷ rows) = ap suc (one_more other rows)

text_at : (other : List ℕ) (rows : List Row) (n : ℕ) → get_or (texts_of other rows) (run false n (numbers_of rows)) [] ≡ text_of other rows n
text_at other [] n = refl
text_at other (row ∷ rows) n = at (eqb row.number n) (text_at other rows n)
  where
    at : (t : Bool) → get_or (texts_of other rows) (run false n (numbers_of rows)) [] ≡ text_of other rows n
        → get_or (row.words ∷ texts_of other rows) (cond t 0 (suc (run false n (numbers_of rows)))) []
        ≡ cond t row.words (text_of other rows n)
    at true e = refl
    at false e = e

-- where the entries are the table's texts, what is put for a number are the table's words for it
pub table_put : (other : List ℕ) (rows : List Row) {text before after : List ℕ} {n most : ℕ}
    → entries_of (length (texts_of other rows)) text ≡ texts_of other rows
    → PutFrom (numbers_of rows) text n most before after → after ≡ put most before (text_of other rows n)
table_put other rows {text} {before} {n = n} {most} e p =
    let place = run false n (numbers_of rows) in
    let inside : place < length (texts_of other rows) = omega (arith, run_within false n (numbers_of rows), one_more other rows) in
    p.put ∙ ap (put most before) (entry_is (texts_of other rows) text place inside e ∙ text_at other rows n)
