-- Tables of words: a number and what it is called, row by row.
-- Assumes nothing.
use Rattle.std.specs.Prelude.{cond, List, [], ◌∷◌, ℕ, eqb}
use Prim.Native.String.{String}
use Rattle.words.specs.Ascii.{ascii}

pub record Row : Type 0 where
  pub number : ℕ
  pub words : List ℕ

infix 70 ◌is◌
abbrev pub ◌is◌ : ℕ → String → Row
n is text = record { number = n; words = ascii text }

-- the words of a number, or `other` where no row has it
abbrev pub text_of : List ℕ → List Row → ℕ → List ℕ
text_of other [] n = other
text_of other (row ∷ rows) n = cond (eqb row.number n) row.words (text_of other rows n)
