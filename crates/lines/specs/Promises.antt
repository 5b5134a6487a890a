-- What the functions on lines promise.
-- Assumes nothing.
use Rattle.std.specs.Prelude.{◌≡◌, Bool, cond, ◌&&◌, ◌||◌, List, ℕ, ◌+◌, ◌-◌, ◌<◌, eqb, ltb, leb}
use Rattle.profile.specs.Bits.{bit_at, flip, gather}
use Rattle.profile.specs.Bytes.{bytes}
use Rattle.profile.specs.Entries.{first_line, inside, bit_of}
use Rattle.profile.specs.InputLine.{fresh_input_line, sample_line, edge, write_input_line}
use Rattle.profile.specs.OutputLine.{fresh_output_line, write_output_line, move_output_line}
use Rattle.windows.specs.declared.Row.{Row}
use Rattle.windows.specs.View.{line_at, row_at}
use Rattle.lines.specs.View.{count_at, input_at, output_at, read_at}

-- one bit more of a comparison: `lower` has the lines whose lower bits are at least the number's, and r those whose bits up to this one
-- are; `of` is the number's bit
pub record Compared (bit : Row) (of : Bool) (lower r : Row) : Type 0 where
  pub at : (i : ℕ) → row_at r i ≡ cond of (row_at bit i && row_at lower i) (row_at bit i || row_at lower i)

-- r has the lines whose count, one higher, reaches or passes the length
pub record Reached (words : List ℕ) (length : ℕ) (r : Row) : Type 0 where
  pub at : (i : ℕ) → i < 128 → row_at r i ≡ leb length (count_at words i + 1)

-- line i of row a after the counts of some lines rose by 1, and those of all others became 0
abbrev pub counted_at : List ℕ → Row → ℕ → ℕ → Bool
counted_at words counts a i =
    cond (ltb a 12) (line_at words a i) (bit_at (cond (row_at counts i) (count_at words i + 1) 0) (a - 12))

-- line i of row a after a sample: the settled bit and the bits of the count
abbrev pub settled_at : List ℕ → ℕ → Row → ℕ → ℕ → Bool
settled_at words length new a i =
    cond (eqb a 0) (sample_line length (row_at new i) (input_at words i)).settled
    (cond (ltb a 12) (line_at words a i) (bit_at (sample_line length (row_at new i) (input_at words i)).count (a - 12)))

-- line i of row a after a source is driven, where a mask is 1 and inverted where polarity is 1
abbrev pub driven_at : List ℕ → Row → Row → Row → ℕ → ℕ → Bool
driven_at words mask source polarity a i =
    cond (eqb a 11 && row_at mask i) (flip (row_at source i) (row_at polarity i)) (line_at words a i)

-- every line is fresh
pub record Fresh (words : List ℕ) : Type 0 where
  pub inputs : (i : ℕ) → i < 128 → input_at words i ≡ fresh_input_line
  pub outputs : (i : ℕ) → i < 128 → output_at words i ≡ fresh_output_line

-- v is what is read of row `row` through the window (w, s)
pub record Read (words : List ℕ) (row w s v : ℕ) : Type 0 where
  pub value : v ≡ gather w (λ b. read_at words row (first_line w s + b))

-- v was written to row `row` through the window (w, s), in fault or outside it
pub record Written (fault : Bool) (words : List ℕ) (row w s v : ℕ) (out : List ℕ) : Type 0 where
  pub inputs : (i : ℕ) → i < 128
      → input_at out i ≡ cond (ltb row 6 && inside w s i) (write_input_line row (bit_at v (bit_of w s i)) (input_at words i)) (input_at words i)
  pub outputs : (i : ℕ) → i < 128
      → output_at out i ≡ cond (leb 6 row && inside w s i) (write_output_line fault row (bit_at v (bit_of w s i)) (output_at words i))
      (output_at words i)

-- the row s was sampled with a filter length, and made these edges
pub record Sampled (words : List ℕ) (length : ℕ) (s events : Row) (out : List ℕ) : Type 0 where
  pub inputs : (i : ℕ) → i < 128 → input_at out i ≡ sample_line length (row_at s i) (input_at words i)
  pub outputs : (i : ℕ) → i < 128 → output_at out i ≡ output_at words i
  pub edges : (i : ℕ) → i < 128 → row_at events i ≡ edge length (row_at s i) (input_at words i)

-- fault was `before` and is `after`
pub record Moved (before after : Bool) (words out : List ℕ) : Type 0 where
  pub inputs : (i : ℕ) → i < 128 → input_at out i ≡ input_at words i
  pub outputs : (i : ℕ) → i < 128 → output_at out i ≡ move_output_line before after (output_at words i)

-- the bytes are the driven bits
pub record Driven (words bs : List ℕ) : Type 0 where
  pub bytes : bs ≡ bytes 16 (λ i. (output_at words i).driven)
