-- Where the lines of a row stand: a row holds 128 lines in two words of 64 bits. Line i (from 0) of row a is bit i % 64 of word
-- 2a + i / 64.
-- Assumes nothing.
use Rattle.std.specs.Prelude.{Bool, cond, ◌&&◌, List, ℕ, ◌+◌, ◌*◌, ◌/◌, ◌%◌, eqb, ltb, get_or}
use Rattle.profile.specs.Bits.{bit_at, gather}
use Rattle.profile.specs.Entries.{first_line}
use Rattle.windows.specs.declared.Row.{Row}

-- line i of row a
unfoldable pub line_at : List ℕ → ℕ → ℕ → Bool
line_at words a i = bit_at (get_or words (2 * a + i / 64) 0) (i % 64)

-- line i of a row by itself
unfoldable pub row_at : Row → ℕ → Bool
row_at r i = cond (ltb i 64) (bit_at r.low (i % 64)) (bit_at r.high (i % 64))

-- both words are 0, so that no line of it is 1
abbrev pub is_empty : Row → Bool
is_empty r = eqb r.low 0 && eqb r.high 0

-- the window (w, s) of row a as a number
unfoldable pub window : List ℕ → ℕ → ℕ → ℕ → ℕ
window words a w s = gather w (λ b. line_at words a (first_line w s + b))
