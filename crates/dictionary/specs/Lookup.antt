-- How the table of digital lines is looked up: by a key that no two of its indices share, in words that hold eight places; and by what
-- its columns are.
-- Assumes nothing.
use Rattle.std.specs.Prelude.{◌≡◌, ◌<◌, cond, true, false, List, [], ◌∷◌, ℕ, zero, suc, ◌+◌, ◌*◌, ◌/◌, ◌%◌, eqb, Option, Some, None}
use Rattle.profile.specs.Entries.{table, width_of, any, place}
use Rattle.profile.specs.Shifts.{IsExponent}

-- the key of an index
abbrev pub key_of : ℕ → ℕ
key_of x = (5 * x + x / 16) % 128

-- the place of a list, counted from p, whose index has a key; 0 where none has
abbrev pub keyed : List ℕ → ℕ → ℕ → ℕ
keyed [] p k = 0
keyed (x ∷ xs) p k = elim (eqb (key_of x) k) [ true ↦ p | false ↦ keyed xs (suc p) k ]

-- n digits to a base, the lowest first
abbrev pub digits : ℕ → ℕ → (ℕ → ℕ) → ℕ
digits b zero f = 0
digits b (suc n) f = f 0 + b * digits b n (λ j. f (suc j))

-- the places of eight keys
abbrev pub place_word : ℕ → ℕ
place_word n = digits 256 8 (λ j. keyed table 0 (8 * n + j))

-- the place of an index in the table, where it stands in the table
abbrev pub IsPlace : ℕ → Option ℕ → Type 0
IsPlace index (Some p) = (p < 44) × (p ≡ place table index)
IsPlace index None = 44 ≡ place table index

-- of a column the exponent of its width, and the highest value of an entry: "One-bit entries are one byte, 0 or 1"
pub record OfColumn (column : ℕ) (shape : ℕ × ℕ) : Type 0 where
  pub exponent : IsExponent shape.0 (width_of column)
  pub highest : shape.1 ≡ cond (eqb (width_of column) 1) 1 any
