-- Document 02, Item 4: "However a line's byte is found now, find it with shifts": where a window is found, by division and by shifts.
-- Assumes nothing.
use Rattle.std.specs.Prelude.{◌≡◌, ◌≤◌, ℕ, ◌+◌, ◌*◌, ◌-◌, ◌/◌, ◌%◌, ◌^◌}
use Rattle.std.specs.Int.Bits.{bit_and}
use Rattle.profile.specs.Entries.{first_line}

-- what the lookup of a window finds, in rows of two words of 64 lines: its word; its lowest bit there; how many windows of its width a
-- row has; how many bytes hold a value
pub record Found : Type 0 where
  pub word : ℕ
  pub bit : ℕ
  pub windows : ℕ
  pub bytes : ℕ

-- the window (w, s) of a row, by division
abbrev pub by_division : ℕ → ℕ → ℕ → Found
by_division w row s =
    record {
      word = 2 * row + first_line w s / 64;
      bit = first_line w s % 64;
      windows = 128 / w;
      bytes = (w + 7) / 8;
    }

-- k is the exponent of a width w, which is at most 32
pub record IsExponent (k w : ℕ) : Type 0 where
  pub power : w ≡ 2 ^ k
  pub most : k ≤ 5

-- `n << k` and `n >> k` of a number of 64 bits
abbrev pub shl : ℕ → ℕ → ℕ
shl n k = n * 2 ^ k % 2 ^ 64

abbrev pub shr : ℕ → ℕ → ℕ
shr n k = n / 2 ^ k

-- the same by shifts and the mask of 6 bits, k being the exponent of w
abbrev pub by_shifts : ℕ → ℕ → ℕ → Found
by_shifts k row s =
    record {
      word = 2 * row + shr (shl (s - 1) k) 6;
      bit = bit_and (shl (s - 1) k) 63;
      windows = shr 128 k;
      bytes = shr (shl 1 k + 7) 3;
    }
