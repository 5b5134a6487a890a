-- What shifts find of a window is what division finds, for every row, width and sub-index: stated over the exponent, proved once.
-- Assumes nothing.
use mathlib.Core.Path.{◌≡◌, sym, ap, ◌∙◌}
use Prim.Native.Nat.{ℕ, ◌+◌, ◌*◌, ◌-◌, ◌/◌, ◌%◌, ◌^◌, ◌≤◌, ◌<◌}
use native.Mathlib.Nat.{mul_comm, one-mul}
use native.Mathlib.Omega.{arith}
use lib.Pow.{shl_exact}
use lib.Bits.{bit_and, and_mask}
use Rattle.profile.specs.Entries.{first_line}
use Rattle.profile.specs.Shifts.{IsExponent, by_division, by_shifts, shl}

-- 1 << k is a power of two, and that of the exponent is the width
pub power_shifted : (k : ℕ) → k < 64 → shl 1 k ≡ 2 ^ k
power_shifted k h = shl_exact 1 k 64 (omega arith) (omega (arith, h)) ∙ one-mul (2 ^ k)

pub width_shifted : {w k : ℕ} → IsExponent k w → shl 1 k ≡ w
width_shifted {w} {k} e = power_shifted k (omega (arith, e.most)) ∙ sym e.power

-- (s - 1) << k is the first line, and loses no bit
first_shifted : {w k : ℕ} (s : ℕ) → IsExponent k w → s ≤ 255 → shl (s - 1) k ≡ first_line w s
first_shifted {w} {k} s e h =
    shl_exact 8 k 64 (omega (arith, h)) (omega (arith, e.most)) ∙ mul_comm (s - 1) (2 ^ k) ∙ ap (λ (x : ℕ). x * (s - 1)) (sym e.power)

-- every row, width and sub-index
pub shifts_find : (w k row s : ℕ) → IsExponent k w → s ≤ 255 → by_shifts k row s ≡ by_division w row s
shifts_find w k row s e h =
    let first : shl (s - 1) k ≡ first_line w s = first_shifted s e h in
    let low : bit_and (shl (s - 1) k) 63 ≡ first_line w s % 64 = and_mask (shl (s - 1) k) 6 ∙ ap (λ (x : ℕ). x % 64) first in
    λ t. record {
      word = 2 * row + first t / 64;
      bit = low t;
      windows = 128 / sym e.power t;
      bytes = (width_shifted e t + 7) / 8;
    }
