-- The object of a window by the exponent of its width: its shifts find what division finds.
-- Assumes nothing.
use mathlib.Core.Path.{◌≡◌, refl, ap, ◌∙◌}
use mathlib.Core.Bool.{Bool, true, false, cond, ◌||◌}
use Prim.Native.Nat.{ℕ, zero, suc, ◌+◌, ◌/◌, ◌%◌, ◌≤◌, ◌<◌}
use native.Mathlib.Omega.{arith}
use lib.Dec.{eqb}
use borrow.Author.Tests.{eqb-true}
use Rattle.profile.specs.Entries.{object, width_of, window}
use Rattle.profile.specs.Shifts.{Found, by_division, by_shifts, shl, shr}
use Rattle.profile.specs.declared.Home.TheVariants.{Window}
use Rattle.dictionary.specs.Lookup.{OfColumn}
use Rattle.profile.proofs.ShiftLaws.{width_shifted, shifts_find}

-- one byte holds one line, and whole bytes as many lines as they have bits
held : (w : ℕ) → eqb w 1 || eqb (w % 8) 0 ≡ true → (w + 7) / 8 ≡ cond (eqb w 1) 1 (w / 8)
held w = by (eqb w 1) refl
  where
    by : (t : Bool) → eqb w 1 ≡ t → t || eqb (w % 8) 0 ≡ true → (w + 7) / 8 ≡ cond t 1 (w / 8)
    by true e h = omega (arith, eqb-true w 1 e)
    by false e h = omega (arith, eqb-true (w % 8) 0 h)

-- a width of the table is one line, or whole bytes
whole : (column : ℕ) → column < 4 → eqb (width_of column) 1 || eqb (width_of column % 8) 0 ≡ true
whole zero h = refl
whole (suc zero) h = refl
whole (suc (suc zero)) h = refl
whole (suc (suc (suc zero))) h = refl
whole (suc (suc (suc (suc c)))) h = absurd (omega (arith, h))

module _ (row column s : ℕ) (shape : ℕ × ℕ) (below : column < 4) (h : s ≤ 255) (of : OfColumn column shape) where
  found : by_shifts shape.0 row s ≡ by_division (width_of column) row s
  found = shifts_find (width_of column) shape.0 row s of.exponent h

  bytes : shr (shl 1 shape.0 + 7) 3 ≡ cond (eqb (width_of column) 1) 1 (width_of column / 8)
  bytes = ap (λ (f : Found). f.bytes) found ∙ held (width_of column) (whole column below)

  pub windowed : object (shr 128 shape.0) (shr (shl 1 shape.0 + 7) 3) (eqb row 0) false 0 shape.1 (Window row (shl 1 shape.0) s)
      ≡ window row (width_of column) s
  windowed =
      λ t. object (found t).windows (bytes t) (eqb row 0) false 0 (of.highest t) (Window row (width_shifted of.exponent t) s)
