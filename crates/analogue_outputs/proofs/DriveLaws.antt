-- The elements that hold what the outputs drive, as they are copied.
-- Assumes nothing.
use mathlib.Core.Path.{◌≡◌, refl, ap, ◌∙◌}
use mathlib.Core.List.{List, ◌∷◌}
use Prim.Native.Nat.{ℕ, zero, suc, ◌+◌, ◌≤◌}
use native.Mathlib.Nat.{add-suc}
use native.Mathlib.Omega.{arith}
use lib.IntN.{ℤ, pos}
use lib.ListN.{length, take, drop}
use lib.Seq.{drop-cons}
use Rattle.profile.specs.Bytes.{list_from}
use Rattle.channels.specs.View.{driven_of}
use Rattle.analogue_outputs.specs.Promises.{Driven}

-- n of them from j on
copied : (n j : ℕ) (values : List ℤ) → 48 + j + n ≤ length values → take n (drop (48 + j) values) ≡ list_from n j (driven_of values)
copied zero j values h = refl
copied (suc n) j values h =
    rw (drop-cons values (48 + j) (pos 0) (omega arith))
    (ap (λ (xs : List ℤ). driven_of values j ∷ xs) (rw (add-suc 48 j) at (copied n (suc j) values (omega arith))))

pub all_copied : (values out : List ℤ) → length values ≡ 56 → out ≡ take 8 (drop 48 values) → Driven (driven_of values) out
all_copied values out long is = record { numbers = is ∙ copied 8 0 values (omega arith) }
