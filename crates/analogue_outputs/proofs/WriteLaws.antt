-- What the refusal table leaves of a write is what the functions that write to an output ask of it.
-- Assumes nothing.
use mathlib.Core.Path.{◌≡◌}
use mathlib.Core.Bool.{false}
use mathlib.Core.List.{List}
use Prim.Native.Nat.{ℕ}
use lib.ListN.{length}
use lib.Dec.{eqb}
use Rattle.profile.specs.Entries.{Entry}
use Rattle.profile.specs.AnalogueOutput.{output_size}
use Rattle.profile.specs.Entries.{above_range, below_range}
use Rattle.channels.specs.Numbers.{NumberOf}
use Rattle.analogue_outputs.specs.Writable.{Writable}

module _ {bytes : List ℕ} {value : ℕ} (number : NumberOf bytes value) (index : ℕ) where
  pub output_writable : (e : Entry) → length bytes ≡ output_size index → e.short ≡ eqb index 0x6444
      → above_range e value ≡ false → below_range e value ≡ false → Writable index value
  unfolding above_range below_range
  output_writable e size short above below =
      record { size = rw size at number.small; not_above = rw short at above; not_below = rw short at below }
