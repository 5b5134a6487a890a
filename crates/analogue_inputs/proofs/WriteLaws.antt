-- What the refusal table leaves of a write is what the functions that write to an input ask of it.
-- Assumes nothing.
use mathlib.Core.Path.{◌≡◌}
use mathlib.Core.List.{List}
use Prim.Native.Nat.{ℕ, ◌^◌, ◌<◌}
use lib.ListN.{length}
use Rattle.profile.specs.AnalogueInput.{input_size}
use Rattle.channels.specs.Numbers.{NumberOf}

module _ {bytes : List ℕ} {value : ℕ} (number : NumberOf bytes value) (index : ℕ) where
  pub input_fits : length bytes ≡ input_size index → value < 256 ^ input_size index
  input_fits size = rw size at number.small
