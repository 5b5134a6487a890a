-- What the functions on analogue outputs promise.
-- Assumes nothing.
use Rattle.std.specs.Prelude.{◌≡◌, Bool, false, cond, List, ℕ, ◌<◌, eqb, ℤ, pos}
use Rattle.profile.specs.declared.AnalogueOutput.{AnalogueOutput}
use Rattle.profile.specs.Bytes.{list_from}
use Rattle.profile.specs.AnalogueOutput.{write_analogue_output, move_analogue_output}
use Rattle.channels.specs.View.{Outside}

-- v was written to an index of channel n
pub record OutputWritten (fault : Bool) (index n v : ℕ) (old new : ℕ → AnalogueOutput) : Type 0 where
  pub channels : (i : ℕ) → i < 8 → new i ≡ cond (eqb i n) (write_analogue_output fault index v (old i)) (old i)

-- fault was `before` and is `after`, at eight outputs
pub record AllMoved (before after : Bool) (old new : ℕ → AnalogueOutput) : Type 0 where
  pub channels : (n : ℕ) → n < 8 → new n ≡ move_analogue_output before after (old n)

-- the numbers are what eight outputs drive
pub record Driven (driven : ℕ → ℤ) (xs : List ℤ) : Type 0 where
  pub numbers : xs ≡ list_from 8 0 driven

-- ---- and what else of the arrays stays

pub record OutputStored (fault : Bool) (index n v : ℕ) (old new : ℕ → AnalogueOutput) (flags flags' : List Bool)
    (values values' : List ℤ) : Type 0 where
  pub written : OutputWritten fault index n v old new
  pub flags_kept : Outside 4 12 false flags flags'
  pub values_kept : Outside 32 56 (pos 0) values values'

pub record OutputsMoved (before after : Bool) (old new : ℕ → AnalogueOutput) (values values' : List ℤ) : Type 0 where
  pub moved : AllMoved before after old new
  pub values_kept : Outside 32 56 (pos 0) values values'
