-- No refusal has the number 0.
-- Assumes nothing.
use mathlib.Core.Path.{◌≡◌, refl}
use mathlib.Core.Bool.{false}
use lib.Dec.{eqb}
use borrow.Author.Tests.{eqb-false}
use Rattle.profile.specs.declared.refusals.Refusal.{Refusal}
use Rattle.profile.specs.declared.refusals.Refusal.TheVariants.{NodeNumber, CommandCode, DigitalLength, AnalogueLength, FilledLength, DriveLength, RequestLength, Stopped, NoObject, NoSubIndex, ReadOnly, TooLong, TooShort, NotAllowed, TooHigh, TooLow, CountNotZero, NotMappable, MappingTooLong, NodeTwice}
use Rattle.profile.specs.Numbers.{refusal_number}

pub nonzero : (r : Refusal) → eqb (refusal_number r) 0 ≡ false
nonzero NodeNumber = refl
nonzero CommandCode = refl
nonzero DigitalLength = refl
nonzero AnalogueLength = refl
nonzero FilledLength = refl
nonzero DriveLength = refl
nonzero RequestLength = refl
nonzero Stopped = refl
nonzero NoObject = refl
nonzero NoSubIndex = refl
nonzero ReadOnly = refl
nonzero TooLong = refl
nonzero TooShort = refl
nonzero NotAllowed = refl
nonzero TooHigh = refl
nonzero TooLow = refl
nonzero CountNotZero = refl
nonzero NotMappable = refl
nonzero MappingTooLong = refl
nonzero NodeTwice = refl

pub not_accepted : (r : Refusal) → refusal_number r ≡ 0 → ⊥
not_accepted r = eqb-false (refusal_number r) 0 (nonzero r)
