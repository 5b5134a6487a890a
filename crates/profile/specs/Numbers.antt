-- The papers' number of each refusal, and of what a call answers.
-- Assumes nothing.
use Rattle.std.specs.Prelude.{ℕ, Result, Ok, Err}
use Rattle.profile.specs.declared.refusals.Refusal.{Refusal}
use Rattle.profile.specs.declared.refusals.Refusal.TheVariants.{NodeNumber, CommandCode, DigitalLength, AnalogueLength, FilledLength, DriveLength, RequestLength, Stopped, NoObject, NoSubIndex, ReadOnly, TooLong, TooShort, NotAllowed, TooHigh, TooLow, CountNotZero, NotMappable, MappingTooLong, NodeTwice}

abbrev pub refusal_number : Refusal → ℕ
refusal_number NodeNumber = 1
refusal_number CommandCode = 2
refusal_number DigitalLength = 3
refusal_number AnalogueLength = 4
refusal_number FilledLength = 5
refusal_number DriveLength = 6
refusal_number RequestLength = 7
refusal_number Stopped = 0x08000022
refusal_number NoObject = 0x06020000
refusal_number NoSubIndex = 0x06090011
refusal_number ReadOnly = 0x06010002
refusal_number TooLong = 0x06070012
refusal_number TooShort = 0x06070013
refusal_number NotAllowed = 0x06090030
refusal_number TooHigh = 0x06090031
refusal_number TooLow = 0x06090032
refusal_number CountNotZero = 0x06010000
refusal_number NotMappable = 0x06040041
refusal_number MappingTooLong = 0x06040042
refusal_number NodeTwice = 0x06040043

-- "An accepted call answers number 0."
abbrev pub number_answered : {A : Type 0} → Result A Refusal → ℕ
number_answered (Ok a) = 0
number_answered (Err r) = refusal_number r
