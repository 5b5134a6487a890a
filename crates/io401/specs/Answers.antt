-- The replies that the answers to C are, and that they are those of the calls.
-- Assumes nothing.
use Rattle.std.specs.Prelude.{◌≡◌, List, [], ℕ, ℤ, Result}
use Rattle.profile.specs.declared.ReadValue.{ReadValue}
use Rattle.profile.specs.declared.refusals.Refusal.{Refusal}
use Rattle.profile.specs.Calls.{Reply}
use Rattle.profile.specs.Answers.{read_answer, sample_answer, buffer_answer}
use Rattle.io401.specs.declared.answers.ReadNumber.{ReadNumber}
use Rattle.io401.specs.declared.answers.SampleNumber.{SampleNumber}
use Rattle.io401.specs.declared.answers.CountNumber.{CountNumber}

-- what a read answers
abbrev pub read_number : ReadNumber → Reply
read_number r = record { number = r.number; value = r.value; size = r.size; events = 0; count = 0; bytes = []; numbers = [] }

-- a sample, with the event buffer as it is afterwards
abbrev pub sample_number : SampleNumber → List ℕ → Reply
sample_number r bytes = record { number = r.number; value = 0; size = 0; events = r.events; count = 0; bytes = bytes; numbers = [] }

-- a drive, with both buffers as they are afterwards
abbrev pub drive_number : ℕ → List ℕ → List ℤ → Reply
drive_number r bytes numbers = record { number = r; value = 0; size = 0; events = 0; count = 0; bytes = bytes; numbers = numbers }

-- a transmit or a request, with its buffer as it is afterwards
abbrev pub count_number : CountNumber → List ℕ → Reply
count_number r bytes = record { number = r.number; value = 0; size = 0; events = 0; count = r.count; bytes = bytes; numbers = [] }

-- the same reply
abbrev pub ReadAs : Result ReadValue Refusal → ReadNumber → Type 0
ReadAs answer r = read_number r ≡ read_answer answer

abbrev pub SampledAs : Result ℕ Refusal → SampleNumber → Type 0
SampledAs answer r = (bytes : List ℕ) → sample_number r bytes ≡ sample_answer answer bytes

abbrev pub CountedAs : Result ℕ Refusal → CountNumber → Type 0
CountedAs answer r = (bytes : List ℕ) → count_number r bytes ≡ buffer_answer answer bytes
