-- What the calls of the code answer, as the entries and the replies of the definitions: a refusal by its number.
-- Assumes nothing.
use Rattle.std.specs.Prelude.{List, [], ℕ, ℤ, Result, Ok, Err}
use Rattle.profile.specs.declared.Entry as code
use Rattle.profile.specs.declared.ReadValue.{ReadValue}
use Rattle.profile.specs.declared.refusals.Refusal.{Refusal}
use Rattle.profile.specs.Numbers.{refusal_number, number_answered}
use Rattle.profile.specs.Entries.{Entry, absent_entry}
use Rattle.profile.specs.Calls.{Reply}
use Rattle.profile.specs.Replies.{plain, read_reply, sample_reply, drive_reply, count_reply, unchanged}

-- an entry that there is
abbrev pub present : code.Entry → Entry
present e =
    record {
      absent = 0;
      size = e.size;
      fixed = e.fixed;
      short = e.short;
      lowest = e.lowest;
      highest = e.highest;
      home = e.home;
    }

-- the entry of an index and a sub-index, or why there is none
abbrev pub found : Result code.Entry Refusal → Entry
found (Ok e) = present e
found (Err r) = absent_entry (refusal_number r)

-- a call that answers only its number
abbrev pub plain_answer : {A : Type 0} → Result A Refusal → Reply
plain_answer r = plain (number_answered r)

abbrev pub read_answer : Result ReadValue Refusal → Reply
read_answer (Ok v) = read_reply v.value v.size
read_answer (Err r) = plain (refusal_number r)

-- the analogue events, with the event buffer as it is afterwards
abbrev pub sample_answer : Result ℕ Refusal → List ℕ → Reply
sample_answer (Ok events) bytes = sample_reply events bytes
sample_answer (Err r) bytes = unchanged (refusal_number r) bytes []

-- with both buffers as they are afterwards
abbrev pub drive_answer : {A : Type 0} → Result A Refusal → List ℕ → List ℤ → Reply
drive_answer (Ok a) lines channels = drive_reply lines channels
drive_answer (Err r) lines channels = unchanged (refusal_number r) lines channels

-- how many bytes a transmit or a request wrote, with its buffer as it is afterwards
abbrev pub buffer_answer : Result ℕ Refusal → List ℕ → Reply
buffer_answer (Ok count) bytes = count_reply count bytes
buffer_answer (Err r) bytes = unchanged (refusal_number r) bytes []
