-- What the reader of a line promises: its answer says the line's meaning.
-- Assumes nothing.
use Rattle.std.specs.Prelude.{◌≡◌, cond, List, ℕ, ◌≤◌, ltb, length, Result, Ok, Err}
use Rattle.profile.specs.declared.Cause.{Cause}
use Rattle.profile.specs.Calls as Doc
use Rattle.notation.specs.declared.Call.{Call}
use Rattle.notation.specs.declared.Call.TheVariants.{Nothing, Create, Read, Write, Sample, Command, Raise, Clear, Drive}
use Rattle.notation.specs.declared.Call.TheVariants.{Receive, Transmit, Request, Heartbeat, Elapsed}
use Rattle.words.specs.declared.Expected.{Expected}
use Rattle.words.specs.Words.{words_of}
use Rattle.words.specs.Held.{held}
use Rattle.words.specs.Items.{byte_item, items_of}
use Rattle.notation.specs.Meanings.{Meaning, bytes_meaning, fault_meaning}
use Rattle.notation.specs.Meanings.Meaning.{nothing, unknown, create, call}

-- what an answer says
abbrev pub said : Result Call Expected → Meaning
said (Err e) = unknown e
said (Ok Nothing) = nothing
said (Ok (Create node)) = create node
said (Ok (Read index sub)) = call (Doc.direct (Doc.Plain.read index sub))
said (Ok (Write index sub bytes)) = call (Doc.direct (Doc.Plain.write index sub (held bytes)))
said (Ok (Sample digital analogue events)) = call (Doc.direct (Doc.Plain.sample (held digital) (held analogue) (held events)))
said (Ok (Command code node)) = call (Doc.direct (Doc.Plain.command code node))
said (Ok (Raise cause)) = call (Doc.direct (Doc.Plain.raise cause))
said (Ok (Clear cause)) = call (Doc.direct (Doc.Plain.clear cause))
said (Ok (Drive lines channels)) = call (Doc.direct (Doc.Plain.drive (held lines) (held channels)))
said (Ok (Receive message frame)) = call (Doc.receive message (held frame))
said (Ok (Transmit message frame)) = call (Doc.transmit message (held frame))
said (Ok (Request frame lent)) = call (Doc.request (held frame) (held lent))
said (Ok (Heartbeat node)) = call (Doc.direct (Doc.Plain.heartbeat node))
said (Ok (Elapsed t)) = call (Doc.elapsed t)

-- some bytes, of which there may be `most`, are those of a line up to its end
pub record LastBytes (most : ℕ) (line bytes : List ℕ) : Type 0 where
  pub meant : (f : List ℕ → Doc.Call) → bytes_meaning f (items_of byte_item most (words_of line)) ≡ call (f bytes)
  pub room : length bytes ≤ most

-- no such bytes
abbrev pub NoBytes : ℕ → List ℕ → Expected → Type 0
NoBytes most line e = (f : List ℕ → Doc.Call) → bytes_meaning f (items_of byte_item most (words_of line)) ≡ unknown e

-- what reading such bytes promises, where a buffer b holds the bytes `held b`
abbrev pub ReadLast : {B : Type 0} → ℕ → (B → List ℕ) → List ℕ → Result B Expected → Type 0
ReadLast most held line (Ok b) = LastBytes most line (held b)
ReadLast most held line (Err e) = NoBytes most line e

-- a number up to `most`, or what should have stood there
abbrev pub up_to : ℕ → Expected → ℕ → Result ℕ Expected
up_to most e n = cond (ltb most n) (Err e) (Ok n)

-- the cause of a call, whatever call it is; or what should have stood there
abbrev pub SaysCause : List (List ℕ) → Result Cause Expected → Type 0
SaysCause ws (Ok cause) = (f : Cause → Doc.Plain) → fault_meaning f ws ≡ call (Doc.direct (f cause))
SaysCause ws (Err e) = (f : Cause → Doc.Plain) → fault_meaning f ws ≡ unknown e
