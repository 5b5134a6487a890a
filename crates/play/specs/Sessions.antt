-- What the methods of a session promise: the bytes of a list are held as lines and played, and their answers are written or wait.
-- Assumes nothing.
use Rattle.std.specs.Prelude.{◌≡◌, ℕ, ◌-◌, ◌^◌, ◌≤◌, Bool, true, false, not, List, [], ◌∷◌, ◌++◌, length, drop, ◌==◌, nat_lt, MatchResult}
use Rattle.std.specs.Io.KnownBytes.{append_known, Keeps, Appends, Consumes, IsAtEnd}
use Rattle.std.specs.declared.option.Option.{Option}
use Rattle.std.specs.declared.result.Result.{Result}
use Rattle.profile.specs.Outcome.{Same}
use Rattle.device.specs.declared.Device.{Device}
use Rattle.device.specs.View.{machines_of}
use Rattle.words.specs.Ascii.{ascii}
use Rattle.words.specs.Buffers.{put}
use Rattle.answers.specs.Answers.{totals_text, judged_text, newline}
use Rattle.notation.specs.Meanings.{Meaning}
use Rattle.play.specs.declared.failure.Failure.{Failure}
use Rattle.play.specs.declared.failure.Failure.TheVariants.{Reading, Writing, Endless}
use Rattle.play.specs.declared.session.Session.{Session}
use Rattle.play.specs.Playing.{answer_for, machines_for, is_call, is_refused, is_unknown, Line, without_mark, line_of, line_answer, newer}
use Rattle.play.specs.Playing.{last_after, machines_after, counts_as_call, counts_as_refused, counts_as_unknown}
use Rattle.play.specs.Playing.{counts_as_met, counts_as_unmet}
use Rattle.play.specs.Transcripts.{counted, Player, first_player, texts, after_bytes, closing}

-- ---- a call

-- the output block has 8,192 bytes; up to this many it has room for what any line gets
abbrev pub full : ℕ
full = 6144

-- the line that is read and what is expected stay
pub record Aside (before after : Session) : Type 0 where
  pub lines : after.lines ≡ before.lines
  pub line : after.line ≡ before.line
  pub answer : after.answer ≡ before.answer
  pub met : after.met ≡ before.met
  pub unmet : after.unmet ≡ before.unmet

-- a call was counted: the device and the call's number are those given
pub record Counted (before : Session) (d : Device) (number : ℕ) (after : Session) : Type 0 where
  pub device : after.device ≡ d
  pub out : after.out ≡ before.out
  pub calls : after.calls ≡ counted true before.calls
  pub refused : after.refused ≡ counted (not (number == 0)) before.refused
  pub unknown : after.unknown ≡ before.unknown
  pub aside : Aside before after

-- the promise of playing a call, or a line that is none
pub record Played (before : Session) (m : Meaning) (after : Session) : Type 0 where
  pub machines : Same (machines_of after.device) (machines_for (machines_of before.device) m)
  pub answered : after.out.items ≡ put 8192 before.out.items (answer_for before.lines (machines_of before.device) m)
  -- no answer is longer than the room that is kept for it
  pub short : length (answer_for before.lines (machines_of before.device) m) ≤ 1024
  pub calls : after.calls ≡ counted (is_call m) before.calls
  pub refused : after.refused ≡ counted (is_refused (machines_of before.device) m) before.refused
  pub unknown : after.unknown ≡ counted (is_unknown m) before.unknown
  pub aside : Aside before after

-- playing it where that room is there: all of the answer stands behind the output
pub record PlayedWhole (before : Session) (m : Meaning) (after : Session) : Type 0 where
  pub played : Played before m after
  pub text : after.out.items ≡ before.out.items ++ answer_for before.lines (machines_of before.device) m

-- ---- a line

-- the session with another last answer
abbrev pub with_answer : Session → List ℕ → Session
with_answer s answer = record s { answer = record { items = answer } }

-- what was put into the block from a place on is held, if it is any, and nothing else changed
abbrev pub Remembered : Session → ℕ → Session → Type 0
Remembered before from after = after ≡ with_answer before (newer before.answer.items (drop from before.out.items))

-- the promise of a line: the machines, what is written for it, the last answer line after it, and the counts
pub record Answered (before : Session) (l : Line) (after : Session) : Type 0 where
  pub machines : Same (machines_of after.device) (machines_after (machines_of before.device) l)
  pub text : after.out.items ≡ before.out.items ++ line_answer before.lines before.answer.items (machines_of before.device) l
  pub short : length (line_answer before.lines before.answer.items (machines_of before.device) l) ≤ 2048
  pub last : after.answer.items ≡ last_after before.lines before.answer.items (machines_of before.device) l
  pub calls : after.calls ≡ counted (counts_as_call l) before.calls
  pub refused : after.refused ≡ counted (counts_as_refused (machines_of before.device) l) before.refused
  pub unknown : after.unknown ≡ counted (counts_as_unknown before.answer.items l) before.unknown
  pub met : after.met ≡ counted (counts_as_met before.answer.items l) before.met
  pub unmet : after.unmet ≡ counted (counts_as_unmet before.answer.items l) before.unmet
  pub lines : after.lines ≡ before.lines
  pub line : after.line ≡ before.line

-- ---- the output

-- the session with an empty output block
abbrev pub emptied : Session → Session
emptied s = record s { out = record { items = [] } }

-- what a call that may write leads to: its promise, or the writing failed
abbrev pub OrUnwritten : Result (Unit {0}) Failure → Type 0 → Type 0
OrUnwritten r P = MatchResult r (λ u. P) (λ f. f ≡ Writing)

-- all that waited was written, and nothing else changed
pub record WrittenOut (written : Option (List ℕ)) (before : Session) (now : Option (List ℕ)) (after : Session) : Type 0 where
  pub text : Appends written now before.out.items
  pub session : after ≡ emptied before

-- nothing was written, and nothing changed
pub record LeftAlone (written : Option (List ℕ)) (before : Session) (now : Option (List ℕ)) (after : Session) : Type 0 where
  pub text : Keeps written now
  pub session : after ≡ before

-- the output is written out where the longest answer has no room any more
abbrev pub MadeRoom : Bool → Option (List ℕ) → Session → Option (List ℕ) → Session → Type 0
MadeRoom true = LeftAlone
MadeRoom false = WrittenOut

-- ---- a whole line

-- the session with another number of lines, and another line that is held
abbrev pub with_line : Session → ℕ → List ℕ → Session
with_line s lines line = record s { lines = lines; line = record { items = line } }

-- a line begins: it is the next one, and no byte of the one after it is held
abbrev pub begun : Session → Session
begun s = with_line s (counted true s.lines) []

-- the line that is held
abbrev pub held_line : Session → Line
held_line s = line_of (without_mark (counted true s.lines) s.line.items)

-- a line was begun, got what it gets, and the output was written out where it is full
pub record LinePlayed (written : Option (List ℕ)) (before : Session) (now : Option (List ℕ)) (after : Session) : Type 0 where
  pub between : Session
  pub answered : Answered (begun before) (held_line before) between
  pub room : MadeRoom (nat_lt (length between.out.items) full) written between now after

-- "the last line may lack the newline"
abbrev pub LastPlayed : Bool → Option (List ℕ) → Session → Option (List ℕ) → Session → Type 0
LastPlayed true = LeftAlone
LastPlayed false = LinePlayed

-- the totals were written behind what waited, and nothing waits any more
pub record Finished (written : Option (List ℕ)) (before : Session) (now : Option (List ℕ)) (after : Session) : Type 0 where
  pub text : Appends written now
      (before.out.items ++ (totals_text before.calls before.refused before.unknown ++ judged_text before.met before.unmet))
  pub session : after ≡ emptied before

-- ---- the bytes of a list

-- a session stands where a list does
pub record Plays (s : Session) (p : Player) : Type 0 where
  pub machines : Same (machines_of s.device) p.machines
  pub line : s.line.items ≡ p.line
  pub last : s.answer.items ≡ p.last
  pub lines : s.lines ≡ p.lines
  pub calls : s.calls ≡ p.calls
  pub refused : s.refused ≡ p.refused
  pub unknown : s.unknown ≡ p.unknown
  pub met : s.met ≡ p.met
  pub unmet : s.unmet ≡ p.unmet

-- before the first byte, and nothing waits
pub record Started (s : Session) : Type 0 where
  pub plays : Plays s first_player
  pub out : s.out.items ≡ []

-- some bytes were taken: the session stands where the list does after them, their texts are written or wait, and an answer has room
pub record Fed (written : Option (List ℕ)) (before : Session) (bytes : List ℕ) (now : Option (List ℕ)) (after : Session) : Type 0 where
  pub plays : (p : Player) → Plays before p → Plays after (after_bytes p bytes)
  pub text : (p : Player) → Plays before p
      → Appends (append_known written before.out.items) (append_known now after.out.items) (texts p bytes)
  pub room : length after.out.items ≤ full

-- the list ended: all of its end is written, behind what waited
pub record Closed (written : Option (List ℕ)) (before : Session) (now : Option (List ℕ)) : Type 0 where
  pub text : (p : Player) → Plays before p → Appends (append_known written before.out.items) now (closing p)

-- blocks of bytes were taken, one after the other
abbrev pub FedBlocks : Option (List ℕ) → Session → List (List ℕ) → Option (List ℕ) → Session → Type 0
FedBlocks written before [] now after = (now ≡ written) × (after ≡ before)
FedBlocks written before (block ∷ blocks) now after =
    (w : Option (List ℕ)) × (s : Session) × Fed written before block w s × FedBlocks w s blocks now after

-- ---- the input

-- a block of a byte and more was read
pub record BlockRead (left rest : Option (List ℕ)) : Type 0 where
  pub block : List ℕ
  pub read : Consumes left rest block
  pub some : 1 ≤ length block

-- all of it was taken too, and nothing waits any more
pub record BlockPlayed (left written : Option (List ℕ)) (before : Session) (rest now : Option (List ℕ)) (after : Session) : Type 0 where
  pub block : List ℕ
  pub read : Consumes left rest block
  pub some : 1 ≤ length block
  pub fed : Fed written before block now after
  pub out : after.out.items ≡ []

-- the input is over, and nothing changed
pub record InputOver (left written : Option (List ℕ)) (before : Session) (rest now : Option (List ℕ)) (after : Session) : Type 0 where
  pub read : Consumes left rest []
  pub end : IsAtEnd rest
  pub unchanged : LeftAlone written before now after

-- what reading a block leads to: whether there was one
abbrev pub Turned : Bool → Option (List ℕ) → Option (List ℕ) → Session → Option (List ℕ) → Option (List ℕ) → Session → Type 0
Turned true = BlockPlayed
Turned false = InputOver

-- what is left where there was a failure: a read that failed changed nothing; where a write did, a block had been read
abbrev pub TurnFailed : Failure → Option (List ℕ) → Option (List ℕ) → Session → Option (List ℕ) → Option (List ℕ) → Session → Type 0
TurnFailed Reading left written before rest now after = Keeps left rest × LeftAlone written before now after
TurnFailed Writing left written before rest now after = BlockRead left rest
TurnFailed Endless left written before rest now after = ⊥

-- where the input could not be read any more, or did not end, what was read got its texts, and nothing else was written, no totals
-- either; where the output could not be written, what it holds is not known
abbrev pub BrokenOff : Failure → Option (List ℕ) → Option (List ℕ) → Option (List ℕ) → Option (List ℕ) → Type 0
BrokenOff Reading left written rest now = (bytes : List ℕ) × Consumes left rest bytes × Appends written now (texts first_player bytes)
BrokenOff Writing left written rest now = (bytes : List ℕ) × Consumes left rest bytes
BrokenOff Endless left written rest now =
    (bytes : List ℕ) × Consumes left rest bytes × (2 ^ 64 - 1 ≤ length bytes) × Appends written now (texts first_player bytes)

-- what a person is told where the list was not played to its end
abbrev pub failure_text : Failure → List ℕ
failure_text Reading = ascii "play: cannot read the list" ++ newline
failure_text Writing = ascii "play: cannot write the answers" ++ newline
failure_text Endless = ascii "play: the list does not end" ++ newline
