-- The transcript of a list: what is written for its bytes, one after the other, with what expected answers get, and the totals behind it.
-- Assumes nothing.
use Rattle.std.specs.Prelude.{ℕ, ◌+◌, ◌%◌, ◌^◌, Bool, true, false, cond, List, [], ◌∷◌, ◌++◌, length, ◌==◌}
use Rattle.profile.specs.Heard.{Machines, fresh_machines}
use Rattle.answers.specs.Answers.{totals_text, judged_text}
use Rattle.words.specs.Buffers.{put}
use Rattle.play.specs.Playing.{Line, without_mark, line_of, line_answer, last_after, machines_after}
use Rattle.play.specs.Playing.{counts_as_call, counts_as_refused, counts_as_unknown, counts_as_met, counts_as_unmet}

-- one more in 64 bits, where it counts
abbrev pub counted : Bool → ℕ → ℕ
counted false n = n
counted true n = (n + 1) % 2 ^ 64

-- "a tab" counts as a space
abbrev pub plain_byte : ℕ → ℕ
plain_byte byte = cond (byte == 9) 32 byte

-- the bytes held of a line with one more: of a line that is too long only as many as show it, the byte order mark's three among them
abbrev pub held_more : List ℕ → ℕ → List ℕ
held_more held byte = put 1028 held (plain_byte byte ∷ [])

-- where a list stands: the device's machines, what is held of the present line, the last answer line, and what was counted so far
pub record Player : Type 0 where
  pub machines : Machines
  pub line : List ℕ
  pub last : List ℕ
  pub lines : ℕ
  pub calls : ℕ
  pub refused : ℕ
  pub unknown : ℕ
  pub met : ℕ
  pub unmet : ℕ

-- "A list whose first call is no create plays on `create 1`"
abbrev pub first_player : Player
first_player =
    record { machines = fresh_machines 1; line = []; last = []; lines = 0; calls = 0; refused = 0; unknown = 0; met = 0; unmet = 0 }

-- ---- a line

-- what the present line says, once it ends
abbrev pub line_held : Player → Line
line_held p = line_of (without_mark (counted true p.lines) p.line)

-- what is written when it ends
unfoldable pub ended_text : Player → List ℕ
ended_text p = line_answer (counted true p.lines) p.last p.machines (line_held p)

-- where the list stands after it: nothing is held of the line that follows
unfoldable pub after_line : Player → Player
after_line p =
    record {
      machines = machines_after p.machines (line_held p);
      line = [];
      last = last_after (counted true p.lines) p.last p.machines (line_held p);
      lines = counted true p.lines;
      calls = counted (counts_as_call (line_held p)) p.calls;
      refused = counted (counts_as_refused p.machines (line_held p)) p.refused;
      unknown = counted (counts_as_unknown p.last (line_held p)) p.unknown;
      met = counted (counts_as_met p.last (line_held p)) p.met;
      unmet = counted (counts_as_unmet p.last (line_held p)) p.unmet;
    }

-- ---- bytes

-- what is written at one byte: a newline ends the line, and any other is held
abbrev pub byte_text : Player → ℕ → List ℕ
byte_text p byte = cond (byte == 10) (ended_text p) []

abbrev pub after_byte : Player → ℕ → Player
after_byte p byte = cond (byte == 10) (after_line p) (record p { line = held_more p.line byte })

-- what is written at some bytes, and where the list stands after them
abbrev pub texts : Player → List ℕ → List ℕ
texts p [] = []
texts p (byte ∷ bytes) = byte_text p byte ++ texts (after_byte p byte) bytes

abbrev pub after_bytes : Player → List ℕ → Player
after_bytes p [] = p
after_bytes p (byte ∷ bytes) = after_bytes (after_byte p byte) bytes

-- ---- the end

-- an empty line, the totals and, where some answer was expected, what came of it
abbrev pub totals_of : Player → List ℕ
totals_of p = totals_text p.calls p.refused p.unknown ++ judged_text p.met p.unmet

-- what is written at the end of the list: "the last line may lack the newline"
abbrev pub closing : Player → List ℕ
closing p = cond (length p.line == 0) (totals_of p) (ended_text p ++ totals_of (after_line p))

-- all that is written for a list
abbrev pub transcript : List ℕ → List ℕ
transcript bytes = texts first_player bytes ++ closing (after_bytes first_player bytes)
