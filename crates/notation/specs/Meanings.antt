-- Which line is which call: the table of the notation of a list of calls, a row after the other.
-- Assumes nothing.
use Rattle.std.specs.Prelude.{Bool, false, cond, ◌||◌, List, [], ◌∷◌, ℕ, eqb, ltb, take, drop, replicate, ℤ, pos}
use Rattle.profile.specs.declared.Cause.{Cause}
use Rattle.profile.specs.declared.Cause.TheVariants.{Internal, Lost}
use Rattle.profile.specs.declared.Message.{Message}
use Rattle.profile.specs.declared.Message.TheVariants.{First, Second, Third, Fourth}
use Rattle.profile.specs.Calls as Doc
use Rattle.words.specs.declared.Expected.{Expected}
use Rattle.words.specs.declared.Expected.TheVariants as Ex
use Rattle.words.specs.Ascii.{ascii}
use Rattle.words.specs.Words.{run, words_of, first_of, others_of, is_word, content_of}
use Rattle.words.specs.Numbers.{number_of, short_number}
use Rattle.words.specs.Items.{Found, byte_item, number_item, slash, items_of}
use Rattle.words.specs.Items.Found.{items, missing}

-- what a line says: nothing; no call, and what should have stood there; a create; or one of the papers' other calls
pub data Meaning : Type 0 where
  nothing : Meaning
  unknown : Expected → Meaning
  create : ℕ → Meaning
  call : Doc.Call → Meaning

-- no word follows
abbrev pub at_end : Meaning → List (List ℕ) → Meaning
at_end m [] = m
at_end m (w ∷ ws) = unknown Ex.End

-- a word is a decimal number from 0 to 255
abbrev pub small : List ℕ → Meaning → Meaning
small w m = cond (ltb 255 (number_of 10 w)) (unknown Ex.Small) m

-- a word is a decimal number from 0 to 4294967295
abbrev pub milliseconds : List ℕ → Meaning → Meaning
milliseconds w m = cond (ltb 4294967295 (number_of 10 w)) (unknown Ex.Milliseconds) m

-- `create 5`
unfoldable pub create_meaning : List (List ℕ) → Meaning
create_meaning ws = small (first_of ws) (at_end (create (number_of 10 (first_of ws))) (others_of ws))

-- `command 128 5`: code, node number
unfoldable pub command_meaning : List (List ℕ) → Meaning
command_meaning ws =
    small (first_of ws)
    (small (first_of (others_of ws))
    (at_end (call (Doc.direct (Doc.Plain.command (number_of 10 (first_of ws)) (number_of 10 (first_of (others_of ws))))))
    (others_of (others_of ws))))

-- `start 5`: "each with an optional node number, otherwise 0"
unfoldable pub named_meaning : ℕ → List (List ℕ) → Meaning
named_meaning code [] = call (Doc.direct (Doc.Plain.command code 0))
named_meaning code (w ∷ ws) = small w (at_end (call (Doc.direct (Doc.Plain.command code (number_of 10 w)))) ws)

-- `raise internal`, `clear communication`
unfoldable pub cause_meaning : (Cause → Doc.Plain) → List ℕ → Meaning
cause_meaning f w =
    cond (is_word w (ascii "internal")) (call (Doc.direct (f Internal)))
    (cond (is_word w (ascii "communication")) (call (Doc.direct (f Lost)))
    (unknown Ex.Cause))

unfoldable pub fault_meaning : (Cause → Doc.Plain) → List (List ℕ) → Meaning
fault_meaning f ws = at_end (cause_meaning f (first_of ws)) (others_of ws)

-- `heartbeat 5`: "a heartbeat of that node, 0 to 255"
unfoldable pub heartbeat_meaning : List (List ℕ) → Meaning
heartbeat_meaning ws =
    small (first_of ws) (at_end (call (Doc.direct (Doc.Plain.heartbeat (number_of 10 (first_of ws))))) (others_of ws))

-- `elapsed 100`: "milliseconds, 0 to 4294967295"
unfoldable pub elapsed_meaning : List (List ℕ) → Meaning
elapsed_meaning ws = milliseconds (first_of ws) (at_end (call (Doc.elapsed (number_of 10 (first_of ws)))) (others_of ws))

-- bytes up to the line's end, and the call that has them
abbrev pub bytes_meaning : (List ℕ → Doc.Call) → Found ℕ → Meaning
bytes_meaning f (missing e) = unknown e
bytes_meaning f (items bytes []) = call (f bytes)
bytes_meaning f (items bytes (w ∷ ws)) = unknown Ex.Byte

-- the bytes of a write
abbrev pub write_meaning : ℕ → ℕ → Found ℕ → Meaning
write_meaning index sub = bytes_meaning (λ (bytes : List ℕ). Doc.direct (Doc.Plain.write index sub bytes))

-- `6200:1` is a read, `6300:1 = 01 80` a write
abbrev pub entry_meaning : ℕ → ℕ → List (List ℕ) → Meaning
entry_meaning index sub [] = call (Doc.direct (Doc.Plain.read index sub))
entry_meaning index sub (w ∷ ws) = cond (is_word w (ascii "=")) (write_meaning index sub (items_of byte_item 512 ws)) (unknown Ex.Data)

-- what stands before the first `:`
abbrev pub index_of : List ℕ → ℕ
index_of w = short_number 4 (take (run false 58 w) w)

-- "without `:S` the sub-index is 0"
abbrev pub sub_index_of : List ℕ → ℕ
sub_index_of [] = 0
sub_index_of (colon ∷ digits) = short_number 2 digits

-- "An index has 1 to 4 digits, a sub-index and a byte 1 or 2"
unfoldable pub access_meaning : List ℕ → List (List ℕ) → Meaning
access_meaning w ws =
    cond (ltb 65535 (index_of w)) (unknown Ex.Call)
    (cond (ltb 255 (sub_index_of (drop (run false 58 w) w))) (unknown Ex.Byte)
    (entry_meaning (index_of w) (sub_index_of (drop (run false 58 w) w)) ws))

-- a sample's event bytes, after a second `/`
abbrev pub events_meaning : List ℕ → List ℤ → Found ℕ → Meaning
events_meaning digital analogue = bytes_meaning (λ (events : List ℕ). Doc.direct (Doc.Plain.sample digital analogue events))

-- a sample's numbers: "a second `/` and bytes give the event buffer's content before the call, otherwise sixteen bytes of 00"
abbrev pub analogue_meaning : List ℕ → Found ℤ → Meaning
analogue_meaning digital (missing e) = unknown e
analogue_meaning digital (items analogue []) = call (Doc.direct (Doc.Plain.sample digital analogue (replicate 16 0)))
analogue_meaning digital (items analogue (mark ∷ ws)) = events_meaning digital analogue (items_of byte_item 64 ws)

-- `sample 01 00 .. / 0 -5 ..`: digital bytes, `/`, numbers
abbrev pub sample_meaning : Found ℕ → Meaning
sample_meaning (missing e) = unknown e
sample_meaning (items digital []) = unknown Ex.Slash
sample_meaning (items digital (mark ∷ ws)) = analogue_meaning digital (items_of number_item 64 ws)

-- a drive's numbers, up to the line's end
abbrev pub channels_meaning : List ℕ → Found ℤ → Meaning
channels_meaning lines (missing e) = unknown e
channels_meaning lines (items channels []) = call (Doc.direct (Doc.Plain.drive lines channels))
channels_meaning lines (items channels (w ∷ ws)) = unknown Ex.Signed

-- `drive FF FF / 1 2`: bytes, `/`, numbers
abbrev pub lines_meaning : Found ℕ → Meaning
lines_meaning (missing e) = unknown e
lines_meaning (items lines []) = unknown Ex.Slash
lines_meaning (items lines (mark ∷ ws)) = channels_meaning lines (items_of number_item 64 ws)

-- `drive` alone: "sixteen bytes of 00 and eight numbers 0"
unfoldable pub drive_meaning : List (List ℕ) → Meaning
drive_meaning [] = call (Doc.direct (Doc.Plain.drive (replicate 16 0) (replicate 8 (pos 0))))
drive_meaning (w ∷ ws) = lines_meaning (items_of byte_item 64 (w ∷ ws))

-- "which of the four mappings (1 is 1600, 4 is 1603)"
abbrev pub message_of : ℕ → Message
message_of n = cond (eqb n 1) First (cond (eqb n 2) Second (cond (eqb n 3) Third Fourth))

-- no number from 1 to 4
abbrev pub no_message : ℕ → Bool
no_message n = eqb n 0 || ltb 4 n

-- the number of a message, and what f makes of the message and the words after it
unfoldable pub message_meaning : (Message → List (List ℕ) → Meaning) → List (List ℕ) → Meaning
message_meaning f ws =
    cond (no_message (number_of 10 (first_of ws))) (unknown Ex.Message)
    (f (message_of (number_of 10 (first_of ws))) (others_of ws))

-- `receive 1 01 80`: "then the frame's bytes, none too"
abbrev pub receive_meaning : Message → List (List ℕ) → Meaning
receive_meaning message ws = bytes_meaning (Doc.receive message) (items_of byte_item 64 ws)

-- `transmit 1 FF FF ..`: "with bytes, the buffer's content before the call, otherwise eight bytes of 00. `transmit 1 /` is an empty buffer"
abbrev pub transmit_meaning : Message → List (List ℕ) → Meaning
transmit_meaning message [] = call (Doc.transmit message (replicate 8 0))
transmit_meaning message (w ∷ ws) =
    cond (is_word w slash) (at_end (call (Doc.transmit message [])) ws)
    (bytes_meaning (Doc.transmit message) (items_of byte_item 64 (w ∷ ws)))

-- `request 40 00 62 01 00 00 00 00`: "the request's bytes; after `/` the reply buffer's content before the call, otherwise eight bytes of
-- 00"
abbrev pub request_meaning : Found ℕ → Meaning
request_meaning (missing e) = unknown e
request_meaning (items frame []) = call (Doc.request frame (replicate 8 0))
request_meaning (items frame (mark ∷ ws)) = bytes_meaning (Doc.request frame) (items_of byte_item 64 ws)

-- the commands by name: `start`, `stop`, `pre-operational`, `reset-node`, `reset-communication`; any other word is an entry
unfoldable pub named_command : List ℕ → List (List ℕ) → Meaning
named_command w ws =
    cond (is_word w (ascii "start")) (named_meaning 1 ws)
    (cond (is_word w (ascii "stop")) (named_meaning 2 ws)
    (cond (is_word w (ascii "pre-operational")) (named_meaning 128 ws)
    (cond (is_word w (ascii "reset-node")) (named_meaning 129 ws)
    (cond (is_word w (ascii "reset-communication")) (named_meaning 130 ws)
    (access_meaning w ws)))))

-- `create`, `command`, `raise`, `clear`, `heartbeat`, `elapsed`; then the commands by name
unfoldable pub plain_meaning : List ℕ → List (List ℕ) → Meaning
plain_meaning w ws =
    cond (is_word w (ascii "create")) (create_meaning ws)
    (cond (is_word w (ascii "command")) (command_meaning ws)
    (cond (is_word w (ascii "raise")) (fault_meaning Doc.Plain.raise ws)
    (cond (is_word w (ascii "clear")) (fault_meaning Doc.Plain.clear ws)
    (cond (is_word w (ascii "heartbeat")) (heartbeat_meaning ws)
    (cond (is_word w (ascii "elapsed")) (elapsed_meaning ws)
    (named_command w ws))))))

-- `sample`, `drive`, `receive`, `transmit`, `request`; then the calls without buffers
unfoldable pub words_meaning : List (List ℕ) → Meaning
words_meaning [] = nothing
words_meaning (w ∷ ws) =
    cond (is_word w (ascii "sample")) (sample_meaning (items_of byte_item 64 ws))
    (cond (is_word w (ascii "drive")) (drive_meaning ws)
    (cond (is_word w (ascii "receive")) (message_meaning receive_meaning ws)
    (cond (is_word w (ascii "transmit")) (message_meaning transmit_meaning ws)
    (cond (is_word w (ascii "request")) (request_meaning (items_of byte_item 64 ws))
    (plain_meaning w ws)))))

-- a line's meaning
unfoldable pub meaning_of : List ℕ → Meaning
meaning_of line = words_meaning (words_of (content_of line))
