-- Answer lines, to the letter: the call's number, what it answers, and in parentheses words that help a person.
-- Assumes nothing.
use Rattle.std.specs.Prelude.{Bool, not, cond, ◌&&◌, List, [], ◌∷◌, ◌++◌, ℕ, ◌/◌, ◌%◌, ltb, eqb, take, ℤ}
use Rattle.words.specs.declared.Expected.{Expected}
use Rattle.words.specs.declared.Expected.TheVariants as Ex
use Rattle.words.specs.Ascii.{ascii}
use Rattle.words.specs.Words.{words_of}
use Rattle.texts.specs.Texts.{long_hex_text, decimal_text, bytes_text, numbers_text, words_text, places_text}
use Rattle.answers.specs.declared.remarks.Before.{Before}
use Rattle.answers.specs.EntryWords.{entry_text}
use Rattle.answers.specs.Refusals.{refusal_text, access_refusal_text}
use Rattle.answers.specs.Remarks.{written_text}

abbrev pub newline : List ℕ
newline = 10 ∷ []

-- words in parentheses end a line
abbrev pub in_parentheses : List ℕ → List ℕ
in_parentheses words = ascii " (" ++ words ++ ascii ")" ++ newline

-- "0, a decimal number from the papers, or an abort code as eight upper-case hexadecimal digits"; the papers' numbers are below 10
unfoldable pub number_text : ℕ → List ℕ
number_text n = cond (ltb n 10) (decimal_text n) (long_hex_text n)

-- the end of a line: nothing more where the call is accepted
unfoldable pub end_text : ℕ → List ℕ
end_text n = cond (eqb n 0) newline (in_parentheses (refusal_text n))

-- the line of a call that answers its number alone
unfoldable pub plain_line : ℕ → List ℕ
plain_line n = number_text n ++ end_text n

-- a read or a write that is refused
unfoldable pub refused_line : ℕ → ℕ → ℕ → List ℕ
refused_line n index sub = number_text n ++ in_parentheses (access_refusal_text n index sub)

-- a write of a value, by the device before it
unfoldable pub write_line : ℕ → ℕ → ℕ → ℕ → Before → List ℕ
write_line n value index sub b =
    cond (eqb n 0) (ascii "0" ++ in_parentheses (written_text index sub value b)) (refused_line n index sub)

-- the four bytes of 32 bits, the least significant first
abbrev pub four_bytes : ℕ → List ℕ
four_bytes v = (v % 256) ∷ (v / 256 % 256) ∷ (v / 65536 % 256) ∷ (v / 16777216) ∷ []

-- "accepted read: `=` and the entry's bytes, two upper-case digits each"
unfoldable pub read_line : ℕ → ℕ → ℕ → ℕ → ℕ → List ℕ
read_line n value size index sub =
    cond (eqb n 0) (ascii "0 =" ++ bytes_text (take size (four_bytes value)) ++ in_parentheses (entry_text index sub value))
    (refused_line n index sub)

-- a command, for this node or another
unfoldable pub command_line : ℕ → Bool → List ℕ
command_line n addressed =
    cond (eqb n 0 && not addressed) (ascii "0" ++ in_parentheses (ascii "for another node, nothing done")) (plain_line n)

-- "`events`, the event buffer's bytes as the call left them, `/`, and the numbers of the channels with an event, rising"
unfoldable pub sample_line : ℕ → List ℕ → ℕ → List ℕ
sample_line n events channels = number_text n ++ ascii " events" ++ bytes_text events ++ ascii " /" ++ places_text channels ++ end_text n

-- "`lines`, the byte buffer as the call left it, `/`, the number buffer as the call left it"
unfoldable pub drive_line : ℕ → List ℕ → List ℤ → List ℕ
drive_line n lines channels = number_text n ++ ascii " lines" ++ bytes_text lines ++ ascii " /" ++ numbers_text channels ++ end_text n

-- the end of a receive's line, which has no refusal: why nothing was written, in a node that is operational or not, by a frame that is as
-- long as its mapping or not
unfoldable pub receive_end : Bool → Bool → List ℕ
receive_end active long =
    cond active (cond long newline (in_parentheses (ascii "frame shorter than its mapping, nothing written")))
    (in_parentheses (ascii "node not operational, nothing written"))

unfoldable pub receive_line : ℕ → Bool → Bool → List ℕ
receive_line n active long = number_text n ++ receive_end active long

-- the end of a heartbeat's line, which has no refusal: whether a used entry names the node
unfoldable pub heartbeat_end : Bool → List ℕ
heartbeat_end watched = cond watched newline (in_parentheses (ascii "no entry watches this node"))

unfoldable pub heartbeat_line : ℕ → Bool → List ℕ
heartbeat_line n watched = number_text n ++ heartbeat_end watched

-- the end of an elapsed call's line, which has no refusal: whether an entry expires by it, and whether a watch is started before it
unfoldable pub elapsed_end : Bool → Bool → List ℕ
elapsed_end due running =
    cond due (in_parentheses (ascii "watch expired")) (cond running newline (in_parentheses (ascii "no watch started")))

unfoldable pub elapsed_line : ℕ → Bool → Bool → List ℕ
elapsed_line n due running = number_text n ++ elapsed_end due running

-- the end of a transmit's line, which has one refusal: why no byte was written, in a node that is operational or not
unfoldable pub frame_end : ℕ → Bool → List ℕ
frame_end n active =
    cond (eqb n 0) (cond active newline (in_parentheses (ascii "node not operational")))
    (in_parentheses (ascii "frame buffer not 8 bytes"))

-- the call's number, a word, "the buffer as the call left it, `/`", and a count
abbrev pub counted_text : ℕ → List ℕ → List ℕ → ℕ → List ℕ
counted_text n word buffer count = number_text n ++ word ++ bytes_text buffer ++ ascii " / " ++ decimal_text count

-- "`frame`, the buffer as the call left it, `/`, how many bytes were written"
unfoldable pub frame_line : ℕ → List ℕ → ℕ → Bool → List ℕ
frame_line n frame count active = counted_text n (ascii " frame") frame count ++ frame_end n active

-- what should have stood in a line
abbrev pub expected_text : Expected → List ℕ
expected_text Ex.Call = ascii "a call or an index of 1 to 4 hexadecimal digits"
expected_text Ex.Byte = ascii "1 or 2 hexadecimal digits"
expected_text Ex.Small = ascii "a number from 0 to 255"
expected_text Ex.Signed = ascii "a number from -32768 to 32767"
expected_text Ex.Cause = ascii "internal or communication"
expected_text Ex.Data = ascii "= between spaces, or the end of the line"
expected_text Ex.Slash = ascii "/ and numbers"
expected_text Ex.Fewer = ascii "at most 64 in a buffer"
expected_text Ex.End = ascii "the end of the line"
expected_text Ex.Shorter = ascii "at most 1,024 bytes"
expected_text Ex.Answer = ascii "an answer before this line"
expected_text Ex.Message = ascii "a number from 1 to 4"
expected_text Ex.Milliseconds = ascii "a number from 0 to 4294967295"

-- "A line that is no call of this table gets `? line N: ` and what was expected"
unfoldable pub unknown_line : ℕ → Expected → List ℕ
unknown_line line e = ascii "? line " ++ decimal_text line ++ ascii ": " ++ ascii "expected " ++ expected_text e ++ newline

-- an expected answer that did not come: "`! line N: expected 0 = 0F` (the expected words, single spaces)"
unfoldable pub unmet_line : ℕ → List ℕ → List ℕ
unmet_line line text = ascii "! line " ++ decimal_text line ++ ascii ": expected" ++ words_text (words_of text) ++ newline

-- "an empty line and `C calls, R refused, Q not understood`"
unfoldable pub totals_text : ℕ → ℕ → ℕ → List ℕ
totals_text calls refused unknown =
    newline ++ decimal_text calls ++ ascii " calls, " ++ decimal_text refused ++ ascii " refused, "
    ++ decimal_text unknown ++ ascii " not understood" ++ newline

-- "A list with such lines gets one more line after the totals, `E as expected, D not`"
unfoldable pub judged_text : ℕ → ℕ → List ℕ
judged_text met unmet =
    cond (eqb met 0 && eqb unmet 0) []
    (decimal_text met ++ ascii " as expected, " ++ decimal_text unmet ++ ascii " not" ++ newline)
