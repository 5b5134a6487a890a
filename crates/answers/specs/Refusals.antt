-- What a refusal means, in words; of a refused size or sub-index what it should have been.
-- Assumes nothing.
use Rattle.std.specs.Prelude.{cond, ◌||◌, List, [], ◌∷◌, ◌++◌, ℕ, ◌/◌, ◌%◌, ltb, eqb}
use Rattle.profile.specs.Entries.{table, width_of, place, window, Row, objects, entry_of}
use Rattle.words.specs.Ascii.{ascii}
use Rattle.texts.specs.Tables as words
use Rattle.texts.specs.Tables.{◌is◌, text_of}
use Rattle.texts.specs.Texts.{decimal_text}

-- "for a refusal what it means": the numbers of the papers, and the abort codes
unfoldable pub refusals : List words.Row
refusals =
    1 is "node number out of range"
    ∷ 2 is "no such command"
    ∷ 3 is "not 16 digital bytes"
    ∷ 4 is "not 16 analogue numbers"
    ∷ 5 is "event buffer not 16 bytes"
    ∷ 6 is "not 16 bytes and 8 numbers"
    ∷ 0x08000022 is "node stopped"
    ∷ 0x06020000 is "no such object"
    ∷ 0x06090011 is "no such sub-index"
    ∷ 0x06010002 is "read only"
    ∷ 0x06070012 is "data too long"
    ∷ 0x06070013 is "data too short"
    ∷ 0x06090030 is "value not allowed"
    ∷ 0x06090031 is "value too high"
    ∷ 0x06090032 is "value too low"
    ∷ 0x06010000 is "count is not 0"
    ∷ 0x06040041 is "entry cannot be mapped"
    ∷ 0x06040042 is "more than 8 entries or 64 bits"
    ∷ 0x06040043 is "node watched by another entry"
    ∷ 0x05040001 is "not an expedited transfer"
    ∷ []

unfoldable pub refusal_text : ℕ → List ℕ
refusal_text n = text_of (ascii "refused") refusals n

-- ---- a refused size or sub-index of a read or a write

-- the last sub-index of an object, by its index: of a row of objects, 0 where none has it
abbrev pub last_in : List Row → ℕ → ℕ
last_in [] index = 0
last_in (r ∷ rs) index = cond (eqb index r.index) r.object.last (last_in rs index)

-- by the place of its index among the 44 of the table of digital lines, or past it
abbrev pub last_at : ℕ → ℕ → ℕ
last_at p index = cond (ltb p 44) (window (p / 4) (width_of (p % 4)) 0).last (last_in (objects 0) index)

unfoldable pub last_of : ℕ → ℕ
last_of index = last_at (place table index) index

-- `1 byte`, `4 bytes`
unfoldable pub size_text : ℕ → List ℕ
size_text size = decimal_text size ++ cond (eqb size 1) (ascii " byte") (ascii " bytes")

-- `, 4 bytes wanted`, `, the last is 16`
unfoldable pub wanted_text : ℕ → ℕ → ℕ → List ℕ
wanted_text n index sub =
    cond (eqb n 0x06070012 || eqb n 0x06070013) (ascii ", " ++ size_text (entry_of index sub).size ++ ascii " wanted")
    (cond (eqb n 0x06090011) (ascii ", the last is " ++ decimal_text (last_of index)) [])

unfoldable pub access_refusal_text : ℕ → ℕ → ℕ → List ℕ
access_refusal_text n index sub = refusal_text n ++ wanted_text n index sub
