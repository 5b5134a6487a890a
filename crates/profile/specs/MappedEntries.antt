-- Document 02, Item 1: what the entries of a process data mapping name, and how much they move.
-- Assumes nothing.
use Rattle.std.specs.Prelude.{Bool, false, not, cond, ◌||◌, ◌&&◌, List, [], ◌∷◌, ℕ, ◌+◌, ◌*◌, ◌/◌, ◌%◌, eqb, ltb, leb, take, replicate}
use Rattle.profile.specs.Entries.{Entry}
use Rattle.profile.specs.declared.Home.{Home}
use Rattle.profile.specs.declared.Message.{Message}
use Rattle.profile.specs.declared.Message.TheVariants.{First, Second, Third, Fourth}
use Rattle.profile.specs.Entries.{entry_of, at_window, at_input_channel, at_output_channel}

-- "Sub-index 0 is the count .., 1 to 8 the entries"
pub record Mapping : Type 0 where
  pub count : ℕ
  pub entries : List ℕ

-- "empty when fresh"
abbrev pub empty_mapping : Mapping
empty_mapping = record { count = 0; entries = replicate 8 0 }

-- the entries in force
abbrev pub listed : Mapping → List ℕ
listed o = take o.count o.entries

-- "receive mappings 1600 to 1603 and transmit mappings 1A00 to 1A03": mapping 0 to 3 is of a received message, 4 to 7 of a transmitted one
abbrev pub received : Message → ℕ
received First = 0
received Second = 1
received Third = 2
received Fourth = 3

abbrev pub transmitted : Message → ℕ
transmitted First = 4
transmitted Second = 5
transmitted Third = 6
transmitted Fourth = 7

abbrev pub receives : ℕ → Bool
receives m = ltb m 4

-- "four bytes: index, sub-index, bit length", from the high end
abbrev pub index_of : ℕ → ℕ
index_of v = v / 65536

abbrev pub sub_of : ℕ → ℕ
sub_of v = v / 256 % 256

abbrev pub bits_of : ℕ → ℕ
bits_of v = v % 256

abbrev pub mapped_entry : ℕ → Entry
mapped_entry v = entry_of (index_of v) (sub_of v)

-- "Receive takes the output row and 6411, transmit the input row and 6401, of 8 bits and wider, sub-index 0 left out; nothing else is
-- mappable.": sub-index 0 is no line's and no channel's
abbrev pub mappable : ℕ → Home → Bool
mappable m e =
    at_window false (λ row w s. eqb row (cond (receives m) 6 0) && leb 8 w) e
    || (at_output_channel false (λ index n. receives m && eqb index 0x6411) e
    || at_input_channel false (λ index n. not (receives m) && eqb index 0x6401) e)

-- an entry that moves something: mappable, and of its own length. "An entry of 0 may be written and moves nothing."
unfoldable pub moves : ℕ → ℕ → Bool
moves m v = mappable m (mapped_entry v).home && eqb (bits_of v) (8 * (mapped_entry v).size)

-- how many bytes it moves
unfoldable pub moved : ℕ → ℕ → ℕ
moved m v = cond (moves m v) (mapped_entry v).size 0

-- the bytes of several
abbrev pub total : ℕ → List ℕ → ℕ
total m [] = 0
total m (v ∷ vs) = moved m v + total m vs
