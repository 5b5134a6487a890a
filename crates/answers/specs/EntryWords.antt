-- What an entry is, in words: its name, and, where it is no window and stands in no mapping or watch, its value as a decimal number.
-- Assumes nothing.
use Rattle.std.specs.Prelude.{cond, ◌||◌, List, [], ◌∷◌, ◌++◌, ℕ, ◌+◌, ◌-◌, ◌*◌, ◌%◌, ltb, eqb}
use Rattle.profile.specs.declared.Home.{Home}
use Rattle.profile.specs.declared.Home.TheVariants.{Constant, Window, InputChannel, OutputChannel, Sources, Device}
use Rattle.profile.specs.declared.Home.TheVariants.{MappingEntry, WatchEntry}
use Rattle.profile.specs.Entries.{home_of}
use Rattle.words.specs.Ascii.{ascii}
use Rattle.texts.specs.Tables.{Row, ◌is◌, text_of}
use Rattle.texts.specs.Texts.{decimal_text, complement_text, places_text}

-- the attributes of the digital lines, by their rows; the last row is `output filter mask`
unfoldable pub attributes : List Row
attributes =
    0 is "input"
    ∷ 1 is "input polarity"
    ∷ 2 is "input filter"
    ∷ 3 is "any change"
    ∷ 4 is "low-to-high"
    ∷ 5 is "high-to-low"
    ∷ 6 is "output"
    ∷ 7 is "output polarity"
    ∷ 8 is "error mode"
    ∷ 9 is "error value"
    ∷ []

unfoldable pub attribute_text : ℕ → List ℕ
attribute_text row = text_of (ascii "output filter mask") attributes row

-- `, line 7` or `, lines 1 to 16`
unfoldable pub lines_text : ℕ → ℕ → List ℕ
lines_text from to =
    cond (eqb from to) (ascii ", line " ++ decimal_text from)
    (ascii ", lines " ++ decimal_text from ++ ascii " to " ++ decimal_text to)

-- of the eight mappings the first four receive: 0 is `receive` and 4 is `transmit`
unfoldable pub direction_text : ℕ → List ℕ
direction_text m = cond (ltb m 4) (ascii "receive") (ascii "transmit")

-- `, count` or `, entry 3`
unfoldable pub place_in_mapping : ℕ → List ℕ
place_in_mapping sub = cond (eqb sub 0) (ascii ", count") (ascii ", entry " ++ decimal_text sub)

-- `receive mapping 1, entry 3`
unfoldable pub mapping_text : ℕ → ℕ → List ℕ
mapping_text m sub = direction_text m ++ ascii " mapping " ++ decimal_text (m % 4 + 1) ++ place_in_mapping sub

-- an entry of the heartbeat watch: `watch, entry 1`
unfoldable pub watch_text : ℕ → List ℕ
watch_text sub = ascii "watch, entry " ++ decimal_text sub

-- the other entries by their index; the last row is `error value`
unfoldable pub names : List Row
names =
    0x1001 is "error register"
    ∷ 0x1029 is "behaviour on communication loss"
    ∷ 0x2003 is "filter length"
    ∷ 0x6005 is "digital event enable"
    ∷ 0x6401 is "input"
    ∷ 0x6411 is "output"
    ∷ 0x6421 is "event selection"
    ∷ 0x6423 is "analogue event enable"
    ∷ 0x6424 is "upper limit"
    ∷ 0x6425 is "lower limit"
    ∷ 0x6426 is "delta"
    ∷ 0x6427 is "negative delta"
    ∷ 0x6428 is "positive delta"
    ∷ 0x6443 is "error mode"
    ∷ []

unfoldable pub name_text : ℕ → List ℕ
name_text index = text_of (ascii "error value") names index

-- the first number of an entry's that stands for one below 0: "2 bytes, signed" 6401 and 6411, "4 bytes, signed" 6424, 6425 and 6444; past
-- all where the entry is unsigned
unfoldable pub first_below_0 : ℕ → ℕ
first_below_0 index =
    cond (eqb index 0x6401 || eqb index 0x6411) 0x8000
    (cond (eqb index 0x6424 || eqb index 0x6425 || eqb index 0x6444) 0x80000000 0x100000000)

-- `, -5`
unfoldable pub value_text : ℕ → ℕ → List ℕ
value_text index value = ascii ", " ++ complement_text (first_below_0 index) value

-- `filter length, 3`
unfoldable pub named_text : ℕ → ℕ → List ℕ
named_text index value = name_text index ++ value_text index value

-- ` of channel 1`; channels are counted from 0
abbrev pub channel_number_text : ℕ → List ℕ
channel_number_text n = ascii " of channel " ++ decimal_text (n + 1)

-- `upper limit of channel 1, 1000`
unfoldable pub channel_text : ℕ → ℕ → ℕ → List ℕ
channel_text index n value = name_text index ++ channel_number_text n ++ value_text index value

-- 1000, and sub-index 0 of every object that has more, "its entry count"
unfoldable pub constant_text : ℕ → ℕ → List ℕ
constant_text index value =
    cond (eqb index 0x1000) (ascii "device type") (ascii "number of entries") ++ ascii ", " ++ decimal_text value

-- "6422:1 has bit n - 1 for channel n": which ones, of sixteen
abbrev pub source_channels_text : ℕ → List ℕ
source_channels_text bits = ascii "event sources: channels" ++ places_text bits

unfoldable pub sources_text : ℕ → List ℕ
sources_text bits = cond (eqb bits 0) (ascii "event sources: none") (source_channels_text bits)

-- an entry of an index with a value, by where it lives
abbrev pub home_text : Home → ℕ → ℕ → List ℕ
home_text (Constant v) index value = constant_text index value
home_text (Window row w s) index value = attribute_text row ++ lines_text (w * (s - 1) + 1) (w * s)
home_text (InputChannel at n) index value = channel_text index n value
home_text (OutputChannel at n) index value = channel_text index n value
home_text Sources index value = sources_text (value % 65536)
home_text (Device at) index value = named_text index value
home_text (MappingEntry m s) index value = mapping_text m s
home_text (WatchEntry n) index value = watch_text (n + 1)

unfoldable pub entry_text : ℕ → ℕ → ℕ → List ℕ
entry_text index sub value = home_text (home_of index sub) index value
