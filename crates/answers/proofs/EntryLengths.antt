-- How long the words of an entry can be, and those of a write or of a refusal: no answer line has more than 1,024 bytes.
-- Assumes nothing.
use mathlib.Core.Bool.{Bool, false, not, cond, ◌||◌, ◌&&◌}
use mathlib.Core.List.{List, [], ◌∷◌, ◌++◌}
use Prim.Native.Nat.{ℕ, zero, suc, ◌+◌, ◌-◌, ◌*◌, ◌/◌, ◌%◌, ◌≤◌}
use native.Mathlib.Nat.{suc-mul}
use native.Mathlib.Omega.{arith}
use lib.Dec.{eqb, ltb}
use lib.ListN.{length, take, length-append}
use Rattle.profile.specs.declared.Home.{Home}
use Rattle.profile.specs.declared.Home.TheVariants.{Constant, Window, InputChannel, OutputChannel, Sources, Device}
use Rattle.profile.specs.declared.Home.TheVariants.{MappingEntry, WatchEntry}
use Rattle.profile.specs.Entries.{Entry, entry_of, home_of}
use Rattle.profile.proofs.EntryRanges.{InRange, in_range}
use Rattle.words.specs.Ascii.{ascii}
use Rattle.texts.specs.Texts.{decimal_text, complement_text, bytes_text, run_text, runs_from, runs_text}
use Rattle.answers.specs.declared.remarks.Before.{Before}
use Rattle.answers.specs.EntryWords.{attributes, attribute_text, lines_text, direction_text, place_in_mapping, mapping_text, watch_text}
use Rattle.answers.specs.EntryWords.{names, name_text, first_below_0, value_text, named_text, channel_text}
use Rattle.answers.specs.EntryWords.{constant_text, source_channels_text, sources_text, home_text, entry_text}
use Rattle.answers.specs.Refusals.{refusal_text, last_of, size_text, wanted_text, access_refusal_text}
use Rattle.answers.specs.Remarks.{driven_later, used_next, masked, some_masked, output_remark, row_remark, window_remark, channel_remark}
use Rattle.answers.specs.Remarks.{remark_at, remark_text, written_text}
use Rattle.answers.specs.Answers.{in_parentheses, number_text, refused_line, write_line, four_bytes, read_line, command_line, plain_line}
use Rattle.answers.proofs.AnswerLaws.{lines_before}
use Rattle.answers.proofs.LengthLaws.{short_cond, short_then, decimal_short, decimal_three, bytes_short, places_short, number_short}
use Rattle.answers.proofs.LengthLaws.{table_short, refusal_short, parentheses_short, plain_short}

-- ---- the words of an entry

attribute_short : (row : ℕ) → length (attribute_text row) ≤ 18
unfolding attribute_text attributes
attribute_short row = table_short (ascii "output filter mask") attributes row

lines_short : (from to : ℕ) → length (lines_text from to) ≤ 52
unfolding lines_text
lines_short from to =
    short_cond 52 (eqb from to) (ascii ", line " ++ decimal_text from)
    (ascii ", lines " ++ decimal_text from ++ ascii " to " ++ decimal_text to)
    (omega (arith, decimal_short from))
    (simp length-append (omega (arith, decimal_short from, decimal_short to)))

direction_short : (m : ℕ) → length (direction_text m) ≤ 8
unfolding direction_text
direction_short m = short_cond 8 (ltb m 4) (ascii "receive") (ascii "transmit") (omega arith) (omega arith)

place_in_mapping_short : (sub : ℕ) → length (place_in_mapping sub) ≤ 28
unfolding place_in_mapping
place_in_mapping_short sub = short_cond 28 (eqb sub 0) (ascii ", count") (ascii ", entry " ++ decimal_text sub) (omega arith)
    (omega (arith, decimal_short sub))

mapping_short : (m sub : ℕ) → length (mapping_text m sub) ≤ 65
unfolding mapping_text
mapping_short m sub = simp length-append (omega (arith, direction_short m, decimal_short (m % 4 + 1), place_in_mapping_short sub))

watch_short : (sub : ℕ) → length (watch_text sub) ≤ 33
unfolding watch_text
watch_short sub = simp length-append (omega (arith, decimal_short sub))

name_short : (index : ℕ) → length (name_text index) ≤ 31
unfolding name_text names
name_short index = table_short (ascii "error value") names index

complement_short : (half n : ℕ) → length (complement_text half n) ≤ 21
complement_short half n =
    short_cond 21 (ltb n half) (decimal_text n) (45 ∷ decimal_text (half + half - n)) (omega (arith, decimal_short n))
    (omega (arith, decimal_short (half + half - n)))

value_short : (index value : ℕ) → length (value_text index value) ≤ 23
unfolding value_text
value_short index value = omega (arith, complement_short (first_below_0 index) value)

named_short : (index value : ℕ) → length (named_text index value) ≤ 54
unfolding named_text
named_short index value = short_then 31 23 (name_text index) (value_text index value) (name_short index) (value_short index value)

channel_short : (index n value : ℕ) → length (channel_text index n value) ≤ 86
unfolding channel_text
channel_short index n value =
    simp length-append (omega (arith, name_short index, decimal_short (n + 1), value_short index value))

constant_short : (index value : ℕ) → length (constant_text index value) ≤ 39
unfolding constant_text
constant_short index value =
    let kind = short_cond 17 (eqb index 0x1000) (ascii "device type") (ascii "number of entries") (omega arith) (omega arith) in
    simp length-append (omega (arith, kind, decimal_short value))

sources_short : (bits : ℕ) → length (sources_text bits) ≤ 359
unfolding sources_text
sources_short bits =
    short_cond 359 (eqb bits 0) (ascii "event sources: none") (source_channels_text bits) (omega arith) (omega (arith, places_short bits))

home_short : (h : Home) (index value : ℕ) → length (home_text h index value) ≤ 359
home_short (Constant v) index value = omega (arith, constant_short index value)
home_short (Window row w s) index value =
    let lines = lines_text (w * (s - 1) + 1) (w * s) in
    omega (arith, short_then 18 52 (attribute_text row) lines (attribute_short row) (lines_short (w * (s - 1) + 1) (w * s)))
home_short (InputChannel at n) index value = omega (arith, channel_short index n value)
home_short (OutputChannel at n) index value = omega (arith, channel_short index n value)
home_short Sources index value = sources_short (value % 65536)
home_short (Device at) index value = omega (arith, named_short index value)
home_short (MappingEntry m s) index value = omega (arith, mapping_short m s)
home_short (WatchEntry n) index value = omega (arith, watch_short (n + 1))

entry_short : (index sub value : ℕ) → length (entry_text index sub value) ≤ 359
unfolding entry_text
entry_short index sub value = home_short (home_of index sub) index value

-- ---- what a write did less

run_short : (n : ℕ) (some before : Bool) (bits : ℕ) → n ≤ 999 → length (run_text n some before bits) ≤ 7
unfolding run_text
run_short n some before bits h =
    let comma = cond some (ascii ", ") [] in
    let begins = comma ++ decimal_text n in
    let ends = cond (eqb (bits / 2 % 2) 1) [] (ascii " to " ++ decimal_text n) in
    let d = decimal_three n h in
    short_cond 7 (eqb (bits % 2) 1) (cond before ends begins) []
    (short_cond 7 before ends begins
    (short_cond 7 (eqb (bits / 2 % 2) 1) [] (ascii " to " ++ decimal_text n) (omega arith) (omega (arith, d)))
    (omega (arith, short_then 2 3 comma (decimal_text n) (short_cond 2 some (ascii ", ") [] (omega arith) (omega arith)) d)))
    (omega arith)

runs_from_short : (k n : ℕ) (some before : Bool) (bits : ℕ) → n + k ≤ 999 → length (runs_from k n some before bits) ≤ k * 7
runs_from_short zero n some before bits h = omega arith
runs_from_short (suc k) n some before bits h =
    let later = runs_from k (n + 1) (some || eqb (bits % 2) 1) (eqb (bits % 2) 1) (bits / 2) in
    omega (
      arith,
      suc-mul k 7,
      short_then 7 (k * 7) (run_text n some before bits) later (run_short n some before bits (omega (arith, h)))
          (runs_from_short k (n + 1) (some || eqb (bits % 2) 1) (eqb (bits % 2) 1) (bits / 2) (omega (arith, h))),
    )

runs_short : (n bits : ℕ) → n ≤ 129 → length (runs_text n bits) ≤ 224
unfolding runs_text
runs_short n bits h = omega (arith, runs_from_short 32 n false false bits (omega (arith, h)))

later_short : (fault : Bool) → length (cond fault driven_later []) ≤ 280
later_short fault = short_cond 280 fault driven_later [] (omega arith) (omega arith)

some_masked_short : (w s : ℕ) (b : Before) → w * s ≤ 128 → length (some_masked w s b) ≤ 280
unfolding some_masked
some_masked_short w s b h =
    let runs = runs_text (w * (s - 1) + 1) (masked w b.masks) in
    let others = cond b.fault (ascii "; in fault, driven later") [] in
    let both = short_then 224 24 runs others (runs_short (w * (s - 1) + 1) (masked w b.masks) (omega (arith, h, lines_before w s)))
    (short_cond 24 b.fault (ascii "; in fault, driven later") [] (omega arith) (omega arith)) in
    omega (arith, both)

output_remark_short : (w s : ℕ) (b : Before) → w * s ≤ 128 → length (output_remark w s b) ≤ 280
unfolding output_remark
output_remark_short w s b h =
    short_cond 280 (eqb (masked w b.masks) 0) (cond b.fault driven_later [])
    (cond (eqb b.masks 0) (ascii ": masked, not written") (some_masked w s b)) (later_short b.fault)
    (short_cond 280 (eqb b.masks 0) (ascii ": masked, not written") (some_masked w s b) (omega arith) (some_masked_short w s b h))

row_remark_short : (row : ℕ) (fault : Bool) → length (row_remark row fault) ≤ 280
unfolding row_remark
row_remark_short row fault =
    let settings = cond (eqb row 8 || eqb row 9) used_next [] in
    short_cond 280 fault (cond (eqb row 7) driven_later settings) []
    (short_cond 280 (eqb row 7) driven_later settings (omega arith)
    (short_cond 280 (eqb row 8 || eqb row 9) used_next [] (omega arith) (omega arith))) (omega arith)

channel_remark_short : (index : ℕ) (fault : Bool) → length (channel_remark index fault) ≤ 280
unfolding channel_remark
channel_remark_short index fault =
    short_cond 280 fault (cond (eqb index 0x6411) driven_later used_next) []
    (short_cond 280 (eqb index 0x6411) driven_later used_next (omega arith) (omega arith)) (omega arith)

-- the lines of a window are numbers up to 128
remark_short : (e : Entry) (h : Home) (b : Before) → InRange e h → length (remark_at h b) ≤ 280
unfolding window_remark
remark_short e (Constant v) b r = omega arith
remark_short e (Window row w s) b r =
    short_cond 280 (eqb row 6) (output_remark w s b) (row_remark row b.fault) (output_remark_short w s b r.last)
    (row_remark_short row b.fault)
remark_short e (InputChannel index n) b r = omega arith
remark_short e (OutputChannel index n) b r = channel_remark_short index b.fault
remark_short e Sources b r = omega arith
remark_short e (Device index) b r = omega arith
remark_short e (MappingEntry m s) b r = omega arith
remark_short e (WatchEntry n) b r = omega arith

written_short : (index sub value : ℕ) (b : Before) → length (written_text index sub value b) ≤ 639
unfolding written_text remark_text
written_short index sub value b =
    short_then 359 280 (entry_text index sub value) (remark_at (home_of index sub) b) (entry_short index sub value)
    (remark_short (entry_of index sub) (home_of index sub) b (in_range index sub))

-- ---- a refusal

size_short : (size : ℕ) → length (size_text size) ≤ 26
unfolding size_text
size_short size =
    short_then 20 6 (decimal_text size) (cond (eqb size 1) (ascii " byte") (ascii " bytes")) (decimal_short size)
    (short_cond 6 (eqb size 1) (ascii " byte") (ascii " bytes") (omega arith) (omega arith))

wanted_short : (n index sub : ℕ) → length (wanted_text n index sub) ≤ 36
unfolding wanted_text
wanted_short n index sub =
    let size = size_text (entry_of index sub).size in
    let sized = ascii ", " ++ size ++ ascii " wanted" in
    let last = cond (eqb n 0x06090011) (ascii ", the last is " ++ decimal_text (last_of index)) [] in
    short_cond 36 (eqb n 0x06070012 || eqb n 0x06070013) sized last
    (omega (arith, short_then 26 7 size (ascii " wanted") (size_short (entry_of index sub).size) (omega arith)))
    (short_cond 36 (eqb n 0x06090011) (ascii ", the last is " ++ decimal_text (last_of index)) []
    (omega (arith, decimal_short (last_of index))) (omega arith))

pub access_refusal_short : (n index sub : ℕ) → length (access_refusal_text n index sub) ≤ 66
unfolding access_refusal_text
access_refusal_short n index sub =
    short_then 30 36 (refusal_text n) (wanted_text n index sub) (refusal_short n) (wanted_short n index sub)

-- ---- words in parentheses, as they end a line

pub read_end_short : (index sub value : ℕ) → length (in_parentheses (entry_text index sub value)) ≤ 643
read_end_short index sub value = omega (arith, parentheses_short 359 (entry_text index sub value) (entry_short index sub value))

pub write_end_short : (index sub value : ℕ) (b : Before) → length (in_parentheses (written_text index sub value b)) ≤ 643
write_end_short index sub value b = parentheses_short 639 (written_text index sub value b) (written_short index sub value b)

-- ---- lines

pub refused_short : (n index sub : ℕ) → length (refused_line n index sub) ≤ 1024
unfolding refused_line
refused_short n index sub =
    let words = access_refusal_text n index sub in
    omega (
      arith,
      short_then 8 70 (number_text n) (in_parentheses words) (number_short n)
          (parentheses_short 66 words (access_refusal_short n index sub)),
    )

pub write_short : (n value index sub : ℕ) (b : Before) → length (write_line n value index sub b) ≤ 1024
unfolding write_line
write_short n value index sub b =
    short_cond 1024 (eqb n 0) (ascii "0" ++ in_parentheses (written_text index sub value b)) (refused_line n index sub)
    (omega (arith, write_end_short index sub value b)) (refused_short n index sub)

take_short : (size : ℕ) (l : List ℕ) → length (take size l) ≤ length l
take_short zero l = omega arith
take_short (suc n) [] = omega arith
take_short (suc n) (x ∷ l) = omega (arith, take_short n l)

pub read_short : (n value size index sub : ℕ) → length (read_line n value size index sub) ≤ 1024
unfolding read_line
read_short n value size index sub =
    let bytes = take size (four_bytes value) in
    short_cond 1024 (eqb n 0) (ascii "0 =" ++ bytes_text bytes ++ in_parentheses (entry_text index sub value)) (refused_line n index sub)
    (omega (
      arith,
      short_then 12 643 (bytes_text bytes) (in_parentheses (entry_text index sub value))
          (omega (arith, bytes_short bytes, take_short size (four_bytes value))) (read_end_short index sub value),
    ))
    (refused_short n index sub)

pub command_short : (n : ℕ) (addressed : Bool) → length (command_line n addressed) ≤ 1024
unfolding command_line
command_short n addressed = short_cond 1024 (eqb n 0 && not addressed) _ (plain_line n) (omega arith) (plain_short n)
