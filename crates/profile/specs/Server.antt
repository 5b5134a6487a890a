-- Document 02, Item 3: the service data server, "expedited download and upload as in CiA 301". First the layout of a request and of a
-- reply, then the plain call that a request is, and the reply that it gets.
-- Assumes nothing.
use Rattle.std.specs.Prelude.{Bool, true, false, not, cond, ◌&&◌, List, [], ◌∷◌, ◌++◌, ℕ, ◌+◌, ◌*◌, ◌-◌, ◌/◌, ◌%◌, eqb, get_or, take, drop, replicate}
use Rattle.profile.specs.Bits.{bit_at, bit}
use Rattle.profile.specs.Bytes.{little_endian, bytes_of}
use Rattle.profile.specs.Entries.{entry_of}
use Rattle.profile.specs.Calls.{Plain, read, write, Reply}

-- ---- the first byte, as in CiA 301: bits 5 to 7 are the command specifier, bits 2 and 3 the number of the four data bytes that hold
-- no data, bit 1 is 1 in an expedited transfer, bit 0 where the size is told. "Reserved bits aren't read": bit 4, and what a request's own
-- kind does not name below

unfoldable pub command_of : ℕ → ℕ
command_of first = first / 32 % 8

unfoldable pub unused_of : ℕ → ℕ
unused_of first = first / 4 % 4

unfoldable pub is_expedited : ℕ → Bool
is_expedited first = bit_at first 1

unfoldable pub tells_size : ℕ → Bool
tells_size first = bit_at first 0

-- the byte of these four; its reserved bit, bit 4, is 0
unfoldable pub first_byte : ℕ → ℕ → Bool → Bool → ℕ
first_byte command unused expedited told = 32 * command + 4 * unused + 2 * bit expedited + bit told

-- how many of the four data bytes hold data
abbrev pub told_size : ℕ → ℕ
told_size first = 4 - unused_of first

-- ---- the eight bytes of a request, and of a reply: the first byte, the index, the sub-index, four data bytes

abbrev pub first_of : List ℕ → ℕ
first_of frame = get_or frame 0 0

-- "its request's second to fourth bytes"
abbrev pub entry_bytes : List ℕ → List ℕ
entry_bytes frame = take 3 (drop 1 frame)

abbrev pub index_in : List ℕ → ℕ
index_in frame = little_endian (take 2 (drop 1 frame))

abbrev pub sub_in : List ℕ → ℕ
sub_in frame = get_or frame 3 0

abbrev pub data_in : ℕ → List ℕ → List ℕ
data_in size frame = take size (drop 4 frame)

-- ---- what a request asks, by CiA 301's command specifiers of a client: 1 download, 2 upload, 4 abort

abbrev pub asks_download : List ℕ → Bool
asks_download frame = eqb (command_of (first_of frame)) 1 && is_expedited (first_of frame)

abbrev pub asks_upload : List ℕ → Bool
asks_upload frame = eqb (command_of (first_of frame)) 2

abbrev pub aborts : List ℕ → Bool
aborts frame = eqb (command_of (first_of frame)) 4

-- "A download that doesn't tell its size has the entry's own."
abbrev pub size_in : List ℕ → ℕ
size_in frame = cond (tells_size (first_of frame)) (told_size (first_of frame)) (entry_of (index_in frame) (sub_in frame)).size

-- "A request does exactly what the plain call does": the call that it is, or none
unfoldable pub asked : List ℕ → List Plain
asked frame =
    cond (asks_upload frame) (read (index_in frame) (sub_in frame) ∷ [])
    (cond (asks_download frame) (write (index_in frame) (sub_in frame) (data_in (size_in frame) frame) ∷ []) [])

-- ---- the reply, by CiA 301's command specifiers of a server: 3 download, 2 upload, 4 abort

-- so many data bytes of v; "spare reply bytes are 0"
abbrev pub reply_data : ℕ → ℕ → List ℕ
reply_data size v = bytes_of size v ++ replicate (4 - size) 0

-- "an abort reply repeats its request's second to fourth bytes", and so does every other
abbrev pub reply_frame : ℕ → List ℕ → ℕ → ℕ → List ℕ
reply_frame first frame size v = (first ∷ entry_bytes frame) ++ reply_data size v

abbrev pub download_reply : List ℕ → List ℕ
download_reply frame = reply_frame (first_byte 3 0 false false) frame 0 0

-- "an upload reply tells its size"
abbrev pub upload_reply : List ℕ → ℕ → ℕ → List ℕ
upload_reply frame size v = reply_frame (first_byte 2 (4 - size) true true) frame size v

abbrev pub abort_reply : List ℕ → ℕ → List ℕ
abort_reply frame code = reply_frame (first_byte 4 0 false false) frame 4 code

-- "Each plain refusal becomes an abort reply with its code": the reply of the plain call as a frame
unfoldable pub encoded : List ℕ → Reply → List ℕ
encoded frame r =
    cond (not (eqb r.number 0)) (abort_reply frame r.number)
    (cond (asks_upload frame) (upload_reply frame r.size r.value) (download_reply frame))
