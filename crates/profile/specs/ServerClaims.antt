-- Document 02, Item 3: what is claimed of the server.
-- Assumes nothing.
use Rattle.std.specs.Prelude.{◌≡◌, Bool, true, false, cond, ◌&&◌, List, [], ◌∷◌, ◌++◌, ℕ, ◌+◌, ◌*◌, ◌-◌, ◌/◌, ◌%◌, ◌^◌, ◌≤◌, ◌<◌, eqb, length}
use Rattle.profile.specs.Bits.{gather}
use Rattle.profile.specs.Bytes.{little_endian}
use Rattle.profile.specs.Entries.{entry_of}
use Rattle.profile.specs.Calls.{Plain, read, write, direct, request, Reply}
use Rattle.profile.specs.Refusals.{request_refusal}
use Rattle.profile.specs.Server.{command_of, unused_of, is_expedited, tells_size, told_size}
use Rattle.profile.specs.Server.{first_of, entry_bytes, data_in, aborts, asked, download_reply, upload_reply, abort_reply, encoded}
use Rattle.profile.specs.Machines.{node_alone, analogue_input}
use Rattle.profile.specs.Heard.{Machines, step_all}
use Rattle.profile.specs.Replies.{plain, read_reply, unchanged, count_reply, silent, reply}

-- ---- the bytes as they are sent, in numbers

-- eight bytes: a first one, an index, a sub-index, four bytes of data
abbrev pub framed : ℕ → ℕ → ℕ → List ℕ → List ℕ
framed first index sub rest = first ∷ index % 256 ∷ index / 256 ∷ sub ∷ rest

-- "least significant byte first"
abbrev pub four_data : ℕ → List ℕ
four_data v = v % 256 ∷ v / 256 % 256 ∷ v / 256 / 256 % 256 ∷ v / 256 / 256 / 256 % 256 ∷ []

-- "expedited download and upload as in CiA 301", "Reserved bits aren't read": what each first byte of a client asks, whatever the bits and
-- bytes that it does not give a meaning to
pub record AskedBy (index sub : ℕ) : Type 0 where
  -- 40 to 5F, the last four bytes any
  pub upload : (first : ℕ) (rest : List ℕ) → 0x40 ≤ first → first < 0x60 → asked (framed first index sub rest) ≡ read index sub ∷ []
  -- 23, 27, 2B, 2F for 4, 3, 2, 1 bytes, and 33, 37, 3B, 3F: bit 4 and the bytes beyond the size any
  pub told : (size reserved : ℕ) (payload spare : List ℕ) → 1 ≤ size → size ≤ 4 → reserved < 2 → length payload ≡ size
      → asked (framed (0x23 + 4 * (4 - size) + 16 * reserved) index sub (payload ++ spare)) ≡ write index sub payload ∷ []
  -- 22, 26, 2A, 2E, and 32, 36, 3A, 3E: bits 2, 3 and 4 and the bytes beyond the entry's size any
  pub untold : (unread reserved : ℕ) (payload spare : List ℕ) → unread < 4 → reserved < 2 → length payload ≡ (entry_of index sub).size
      → asked (framed (0x22 + 4 * unread + 16 * reserved) index sub (payload ++ spare)) ≡ write index sub payload ∷ []
  -- 20, 21, 24, 25 and so on: a download that is not expedited; and every command but download and upload
  pub segmented : (unread told reserved : ℕ) (rest : List ℕ) → unread < 4 → told < 2 → reserved < 2
      → asked (framed (0x20 + 4 * unread + told + 16 * reserved) index sub rest) ≡ []
  pub below : (first : ℕ) (rest : List ℕ) → first < 0x20 → asked (framed first index sub rest) ≡ []
  pub above : (first : ℕ) (rest : List ℕ) → 0x60 ≤ first → first < 0x100 → asked (framed first index sub rest) ≡ []

-- "A client's abort": 80 to 9F, all bytes after the first any
pub record AbortsBy (index sub : ℕ) : Type 0 where
  pub abort : (first : ℕ) (rest : List ℕ) → 0x80 ≤ first → first < 0xA0 → aborts (framed first index sub rest) ≡ true
  pub below : (first : ℕ) (rest : List ℕ) → first < 0x80 → aborts (framed first index sub rest) ≡ false
  pub above : (first : ℕ) (rest : List ℕ) → 0xA0 ≤ first → first < 0x100 → aborts (framed first index sub rest) ≡ false

-- "an upload reply tells its size, spare reply bytes are 0, and an abort reply repeats its request's second to fourth bytes"
pub record ReplyBytes (first index sub v : ℕ) (rest : List ℕ) : Type 0 where
  pub uploaded_1 : upload_reply (framed first index sub rest) 1 v ≡ framed 0x4F index sub (v % 256 ∷ 0 ∷ 0 ∷ 0 ∷ [])
  pub uploaded_2 : upload_reply (framed first index sub rest) 2 v ≡ framed 0x4B index sub (v % 256 ∷ v / 256 % 256 ∷ 0 ∷ 0 ∷ [])
  pub uploaded_4 : upload_reply (framed first index sub rest) 4 v ≡ framed 0x43 index sub (four_data v)
  pub downloaded : download_reply (framed first index sub rest) ≡ framed 0x60 index sub (0 ∷ 0 ∷ 0 ∷ 0 ∷ [])
  pub aborted : abort_reply (framed first index sub rest) v ≡ framed 0x80 index sub (four_data v)

-- ---- encoded and decoded

-- the first byte that was put together of four fields gives each of them back
pub record FieldsBack (command unused : ℕ) (expedited told : Bool) (first : ℕ) : Type 0 where
  pub command_is : command_of first ≡ command
  pub unused_is : unused_of first ≡ unused
  pub expedited_is : is_expedited first ≡ expedited
  pub told_is : tells_size first ≡ told

-- what a client reads in a reply, as in CiA 301: the code of an abort; the value and the size of an upload, where it is expedited and tells
-- its size; that a download is done; of anything else a number that no read or write has
abbrev pub decoded : List ℕ → Reply
decoded frame =
    cond (eqb (command_of (first_of frame)) 4) (plain (little_endian (data_in 4 frame)))
    (cond (eqb (command_of (first_of frame)) 2 && (is_expedited (first_of frame) && tells_size (first_of frame)))
    (read_reply (little_endian (data_in (told_size (first_of frame)) frame)) (told_size (first_of frame)))
    (cond (eqb (command_of (first_of frame)) 3) (plain 0) (plain 1)))

-- ---- a request is the plain call

-- "A request does exactly what the plain call does, for the machines too", c being that call; "number 0 and the reply's length": the whole
-- reply, which holds the reply of c as a frame
pub record AsPlain (ms : Machines) (frame buffer : List ℕ) (c : Plain) : Type 0 where
  pub machines : step_all (request frame buffer) ms ≡ step_all (direct c) ms
  pub sent : reply ms (request frame buffer) ≡ count_reply 8 (encoded frame (reply ms (direct c)))
  pub repeated : entry_bytes (encoded frame (reply ms (direct c))) ≡ entry_bytes frame

-- "A read answers the entry's bytes as an unsigned number and their count": one byte to four, and the number fits them
pub record ReadFits (r : Reply) : Type 0 where
  pub least : 1 ≤ r.size
  pub most : r.size ≤ 4
  pub fits : r.value < 256 ^ r.size

-- so does every accepted read of these machines
abbrev pub ReadsFit : Machines → Type 0
ReadsFit ms = (index sub : ℕ) → (reply ms (direct (read index sub))).number ≡ 0 → ReadFits (reply ms (direct (read index sub)))

-- "An accepted read of 6422:1 answers the bits, then clears them all.": so does an upload of it
pub record SourcesUploaded (ms : Machines) (frame buffer : List ℕ) : Type 0 where
  pub sent : reply ms (request frame buffer)
      ≡ count_reply 8 (framed 0x43 0x6422 1 (four_data (gather 16 (λ n. (ms analogue_input n).own.source))))
  pub cleared : (n : ℕ) → (step_all (request frame buffer) ms analogue_input n).own.source ≡ false

-- a request that no machine hears, and its whole reply
pub record Unheard (ms : Machines) (frame buffer : List ℕ) (r : Reply) : Type 0 where
  pub machines : step_all (request frame buffer) ms ≡ ms
  pub answer : reply ms (request frame buffer) ≡ r

-- every other request, in the paper's order: "Request not 8 bytes long: number 7, checked first. Reply buffer not 8 long: 5, next, then
-- the stopped check"; "A client's abort .. gets no reply and leaves the buffer"; "an abort reply with 05040001, after it"
pub record NoOtherChange (ms : Machines) (frame buffer : List ℕ) : Type 0 where
  pub refused : (request_refusal (length frame) (length buffer) ≡ 0 → ⊥)
      → Unheard ms frame buffer (unchanged (request_refusal (length frame) (length buffer)) buffer [])
  pub unanswered : request_refusal (length frame) (length buffer) ≡ 0 → silent (ms node_alone 0).node frame ≡ true
      → Unheard ms frame buffer (count_reply 0 buffer)
  pub unknown : request_refusal (length frame) (length buffer) ≡ 0 → silent (ms node_alone 0).node frame ≡ false → asked frame ≡ []
      → Unheard ms frame buffer (count_reply 8 (abort_reply frame 0x05040001))
