-- Document 02, Item 3: encoding and decoding are inverse on what the server sends.
-- Assumes nothing.
use mathlib.Core.Path.{◌≡◌, refl, ap, ◌∙◌}
use mathlib.Core.Bool.{Bool, true, false, not}
use mathlib.Core.List.{List, ◌++◌}
use Prim.Native.Nat.{ℕ, zero, suc, ◌+◌, ◌*◌, ◌-◌, ◌/◌, ◌%◌, ◌^◌, ◌≤◌, ◌<◌}
use native.Mathlib.Nat.{pow-suc}
use native.Mathlib.Omega.{arith}
use lib.Dec.{eqb}
use lib.ListN.{length, take, drop, length-drop}
use lib.Seq.{length-take-le, take_at, drop_at}
use borrow.Author.Tests.{ne_eqb}
use Rattle.profile.specs.Bits.{bit_at, bit}
use Rattle.profile.specs.Bytes.{little_endian, bytes_of}
use Rattle.profile.specs.Calls.{Reply}
use Rattle.profile.specs.Server.{command_of, unused_of, is_expedited, tells_size, first_byte, entry_bytes, asks_upload}
use Rattle.profile.specs.Server.{reply_data, reply_frame, download_reply, upload_reply, abort_reply, encoded}
use Rattle.profile.specs.Replies.{plain, read_reply}
use Rattle.profile.specs.ServerClaims.{FieldsBack, decoded, ReadFits}
use Rattle.profile.proofs.BoolLaws.{picked}
use Rattle.profile.proofs.MessageLaws.{bytes_of_length}
use Rattle.profile.proofs.ReadLaws.{one_bit}

-- ---- the first byte

-- the four fields, the bits as numbers
fields : (command unused e t : ℕ) → command < 8 → unused < 4 → e < 2 → t < 2 → (x : ℕ) → x ≡ 32 * command + 4 * unused + 2 * e + t
    → (x / 32 % 8 ≡ command) × (x / 4 % 4 ≡ unused) × (x / 2 % 2 ≡ e) × (x / 1 % 2 ≡ t)
fields command unused e t h k l m x is = (omega arith, omega arith, omega arith, omega arith)

bit_back : (b : Bool) (x : ℕ) → x ≡ bit b → eqb x 1 ≡ b
bit_back true x is = rw is
bit_back false x is = rw is

-- "expedited download and upload as in CiA 301": no field of the first byte hides another
pub fields_back : (command unused : ℕ) (expedited told : Bool) → command < 8 → unused < 4
    → FieldsBack command unused expedited told (first_byte command unused expedited told)
unfolding first_byte command_of unused_of is_expedited tells_size bit_at
fields_back command unused expedited told h k =
    let found = fields command unused (bit expedited) (bit told) h k (one_bit expedited) (one_bit told) _ refl in
    record {
      command_is = found.0;
      unused_is = found.1;
      expedited_is = bit_back expedited _ found.2;
      told_is = bit_back told _ found.3;
    }

-- ---- encoding and decoding are inverse on what the server sends

-- the data bytes of a number that fits them hold the number
bytes_hold : (n v : ℕ) → v < 256 ^ n → little_endian (bytes_of n v) ≡ v
bytes_hold zero v h = omega arith
bytes_hold (suc n) v h =
    let rest = bytes_hold n (v / 256) (omega (arith, pow-suc 256 n)) in omega (arith, rest)

-- a reply behind its first byte
module _ (frame : List ℕ) (l : length frame ≡ 8) (size v : ℕ) where
  three : length (entry_bytes frame) ≡ 3
  three = length-take-le 3 (drop 1 frame) (rw length-drop (omega arith))

  -- "an abort reply repeats its request's second to fourth bytes", and so does every other
  entry_repeated : take 3 (entry_bytes frame ++ reply_data size v) ≡ entry_bytes frame
  entry_repeated = take_at (entry_bytes frame) (reply_data size v) 3 three

  data_held : v < 256 ^ size → little_endian (take size (drop 3 (entry_bytes frame ++ reply_data size v))) ≡ v
  data_held f =
      ap (λ (bs : List ℕ). little_endian (take size bs)) (drop_at (entry_bytes frame) (reply_data size v) 3 three)
      ∙ ap little_endian (take_at (bytes_of size v) _ size (bytes_of_length size v))
      ∙ bytes_hold size v f

-- what a client reads behind a first byte of these fields
upload_read : (frame : List ℕ) (size v first : ℕ) → FieldsBack 2 (4 - size) true true first → length frame ≡ 8 → size ≤ 4
    → v < 256 ^ size → decoded (reply_frame first frame size v) ≡ read_reply v size
upload_read frame size v first back l k f =
    let told : 4 - (4 - size) ≡ size = omega arith in
    rw (back.command_is, back.expedited_is, back.told_is, back.unused_is, told, data_held frame l size v f) refl

-- "an upload reply tells its size"
pub upload_decoded : (frame : List ℕ) (size v : ℕ) → length frame ≡ 8 → 1 ≤ size → size ≤ 4 → v < 256 ^ size
    → decoded (upload_reply frame size v) ≡ read_reply v size
upload_decoded frame size v l h k f =
    upload_read frame size v _ (fields_back 2 (4 - size) true true (omega arith) (omega arith)) l k f

abort_read : (frame : List ℕ) (code first : ℕ) → command_of first ≡ 4 → length frame ≡ 8 → code < 256 ^ 4
    → decoded (reply_frame first frame 4 code) ≡ plain code
abort_read frame code first e l h = rw (e, data_held frame l 4 code h) refl

-- "Each plain refusal becomes an abort reply with its code"
pub abort_decoded : (frame : List ℕ) (code : ℕ) → length frame ≡ 8 → code < 256 ^ 4 → decoded (abort_reply frame code) ≡ plain code
abort_decoded frame code l h =
    abort_read frame code _ (fields_back 4 0 false false (omega arith) (omega arith)).command_is l h

download_read : (frame : List ℕ) (first : ℕ) → command_of first ≡ 3 → decoded (reply_frame first frame 0 0) ≡ plain 0
download_read frame first e = rw e refl

-- "expedited download .. as in CiA 301"
pub download_decoded : (frame : List ℕ) → decoded (download_reply frame) ≡ plain 0
download_decoded frame = download_read frame _ (fields_back 3 0 false false (omega arith) (omega arith)).command_is

-- the reply of a plain call that a server sends on: refused, that of an upload, that of a download
pub data Sent (frame : List ℕ) (r : Reply) : Type 0 where
  refused : (code : ℕ) → (code ≡ 0 → ⊥) → code < 256 ^ 4 → r ≡ plain code → Sent frame r
  uploaded : (v size : ℕ) → asks_upload frame ≡ true → ReadFits (read_reply v size) → r ≡ read_reply v size → Sent frame r
  downloaded : asks_upload frame ≡ false → r ≡ plain 0 → Sent frame r

-- encoded and decoded it is what it was
pub sent_decoded : (frame : List ℕ) (r : Reply) → length frame ≡ 8 → Sent frame r → decoded (encoded frame r) ≡ r
unfolding encoded
sent_decoded frame r l (refused code some small is) = rw (is, ne_eqb code 0 some) (abort_decoded frame code l small)
sent_decoded frame r l (uploaded v size u f is) = rw (is, u) (upload_decoded frame size v l f.least f.most f.fits)
sent_decoded frame r l (downloaded u is) = rw (is, u) (download_decoded frame)

pub encoded_repeats : (frame : List ℕ) (r : Reply) → length frame ≡ 8 → entry_bytes (encoded frame r) ≡ entry_bytes frame
unfolding encoded
encoded_repeats frame r l =
    picked Repeats (not (eqb r.number 0)) _ _ (λ e. entry_repeated frame l 4 r.number)
    (λ e. picked Repeats (asks_upload frame) _ _ (λ e. entry_repeated frame l r.size r.value) (λ e. entry_repeated frame l 0 0))
  where
    Repeats : List ℕ → Type 0
    Repeats sent = entry_bytes sent ≡ entry_bytes frame
