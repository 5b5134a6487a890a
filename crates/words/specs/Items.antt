-- Lists of bytes and of numbers in a line, up to a `/` or the line's end.
-- Assumes nothing.
use Rattle.std.specs.Prelude.{◌≡◌, Bool, true, cond, List, [], ◌∷◌, ℕ, zero, suc, ◌-◌, ◌≤◌, ltb, length, drop, ℤ}
use Rattle.std.specs.Prelude.{Result, Ok, Err}
use Rattle.std.specs.Int.{w16}
use Rattle.std.proofs.Common.{to_z}
use Rattle.words.specs.declared.Expected.{Expected}
use Rattle.words.specs.declared.Expected.TheVariants as Ex
use Rattle.words.specs.declared.items.Items.{Items}
use Rattle.words.specs.Ascii.{ascii}
use Rattle.words.specs.Words.{words_of, is_word}
use Rattle.words.specs.Numbers.{short_number, signed_of}

-- how a word is read as an item: its number, which is above `most` where it is none, the item, and what should have stood there
pub record Item (A : Type 0) : Type 0 where
  pub number : List ℕ → ℕ
  pub most : ℕ
  pub value : ℕ → A
  pub expected : Expected

-- "a byte 1 or 2" hexadecimal digits
abbrev pub byte_item : Item ℕ
byte_item = record { number = short_number 2; most = 255; value = λ n. n; expected = Ex.Byte }

-- "signed analogue numbers (-32768 to 32767)"
abbrev pub number_item : Item ℤ
number_item = record { number = signed_of; most = 65535; value = to_z w16; expected = Ex.Signed }

-- a word as an item, or what should have stood there
abbrev pub read_as : {A : Type 0} → Item A → List ℕ → Result A Expected
read_as k w = cond (ltb k.most (k.number w)) (Err k.expected) (Ok (k.value (k.number w)))

abbrev pub slash : List ℕ
slash = ascii "/"

-- no item follows
abbrev pub is_over : List (List ℕ) → Bool
is_over [] = true
is_over (w ∷ ws) = is_word w slash

-- the items of some words and the words after them; or what should have stood there
pub data Found (A : Type 0) : Type 0 where
  items : List A → List (List ℕ) → Found A
  missing : Expected → Found A

-- an item in front
abbrev pub with_item : {A : Type 0} → A → Found A → Found A
with_item x (items xs ws) = items (x ∷ xs) ws
with_item x (missing e) = missing e

-- the items of the words up to a `/` or the line's end, where there is room for them
abbrev pub items_of : {A : Type 0} → Item A → ℕ → List (List ℕ) → Found A
items_of k room [] = items [] []
items_of k zero (w ∷ ws) =
    cond (is_word w slash) (items [] (w ∷ ws))
    (cond (ltb k.most (k.number w)) (missing k.expected) (missing Ex.Fewer))
items_of k (suc room) (w ∷ ws) =
    cond (is_word w slash) (items [] (w ∷ ws))
    (cond (ltb k.most (k.number w)) (missing k.expected) (with_item (k.value (k.number w)) (items_of k room ws)))

-- what is held are the items of a line, of which there may be `most`, and `rest` is the end of the line that follows them
pub record InBuffer {A : Type 0} (k : Item A) (most : ℕ) (line : List ℕ) (held : List A) (rest : List ℕ) : Type 0 where
  pub found : items_of k most (words_of line) ≡ items held (words_of rest)
  pub room : length held ≤ most
  pub behind : rest ≡ drop (length line - length rest) line

-- what reading a list promises, where a buffer b holds the items `held b`
abbrev pub ReadInto : {A B : Type 0} → Item A → ℕ → (B → List A) → List ℕ → Result (Items B) Expected → Type 0
ReadInto k most held line (Ok found) = InBuffer k most line (held found.items) found.rest.now
ReadInto k most held line (Err e) = items_of k most (words_of line) ≡ missing e
