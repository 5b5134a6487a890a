-- How long an answer can be: no line has more than 1,024 bytes.
-- Assumes nothing.
use mathlib.Core.Path.{◌≡◌, refl, subst}
use mathlib.Core.Bool.{Bool, true, false, cond, ◌&&◌}
use mathlib.Core.List.{List, [], ◌∷◌, ◌++◌}
use Prim.Native.Nat.{ℕ, zero, suc, ◌+◌, ◌-◌, ◌*◌, ◌/◌, ◌%◌, ◌^◌, ◌≤◌, ◌<◌, max}
use native.Mathlib.Nat.{pow-suc, suc-mul, div-lt_iff_lt-mul, le-max_left, le-max_right}
use native.Mathlib.Omega.{arith}
use lib.Dec.{eqb, ltb}
use lib.ListN.{length, length-append}
use lib.IntN.{ℤ}
use mir.Syntax.{w16}
use mir.Val.{of_z}
use borrow.Author.Tests.{ltb-true, ltb-false}
use Rattle.words.specs.declared.Expected.{Expected}
use Rattle.words.specs.declared.Expected.TheVariants as Ex
use Rattle.words.specs.Ascii.{ascii}
use Rattle.words.specs.Words.{with_byte, pieces_of, without_empty, words_of}
use Rattle.texts.specs.Tables.{Row, text_of}
use Rattle.texts.specs.Texts.{hex_text, long_hex_text, places_of, decimal_text, bits_text, each_text, bytes_text, numbers_text, place_text}
use Rattle.texts.specs.Texts.{words_text, places_from, places_text}
use Rattle.answers.specs.Refusals.{refusals, refusal_text}
use Rattle.answers.specs.Answers.{newline, in_parentheses, number_text, end_text, plain_line, sample_line, drive_line}
use Rattle.answers.specs.Answers.{receive_end, receive_line}
use Rattle.answers.specs.Answers.{frame_end, frame_line, expected_text, unknown_line, unmet_line, totals_text, judged_text}
use Rattle.texts.proofs.ReadBack.{digits_length}

-- one of two texts
pub short_cond : (m : ℕ) (t : Bool) (a b : List ℕ) → length a ≤ m → length b ≤ m → length (cond t a b) ≤ m
short_cond m true a b p q = p
short_cond m false a b p q = q

-- a text after another
pub short_then : (m n : ℕ) (a b : List ℕ) → length a ≤ m → length b ≤ n → length (a ++ b) ≤ m + n
short_then m n a b p q = omega (arith, p, q, length-append a b)

-- ---- numbers

-- a number below a power of ten has no more digits than it
places_small : (f k n : ℕ) → n < 10 ^ suc k → places_of f n ≤ suc k
places_small zero k n h = omega arith
places_small (suc f) zero n h = at (ltb n 10) (ltb-false n 10)
  where
    at : (t : Bool) → (t ≡ false → 10 ≤ n) → cond t 1 (suc (places_of f (n / 10))) ≤ 1
    at true g = omega arith
    at false g = absurd (omega (arith, h, g refl))
places_small (suc f) (suc k) n h = at (ltb n 10)
    (places_small f k (n / 10) ((div-lt_iff_lt-mul (omega arith)).1 (subst (λ x. n < x) (pow-suc 10 (suc k)) h)))
  where
    at : (t : Bool) → places_of f (n / 10) ≤ suc k → cond t 1 (suc (places_of f (n / 10))) ≤ suc (suc k)
    at true r = omega arith
    at false r = omega (arith, r)

-- whatever the number, there are no more places than were asked for
places_most : (f n : ℕ) → places_of f n ≤ suc f
places_most zero n = omega arith
places_most (suc f) n = at (ltb n 10) (places_most f (n / 10))
  where
    at : (t : Bool) → places_of f (n / 10) ≤ suc f → cond t 1 (suc (places_of f (n / 10))) ≤ suc (suc f)
    at true h = omega arith
    at false h = omega (arith, h)

pub decimal_short : (n : ℕ) → length (decimal_text n) ≤ 20
unfolding decimal_text
decimal_short n = omega (arith, digits_length 10 (places_of 19 n) n, places_most 19 n)

pub decimal_three : (n : ℕ) → n ≤ 999 → length (decimal_text n) ≤ 3
unfolding decimal_text
decimal_three n h = omega (arith, digits_length 10 (places_of 19 n) n, places_small 19 2 n (omega (arith, h)))

decimal_five : (n : ℕ) → n < 100000 → length (decimal_text n) ≤ 5
unfolding decimal_text
decimal_five n h = omega (arith, digits_length 10 (places_of 19 n) n, places_small 19 4 n (omega (arith, h)))

decimal_one : (n : ℕ) → n < 10 → length (decimal_text n) ≤ 1
unfolding decimal_text
decimal_one n h = omega (arith, digits_length 10 (places_of 19 n) n, places_small 19 0 n (omega (arith, h)))

hex_length : (b : ℕ) → length (hex_text b) ≡ 2
unfolding hex_text
hex_length b = refl

long_hex_length : (n : ℕ) → length (long_hex_text n) ≡ 8
unfolding long_hex_text hex_text
long_hex_length n = refl

bits_short : (n : ℕ) → length (bits_text n) ≤ 6
unfolding bits_text
bits_short n = at (ltb n 32768) (ltb-true n 32768) (ltb-false n 32768)
  where
    at : (t : Bool) → (t ≡ true → n < 32768) → (t ≡ false → 32768 ≤ n) → length (cond t (decimal_text n) (45 ∷ decimal_text (65536 - n))) ≤ 6
    at true l g = omega (arith, decimal_five n (omega (arith, l refl)))
    at false l g = omega (arith, decimal_five (65536 - n) (omega (arith, g refl)))

-- ---- lists

-- a list's text is no longer than its elements' are together
each_short : {A : Type 0} (f : A → List ℕ) (m : ℕ) → ((x : A) → length (f x) ≤ m) → (xs : List A) → length (each_text f xs) ≤ length xs * m
each_short f m h [] = omega arith
each_short f m h (x ∷ xs) = omega
    (arith, short_then m (length xs * m) (f x) (each_text f xs) (h x) (each_short f m h xs), suc-mul (length xs) m)

pub bytes_short : (bs : List ℕ) → length (bytes_text bs) ≤ length bs * 3
bytes_short bs = each_short (λ (b : ℕ). 32 ∷ hex_text b) 3 (λ b. omega (arith, hex_length b)) bs

numbers_short : (zs : List ℤ) → length (numbers_text zs) ≤ length zs * 7
numbers_short zs = each_short (λ (z : ℤ). 32 ∷ bits_text (of_z w16 z)) 7 (λ z. omega (arith, bits_short (of_z w16 z))) zs

place_short : (n bits : ℕ) → length (place_text n bits) ≤ 21
unfolding place_text
place_short n bits = short_cond 21 (eqb (bits % 2) 1) (32 ∷ decimal_text n) [] (omega (arith, decimal_short n)) (omega arith)

places_from_short : (k n bits : ℕ) → length (places_from k n bits) ≤ k * 21
places_from_short zero n bits = omega arith
places_from_short (suc k) n bits = omega (
  arith,
  short_then 21 (k * 21) (place_text n bits) (places_from k (n + 1) (bits / 2)) (place_short n bits)
      (places_from_short k (n + 1) (bits / 2)),
)

pub places_short : (bits : ℕ) → length (places_text bits) ≤ 336
unfolding places_text
places_short bits = omega (arith, places_from_short 16 1 bits)

-- a text's words with a space before each take no more than the text and one space: each but the first has one before it there too
pieces_long : (l : List ℕ) → length (words_text (pieces_of l)) ≡ length l + 1
pieces_long [] = refl
pieces_long (x ∷ l) = at (eqb x 32) (pieces_long l)
  where
    grows : (ps : List (List ℕ)) → length (words_text ps) ≡ length l + 1 → length (words_text (with_byte x ps)) ≡ length l + 2
    grows [] e = absurd (omega (arith, e))
    grows (p ∷ ps) e = omega (arith, e)

    at : (t : Bool) → length (words_text (pieces_of l)) ≡ length l + 1
        → length (words_text (cond t ([] ∷ pieces_of l) (with_byte x (pieces_of l)))) ≡ length (x ∷ l) + 1
    at true e = omega (arith, e)
    at false e = omega (arith, grows (pieces_of l) e)

without_empty_short : (ps : List (List ℕ)) → length (words_text (without_empty ps)) ≤ length (words_text ps)
without_empty_short [] = omega arith
without_empty_short ([] ∷ ps) = omega (arith, without_empty_short ps)
without_empty_short ((x ∷ p) ∷ ps) =
    omega (arith, without_empty_short ps, length-append p (words_text (without_empty ps)), length-append p (words_text ps))

words_short : (l : List ℕ) → length (words_text (words_of l)) ≤ length l + 1
unfolding words_of
words_short l = omega (arith, without_empty_short (pieces_of l), pieces_long l)

-- ---- words from tables

pub number_short : (n : ℕ) → length (number_text n) ≤ 8
unfolding number_text
number_short n = at (ltb n 10) (ltb-true n 10)
  where
    at : (t : Bool) → (t ≡ true → n < 10) → length (cond t (decimal_text n) (long_hex_text n)) ≤ 8
    at true l = omega (arith, decimal_one n (l refl))
    at false l = omega (arith, long_hex_length n)

-- the words of a table are no longer than the longest
abbrev longest : List ℕ → List Row → ℕ
longest other [] = length other
longest other (row ∷ rows) = max (length row.words) (longest other rows)

pub table_short : (other : List ℕ) (rows : List Row) (n : ℕ) → length (text_of other rows n) ≤ longest other rows
table_short other [] n = omega arith
table_short other (row ∷ rows) n = short_cond (max (length row.words) (longest other rows)) (eqb row.number n) row.words
    (text_of other rows n) (le-max_left _ _)
    (omega (arith, table_short other rows n, le-max_right (length row.words) (longest other rows)))

pub refusal_short : (n : ℕ) → length (refusal_text n) ≤ 30
unfolding refusal_text refusals
refusal_short n = table_short (ascii "refused") refusals n

-- the parentheses and the newline are four more
pub parentheses_short : (m : ℕ) (words : List ℕ) → length words ≤ m → length (in_parentheses words) ≤ m + 4
parentheses_short m words h = simp length-append (omega (arith, h))

end_short : (n : ℕ) → length (end_text n) ≤ 34
unfolding end_text
end_short n = short_cond 34 (eqb n 0) newline (in_parentheses (refusal_text n)) (omega arith)
    (parentheses_short 30 (refusal_text n) (refusal_short n))

receive_end_short : (active long : Bool) → length (receive_end active long) ≤ 51
unfolding receive_end
receive_end_short false long = omega arith
receive_end_short true false = omega arith
receive_end_short true true = omega arith

frame_end_short : (n : ℕ) (active : Bool) → length (frame_end n active) ≤ 28
unfolding frame_end
frame_end_short n active =
    short_cond 28 (eqb n 0) (cond active newline (in_parentheses (ascii "node not operational")))
    (in_parentheses (ascii "frame buffer not 8 bytes"))
    (short_cond 28 active newline (in_parentheses (ascii "node not operational")) (omega arith) (omega arith)) (omega arith)

expected_short : (e : Expected) → length (expected_text e) ≤ 47
expected_short Ex.Call = omega arith
expected_short Ex.Byte = omega arith
expected_short Ex.Small = omega arith
expected_short Ex.Signed = omega arith
expected_short Ex.Cause = omega arith
expected_short Ex.Data = omega arith
expected_short Ex.Slash = omega arith
expected_short Ex.Fewer = omega arith
expected_short Ex.End = omega arith
expected_short Ex.Shorter = omega arith
expected_short Ex.Answer = omega arith
expected_short Ex.Message = omega arith
expected_short Ex.Milliseconds = omega arith

-- ---- lines

pub plain_short : (n : ℕ) → length (plain_line n) ≤ 1024
unfolding plain_line
plain_short n = simp length-append (omega (arith, number_short n, end_short n))

pub sample_short : (n : ℕ) (events : List ℕ) (channels : ℕ) → length events ≤ 64 → length (sample_line n events channels) ≤ 1024
unfolding sample_line
sample_short n events channels h = simp length-append
    (omega (arith, h, number_short n, bytes_short events, places_short channels, end_short n))

pub drive_short : (n : ℕ) (lines : List ℕ) (channels : List ℤ) → length lines ≤ 64 → length channels ≤ 64 → length
    (drive_line n lines channels) ≤ 1024
unfolding drive_line
drive_short n lines channels h k = simp length-append
    (omega (arith, h, k, number_short n, bytes_short lines, numbers_short channels, end_short n))

pub receive_short : (n : ℕ) (active long : Bool) → length (receive_line n active long) ≤ 1024
unfolding receive_line
receive_short n active long = simp length-append (omega (arith, number_short n, receive_end_short active long))

pub frame_short : (n : ℕ) (frame : List ℕ) (count : ℕ) (active : Bool) → length frame ≤ 64
    → length (frame_line n frame count active) ≤ 1024
unfolding frame_line
frame_short n frame count active h = simp length-append
    (omega (arith, h, number_short n, bytes_short frame, decimal_short count, frame_end_short n active))

pub unknown_short : (line : ℕ) (e : Expected) → length (unknown_line line e) ≤ 1024
unfolding unknown_line
unknown_short line e = simp length-append (omega (arith, decimal_short line, expected_short e))

pub totals_short : (calls refused unknown : ℕ) → length (totals_text calls refused unknown) ≤ 1024
unfolding totals_text
totals_short calls refused unknown = simp length-append (omega (arith, decimal_short calls, decimal_short refused, decimal_short unknown))

pub unmet_short : (line : ℕ) (text : List ℕ) → length text ≤ 1024 → length (unmet_line line text) ≤ 2048
unfolding unmet_line
unmet_short line text h = simp length-append (omega (arith, h, decimal_short line, words_short text))

pub judged_short : (met unmet : ℕ) → length (judged_text met unmet) ≤ 1024
unfolding judged_text
judged_short met unmet =
    short_cond 1024 (eqb met 0 && eqb unmet 0) []
    (decimal_text met ++ ascii " as expected, " ++ decimal_text unmet ++ ascii " not" ++ newline)
    (omega arith) (simp length-append (omega (arith, decimal_short met, decimal_short unmet)))
