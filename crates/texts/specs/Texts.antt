-- Numbers, bytes and words as text.
-- Assumes nothing.
use Rattle.std.specs.Prelude.{Bool, false, cond, ◌||◌, List, [], ◌∷◌, ◌++◌, ℕ, zero, suc, ◌+◌, ◌-◌, ◌/◌, ◌%◌, ltb, eqb, ℤ}
use Rattle.std.specs.Int.{w16}
use Rattle.std.proofs.Common.{of_z}
use Rattle.words.specs.Ascii.{ascii}

-- a digit below 16, in upper case
abbrev pub glyph_of : ℕ → ℕ
glyph_of d = cond (ltb d 10) (48 + d) (55 + d)

-- the last k digits of n in a base, the most significant first
abbrev pub digits_of : ℕ → ℕ → ℕ → List ℕ
digits_of base zero n = []
digits_of base (suc k) n = digits_of base k (n / base) ++ (glyph_of (n % base) ∷ [])

-- two hexadecimal digits for a byte
unfoldable pub hex_text : ℕ → List ℕ
hex_text b = digits_of 16 2 b

-- eight hexadecimal digits for 32 bits
unfoldable pub long_hex_text : ℕ → List ℕ
long_hex_text n = hex_text (n / 16777216) ++ hex_text (n / 65536 % 256) ++ hex_text (n / 256 % 256) ++ hex_text (n % 256)

-- how many decimal digits n has, of at most k + 1
abbrev pub places_of : ℕ → ℕ → ℕ
places_of zero n = 1
places_of (suc k) n = cond (ltb n 10) 1 (suc (places_of k (n / 10)))

-- a number of 64 bits in decimal digits, with no zero in front
unfoldable pub decimal_text : ℕ → List ℕ
decimal_text n = digits_of 10 (places_of 19 n) n

-- a number in two's complement, with `-` where it is below 0; `half` is the first that stands for one below 0
abbrev pub complement_text : ℕ → ℕ → List ℕ
complement_text half n = cond (ltb n half) (decimal_text n) (45 ∷ decimal_text (half + half - n))

-- the same of 16 bits
unfoldable pub bits_text : ℕ → List ℕ
bits_text n = complement_text 32768 n

-- the text of each element, one after the other
abbrev pub each_text : {A : Type 0} → (A → List ℕ) → List A → List ℕ
each_text f [] = []
each_text f (x ∷ xs) = f x ++ each_text f xs

-- a space and two digits for each byte
abbrev pub bytes_text : List ℕ → List ℕ
bytes_text bs = each_text (λ (b : ℕ). 32 ∷ hex_text b) bs

-- a space and the number for each
abbrev pub numbers_text : List ℤ → List ℕ
numbers_text zs = each_text (λ (z : ℤ). 32 ∷ bits_text (of_z w16 z)) zs

-- a space and the word for each
abbrev pub words_text : List (List ℕ) → List ℕ
words_text ws = each_text (λ (w : List ℕ). 32 ∷ w) ws

-- a space and n where the lowest bit is 1
unfoldable pub place_text : ℕ → ℕ → List ℕ
place_text n bits = cond (eqb (bits % 2) 1) (32 ∷ decimal_text n) []

-- the places of the bits that are 1, of k bits from the place n on
abbrev pub places_from : ℕ → ℕ → ℕ → List ℕ
places_from zero n bits = []
places_from (suc k) n bits = place_text n bits ++ places_from k (n + 1) (bits / 2)

-- the places of the bits that are 1, of 16 bits, the lowest at place 1
unfoldable pub places_text : ℕ → List ℕ
places_text bits = places_from 16 1 bits

-- a run that begins at place n: `5`, behind `, ` where another run stands before it
abbrev pub run_begun : ℕ → Bool → List ℕ
run_begun n some = cond some (ascii ", ") [] ++ decimal_text n

-- a run of several places that reaches place n: ` to 8` where it ends there
abbrev pub run_reached : ℕ → Bool → List ℕ
run_reached n goes_on = cond goes_on [] (ascii " to " ++ decimal_text n)

-- the lowest bit, at place n, in a text of runs: whether some run and whether a 1 stands before it
unfoldable pub run_text : ℕ → Bool → Bool → ℕ → List ℕ
run_text n some before bits =
    cond (eqb (bits % 2) 1) (cond before (run_reached n (eqb (bits / 2 % 2) 1)) (run_begun n some)) []

-- the runs of the bits that are 1, of k bits from the place n on, where some run stands before them, and the bit before them is 1
abbrev pub runs_from : ℕ → ℕ → Bool → Bool → ℕ → List ℕ
runs_from zero n some before bits = []
runs_from (suc k) n some before bits =
    run_text n some before bits ++ runs_from k (n + 1) (some || eqb (bits % 2) 1) (eqb (bits % 2) 1) (bits / 2)

-- the places of the bits that are 1 by runs, of 32 bits, the lowest at place n: `2, 5 to 8, 12`
unfoldable pub runs_text : ℕ → ℕ → List ℕ
runs_text n bits = runs_from 32 n false false bits
