-- Numbers as digits spell them.
-- Assumes nothing.
use Rattle.std.specs.Prelude.{Bool, true, false, cond, ◌&&◌, List, [], ◌∷◌, ℕ, ◌+◌, ◌*◌, ◌-◌, eqb, ltb, length, drop, get_or}
use Rattle.std.specs.Prelude.{Option, Some, None, ℤ}
use Rattle.std.specs.Int.{w16}
use Rattle.std.proofs.Common.{of_z}

-- the value of a digit, `0` to `9`, `A` to `F` or `a` to `f`; 16 for any other byte
unfoldable pub digit_of : ℕ → ℕ
digit_of b =
    cond (ltb b 48) 16 (cond (ltb b 58) (b - 48)
    (cond (ltb b 65) 16 (cond (ltb b 71) (b - 55)
    (cond (ltb b 97) 16 (cond (ltb b 103) (b - 87) 16)))))

-- every byte is a digit of the base
abbrev pub all_digits : ℕ → List ℕ → Bool
all_digits base [] = true
all_digits base (x ∷ xs) = ltb (digit_of x) base && all_digits base xs

-- what the digits make of the number before them
abbrev pub spelled_on : ℕ → ℕ → List ℕ → ℕ
spelled_on base n [] = n
spelled_on base n (x ∷ xs) = spelled_on base (n * base + digit_of x) xs

-- the number that digits spell, the most significant first
abbrev pub spelled : ℕ → List ℕ → ℕ
spelled base word = spelled_on base 0 word

-- stands for a word that spells no number, and for every number of more than 32 bits
abbrev pub no_number : ℕ
no_number = 4294967296

abbrev pub capped : ℕ → ℕ
capped n = cond (ltb n no_number) n no_number

abbrev pub is_number : ℕ → List ℕ → Bool
is_number base [] = false
is_number base (x ∷ xs) = all_digits base (x ∷ xs)

-- the number that a word spells; `no_number` where it spells none, or one of more than 32 bits
unfoldable pub number_of : ℕ → List ℕ → ℕ
number_of base word = cond (is_number base word) (capped (spelled base word)) no_number

-- the same of at most `most` digits
unfoldable pub short_number : ℕ → List ℕ → ℕ
short_number most word = cond (ltb most (length word)) no_number (number_of 16 word)

-- 16 bits in two's complement of 0 - n; 65,536 for an n above 32,768
abbrev pub minus : ℕ → ℕ
minus n = cond (ltb 32768 n) 65536 (cond (eqb n 0) 0 (65536 - n))

-- 65,536 for an n above 32,767
abbrev pub plus : ℕ → ℕ
plus n = cond (ltb 32767 n) 65536 n

-- a decimal number from -32768 to 32767 as 16 bits in two's complement; 65,536 for any other word
unfoldable pub signed_of : List ℕ → ℕ
signed_of word = cond (eqb (get_or word 0 0) 45) (minus (number_of 10 (drop 1 word))) (plus (number_of 10 word))

-- 16 bits in two's complement of a signed number; 65,536 for none
abbrev pub bits_of : Option ℤ → ℕ
bits_of (Some z) = of_z w16 z
bits_of None = 65536
