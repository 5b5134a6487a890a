-- The words of a line: runs of bytes between spaces.
-- Assumes nothing.
use Rattle.std.specs.Prelude.{◌≡◌, Bool, true, false, cond, ◌&&◌, List, [], ◌∷◌, ℕ, suc, ◌+◌, ◌-◌, ◌≤◌, eqb, length, take, drop, get_or}

-- how many elements in front are b, or, with `same` false, are not
abbrev pub run : Bool → ℕ → List ℕ → ℕ
run same b [] = 0
run true b (x ∷ xs) = cond (eqb x b) (suc (run true b xs)) 0
run false b (x ∷ xs) = cond (eqb x b) 0 (suc (run false b xs))

-- spaces in front
abbrev pub spaces : List ℕ → ℕ
spaces line = run true 32 line

-- where the first word ends
unfoldable pub word_end : List ℕ → ℕ
word_end line = spaces line + run false 32 (drop (spaces line) line)

-- the bytes between the spaces in front and the next space; none where only spaces are left
unfoldable pub first_word : List ℕ → List ℕ
first_word line = take (run false 32 (drop (spaces line) line)) (drop (spaces line) line)

unfoldable pub after_word : List ℕ → List ℕ
after_word line = drop (word_end line) line

-- a byte in front of the first piece
abbrev pub with_byte : ℕ → List (List ℕ) → List (List ℕ)
with_byte x [] = (x ∷ []) ∷ []
with_byte x (p ∷ ps) = (x ∷ p) ∷ ps

-- the pieces of a line between its spaces, empty ones too
abbrev pub pieces_of : List ℕ → List (List ℕ)
pieces_of [] = [] ∷ []
pieces_of (x ∷ xs) = cond (eqb x 32) ([] ∷ pieces_of xs) (with_byte x (pieces_of xs))

abbrev pub without_empty : List (List ℕ) → List (List ℕ)
without_empty [] = []
without_empty ([] ∷ ps) = without_empty ps
without_empty ((x ∷ p) ∷ ps) = (x ∷ p) ∷ without_empty ps

-- words are "separated by one or more spaces"
unfoldable pub words_of : List ℕ → List (List ℕ)
words_of line = without_empty (pieces_of line)

-- the first of some words; empty where there is none
abbrev pub first_of : List (List ℕ) → List ℕ
first_of [] = []
first_of (w ∷ ws) = w

-- the words after the first
abbrev pub others_of : List (List ℕ) → List (List ℕ)
others_of [] = []
others_of (w ∷ ws) = ws

-- two words are the same
abbrev pub is_word : List ℕ → List ℕ → Bool
is_word [] [] = true
is_word [] (y ∷ ys) = false
is_word (x ∷ xs) [] = false
is_word (x ∷ xs) (y ∷ ys) = eqb x y && is_word xs ys

-- only spaces are left
abbrev pub is_blank : List ℕ → Bool
is_blank line = eqb (length (first_word line)) 0

abbrev pub last_byte : List ℕ → ℕ
last_byte line = get_or line (length line - 1) 0

-- a carriage return at the end is passed over
unfoldable pub without_return : List ℕ → List ℕ
without_return line = cond (eqb (last_byte line) 13) (take (length line - 1) line) line

-- a line without its comment, from a `#` on, and without a carriage return at its end
unfoldable pub content_of : List ℕ → List ℕ
content_of line = take (run false 35 (without_return line)) (without_return line)

-- n is where the first word ends; it lies within the line, and past a word that is not empty
pub record WordEnd (line : List ℕ) (n : ℕ) : Type 0 where
  pub is : n ≡ word_end line
  pub within : n ≤ length line
  pub past : length (first_word line) ≤ n

-- a count of elements in front of a list
pub record InFront (same : Bool) (b : ℕ) (line : List ℕ) (n : ℕ) : Type 0 where
  pub is : n ≡ run same b line
  pub within : n ≤ length line
