-- Expected answers: the lines of a list that begin with `>`.
-- Assumes nothing.
use Rattle.std.specs.Prelude.{Bool, true, false, ◌&&◌, List, [], ◌∷◌, ℕ, eqb, take, drop, get_or}
use Rattle.words.specs.Words.{run, first_word, words_of, is_word, content_of}

-- "A line that begins with `>`": its first byte that is no space
unfoldable pub is_expectation : List ℕ → Bool
is_expectation line = eqb (get_or (first_word (content_of line)) 0 0) 62

-- "up to its words in parentheses"
unfoldable pub before_parenthesis : List ℕ → List ℕ
before_parenthesis text = take (run false 40 text) text

-- what stands after the `>`
unfoldable pub expected_of : List ℕ → List ℕ
expected_of line = before_parenthesis (drop 1 (drop (run false 62 (content_of line)) (content_of line)))

-- "Words are compared, so that more than one space between them is alike"
abbrev pub same_words : List (List ℕ) → List (List ℕ) → Bool
same_words [] [] = true
same_words [] (v ∷ vs) = false
same_words (w ∷ ws) [] = false
same_words (w ∷ ws) (v ∷ vs) = is_word w v && same_words ws vs

-- "what the last answer line has to be": the words of an answer line against those of an expected text
unfoldable pub is_as_expected : List ℕ → List ℕ → Bool
is_as_expected answer text = same_words (words_of (before_parenthesis answer)) (words_of text)
