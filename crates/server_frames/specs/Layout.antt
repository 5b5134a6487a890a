-- The two halves of a reply in a lent buffer: four bytes that say what it answers, and four data bytes.
-- Assumes nothing.
use Rattle.std.specs.Prelude.{List, ℕ, ◌/◌, ◌%◌, get_or, set}

-- the first byte, and the second to fourth of the request f
abbrev pub headed : ℕ → List ℕ → List ℕ → List ℕ
headed first f l = set (set (set (set l 0 first) 1 (get_or f 1 0)) 2 (get_or f 2 0)) 3 (get_or f 3 0)

-- the four bytes of h, the least significant first
abbrev pub filled : ℕ → List ℕ → List ℕ
filled h l = set (set (set (set l 4 (h % 256)) 5 (h / 256 % 256)) 6 (h / 65536 % 256)) 7 (h / 16777216)
