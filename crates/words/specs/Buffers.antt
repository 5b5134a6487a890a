-- Items put into a buffer that has room for some.
-- Assumes nothing.
use Rattle.std.specs.Prelude.{ℕ, List, ◌++◌, ◌-◌, length, take}

-- items behind those that a buffer of n holds; what has no room is left out
unfoldable pub put : {A : Type 0} → ℕ → List A → List A → List A
put n before xs = before ++ take (n - length before) xs
