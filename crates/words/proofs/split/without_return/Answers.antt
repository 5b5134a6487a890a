-- `split::without_return` meets its contract.
-- Assumes nothing.
use Rattle.std.proofs.Common.{◌≡◌, ℕ, ◌-◌, eqb, List, [], ◌∷◌, length, drop, refl, drop-cons, arith}
use Rattle.std.proofs.lemmas.Grind.{common_steps}
use lib.Pointwise.{pointwise}
use Rattle.words.specs.Words.{last_byte, without_return}
use Rattle.words.proofs.split.without_return.Goals as goal

-- the test of the line's end
end_test : (line : List ℕ) → pointwise eqb (drop (length line - 1) line) (13 ∷ []) ≡ eqb (last_byte line) 13
end_test [] = refl
end_test (x ∷ xs) = grind (arith, common_steps, drop-cons)

pub returns : goal.returns
unfolding without_return
returns c = let t = end_test c.args.line.now in grind (arith, common_steps)
