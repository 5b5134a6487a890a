-- `numbers::number` meets its contract: what the rest of the word makes of the number so far is the word's number.
-- Assumes nothing.
use Rattle.words.specs.Numbers.{no_number}
use Rattle.words.proofs.NumberLaws.{onward}
use lib.ListN.{drop}
use mathlib.Core.Path.{◌≡◌}
use Prim.Native.Nat.{◌<◌}
use Rattle.words.proofs.numbers.number.Given as goal

abbrev pub invariant-loop-byte : goal.invariant-loop-byte
invariant-loop-byte l = (l.value < no_number) × (onward l.base l.value (drop l.byte-index l.word) ≡ onward l.base 0 l.word)
