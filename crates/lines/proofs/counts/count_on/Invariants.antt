-- `count_on` meets its contract.
-- Assumes nothing.
use Rattle.windows.specs.Promises.{Lined}
use Rattle.lines.proofs.CountLaws.{counting, Carried}
use Rattle.lines.proofs.counts.count_on.Given as goal

abbrev pub invariant-loop-b : goal.invariant-loop-b
invariant-loop-b l = Lined l.words (counting l.initial.words l.counts l.b) × Carried l.initial.words l.counts l.carry l.b
