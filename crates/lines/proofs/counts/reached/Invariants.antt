-- `reached` meets its contract.
-- Assumes nothing.
use Rattle.lines.proofs.CountLaws.{Comparing}
use Rattle.lines.proofs.counts.reached.Given as goal

abbrev pub invariant-loop-b : goal.invariant-loop-b
invariant-loop-b l = Comparing l.words l.least l.reaches l.b
