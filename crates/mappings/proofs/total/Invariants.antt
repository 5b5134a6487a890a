-- `total` meets its contract. The loop's invariant: the sum is of the entries before the present one.
-- Assumes nothing.
use Rattle.mappings.proofs.ViewLaws.{Summed}
use Rattle.mappings.proofs.total.Given as goal

abbrev pub invariant-loop-entry : goal.invariant-loop-entry
invariant-loop-entry l = Summed l.mapping l.entries l.entry-index l.sum
