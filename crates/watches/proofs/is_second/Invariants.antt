-- `is_second` meets its contract. The loop's invariant: whether one of the entries before j, other than n, names the node.
-- Assumes nothing.
use Rattle.watches.proofs.SecondLaws.{Named}
use Rattle.watches.proofs.is_second.Given as goal

abbrev pub invariant-loop-j : goal.invariant-loop-j
invariant-loop-j l = Named l.deltas l.n l.node l.named l.j
