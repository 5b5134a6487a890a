-- `pass` meets its contract. The loop's invariant: the milliseconds have passed at the entries before n.
-- Assumes nothing.
use Rattle.watches.proofs.SweepLaws.{Passed}
use Rattle.watches.proofs.pass.Given as goal

abbrev pub invariant-loop-n : goal.invariant-loop-n
invariant-loop-n l = Passed l.milliseconds l.initial.deltas l.deltas l.due l.n
