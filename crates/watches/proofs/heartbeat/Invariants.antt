-- `heartbeat` meets its contract. The loop's invariant: the entries before i have heard it.
-- Assumes nothing.
use Rattle.profile.specs.Watch.{take_heartbeat}
use Rattle.watches.proofs.SweepLaws.{Swept}
use Rattle.watches.proofs.heartbeat.Given as goal

abbrev pub invariant-loop-i : goal.invariant-loop-i
invariant-loop-i l = Swept (take_heartbeat l.node) l.initial.deltas l.deltas l.i
