-- The entries that are left fall.
-- Assumes nothing.
use Rattle.std.proofs.Common.{length}
use Rattle.messages.proofs.received.+write_each.Given as goal

abbrev pub decreases-write_each : goal.decreases-write_each
decreases-write_each l = length l.entries.now
