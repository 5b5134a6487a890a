-- The entries that are left fall.
-- Assumes nothing.
use Rattle.std.proofs.Common.{length}
use Rattle.messages.proofs.transmitted.+put_each.Given as goal

abbrev pub decreases-put_each : goal.decreases-put_each
decreases-put_each l = length l.entries.now
