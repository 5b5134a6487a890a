-- heartbeat: the watch alone hears it.
-- Assumes nothing.
use Rattle.store.proofs.CallLaws.{heard_heartbeat}
use Rattle.network.proofs.heartbeat.Goals as goal

pub returns : goal.returns
returns c = heard_heartbeat _ _ c.heartbeat.ensures
