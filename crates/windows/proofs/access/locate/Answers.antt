-- `locate` meets its contract: its shifts find what division finds.
-- Assumes nothing.
use Rattle.windows.proofs.PlaceLaws.{placed}
use Rattle.windows.proofs.access.locate.Goals as goal

pub returns : goal.returns
returns c = placed c.requires
