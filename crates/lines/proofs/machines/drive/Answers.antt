-- `drive` meets its contract: the driven row is stored.
-- Assumes nothing.
use Rattle.lines.proofs.OutputLaws.{driven}
use Rattle.lines.proofs.machines.drive.Goals as goal

pub returns : goal.returns
returns c = driven c.row.ensures c.store.ensures
