-- `set_row` meets its contract: two words are stored.
-- Assumes nothing.
use Rattle.windows.proofs.RowLaws.{row_write}
use Rattle.windows.proofs.access.set_row.Goals as goal

pub returns : goal.returns
returns c = row_write _ _ _ c.told-words c.requires
