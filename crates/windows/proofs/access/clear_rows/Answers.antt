-- `clear_rows` meets its contract. The loop's invariant: the rows from `from` up to a are 0.
-- Assumes nothing.
use Rattle.windows.proofs.RowLaws.{clearing_none, clearing_more}
use Rattle.windows.proofs.access.clear_rows.Goals as goal

pub loop-a-init : goal.loop-a-init
loop-a-init c = clearing_none _ _ c.told-words

pub loop-a-preserved : goal.loop-a-preserved
loop-a-preserved c = clearing_more _ _ _ c.loop-a.auto.a c.loop-a.invariant c.set_row.ensures
