-- `fresh` meets its contract: every row is cleared, and three are set.
-- Assumes nothing.
use Rattle.lines.proofs.AccessLaws.{fresh}
use Rattle.lines.proofs.machines.fresh.Goals as goal

pub returns : goal.returns
returns c =
    fresh c.args.words.now c.clear_rows.ensures c.set_row.ensures
    c.set_row-2.ensures c.set_row-3.ensures c.clear_counts.ensures
