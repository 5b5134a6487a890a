-- `settle` meets its contract, by one law over its calls.
-- Assumes nothing.
use mathlib.Core.Path.{sym, ◌∙◌}
use Rattle.lines.proofs.CountLaws.{cleared_counts}
use Rattle.lines.proofs.InputLaws.{counts_none, counts_some, takes_all, settles}
use Rattle.lines.proofs.machines.settle.Goals as goal

pub returns-then-is_empty : goal.returns-then-is_empty
returns-then-is_empty c =
    let args = c.args in
    let no-count = counts_none c.row.ensures c.bitxor-differs.ensures c.row-2.ensures c.bitand-waits.ensures args.samples
    (sym c.is_empty.ensures ∙ c.if-is_empty.true)
    in
    settles no-count (takes_all args.new) c.set_row.ensures (cleared_counts _ c.clear_counts.ensures)

pub returns : goal.returns
returns c =
    let some = counts_some c.row.ensures c.bitxor-differs.ensures c.row-2.ensures c.bitand-waits.ensures
    c.reached.ensures c.bitand-settles.ensures c.bitxor-counts.ensures
    in
    settles some c.bitxor.ensures c.set_row-2.ensures c.count_on.ensures
