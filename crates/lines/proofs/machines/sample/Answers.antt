-- `sample` meets its contract, by one law over its calls.
-- Assumes nothing.
use Rattle.lines.proofs.InputLaws.{samples}
use Rattle.lines.proofs.machines.sample.Goals as goal

pub returns : goal.returns
returns c =
    let sampled = samples c.args.words.now c.args.samples c.args.new c.ranges.samples.fits in
    sampled c.settle.ensures c.row-after.ensures c.row-before.ensures c.bitxor-changed.ensures c.row-polarity.ensures
    c.bitxor-reads.ensures c.row-rises.ensures c.row-falls.ensures c.pick-direction.ensures c.row-any.ensures
    c.bitor.ensures c.bitand.ensures
