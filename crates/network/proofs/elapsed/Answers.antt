-- elapsed: the watch hears the time, and where an entry is due every machine hears a raise.
-- Assumes nothing.
use mathlib.Core.Path.{◌∙◌, sym}
use Rattle.store.proofs.CallLaws.{not_due, due}
use Rattle.network.proofs.elapsed.Goals as goal

pub returns-then-pass : goal.returns-then-pass
returns-then-pass c =
    due c.args.store.now c.pass.new.deltas c.args.milliseconds c.pass.ensures.left (sym c.pass.ensures.due ∙ c.if-pass.true)
    c.raise.ensures.call

pub returns-else-pass : goal.returns-else-pass
returns-else-pass c =
    not_due c.args.store.now c.pass.new.deltas c.args.milliseconds c.pass.ensures.left (sym c.pass.ensures.due ∙ c.if-pass.false)
