-- `after_write` meets its contract: a write, by where the entry lives.
-- Assumes nothing.
use Rattle.store.proofs.StepLaws.{setting_stepped}
use Rattle.objects.proofs.after_write.Goals as goal

pub returns-in-Device : goal.returns-in-Device
returns-in-Device c =
    rw c.in-Device.is
    (setting_stepped c.args.store.now c.written.result c.in-Device.index c.args.value _ c.set_node.ensures.stored
    c.set_node.ensures.sized (rw c.node-was.ensures at c.written.ensures))
