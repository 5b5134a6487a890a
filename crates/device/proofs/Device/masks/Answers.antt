-- `Device::masks` meets its contract: a window that was found lies among the lines, and so does that of another row.
-- Assumes nothing.
use mathlib.Core.Path.{sym, ap, subst, ◌∙◌}
use native.Mathlib.Omega.{arith}
use Rattle.profile.specs.Entries.{Entry}
use Rattle.profile.specs.declared.Home.TheVariants.{Window}
use Rattle.store.specs.Promises.{Readable}
use Rattle.store.proofs.EntryLaws.{entry_readable}
use Rattle.device.proofs.Device.masks.Goals as goal

pub value_at-requires : goal.value_at-requires
value_at-requires c =
    let is = sym (ap (λ (x : Entry). x.home) c.in-Ok.ensures) ∙ c.in-Window.is in
    let found : Readable (Window c.in-Window.field-0 c.in-Window.width c.in-Window.place) =
    subst Readable is (entry_readable c.args.index c.args.sub) in
    (record { row = omega arith; width = found.0.width; first = found.0.first; last = found.0.last }, omega arith)
