-- `entries::window` meets its contract: what its shifts find of a window is what division finds.
-- Assumes nothing.
use mathlib.Core.Path.{ap, ◌∙◌}
use Prim.Native.Nat.{◌≤◌}
use native.Mathlib.Omega.{arith}
use Rattle.profile.specs.Entries.{at}
use Rattle.dictionary.proofs.WidthLaws.{windowed}
use Rattle.dictionary.proofs.entries.window.Goals as goal

pub returns : goal.returns
returns c =
    let h : c.args.sub ≤ 255 = omega (arith, c.ranges.sub.fits) in
    c.at.ensures ∙ rw c.from.ensures
    (ap (at c.args.sub) (windowed c.args.row c.args.column c.args.sub _ c.requires h c.of_column-exponent.ensures))
