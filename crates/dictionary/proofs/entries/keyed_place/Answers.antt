-- `entries::keyed_place` meets its contract: the hint points at the only place where the index can stand.
-- Assumes nothing.
use mathlib.Core.Path.{refl}
use Rattle.dictionary.proofs.TableLaws.{hint_shifted, row_below, below, pointed, missed}
use Rattle.dictionary.proofs.entries.keyed_place.Goals as goal

pub bounds-place : goal.bounds-place
bounds-place c = row_below c.args.index _ (hint_shifted _ _ _ _ c.from-number.ensures c.places-word.ensures refl)

pub returns-then-index-place : goal.returns-then-index-place
returns-then-index-place c =
    let is = hint_shifted c.args.index _ _ _ c.from-number.ensures c.places-word.ensures refl in
    (below c.args.index _ is, pointed c.args.index _ is c.if-index-place.true)

pub returns-else-index-place : goal.returns-else-index-place
returns-else-index-place c =
    missed c.args.index _ (hint_shifted _ _ _ _ c.from-number.ensures c.places-word.ensures refl) c.if-index-place.false
