-- `clear_rows` meets its contract. The loop's invariant: the rows from `from` up to a are 0.
-- Assumes nothing.
use Rattle.windows.specs.Promises.{Lined, cleared}
use Rattle.windows.proofs.access.clear_rows.Given as goal

abbrev pub invariant-loop-a : goal.invariant-loop-a
invariant-loop-a l = Lined l.words (cleared l.initial.words l.from l.a)
