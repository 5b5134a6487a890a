-- `remarks::put_some_masked` meets its contract.
-- Assumes nothing.
use Rattle.words.proofs.BufferLaws.{put_then}
use Rattle.answers.specs.Remarks.{some_masked}
use Rattle.answers.proofs.remarks.put_some_masked.Goals as goal

pub returns : goal.returns
unfolding some_masked
returns g c =
    rw (c.put_all-2.ensures, c.others_later.ensures, c.put_runs.ensures, c.masked.ensures, c.put_all.ensures)
    (rw (put_then _ _ _ _) (put_then _ _ _ _))
