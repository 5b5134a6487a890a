-- `text::put_runs` meets its contract, a bit after the other.
-- Assumes nothing.
use Rattle.texts.proofs.TextLaws.{Runs}
use Rattle.texts.proofs.text.put_runs.Given as goal

abbrev pub invariant-loop-place : goal.invariant-loop-place
invariant-loop-place g l =
    let held = g.B.Buffer.held in
    Runs g.B.Buffer.most l.n l.bits (held l.initial.out) l.place l.rest l.some l.before (held l.out)
