-- `text::put_places` meets its contract, a bit after the other.
-- Assumes nothing.
use Rattle.texts.proofs.TextLaws.{Placing}
use Rattle.texts.proofs.text.put_places.Given as goal

abbrev pub invariant-loop-n : goal.invariant-loop-n
invariant-loop-n g l = Placing g.B.Buffer.most l.bits (g.B.Buffer.held l.initial.out) l.n l.rest (g.B.Buffer.held l.out)
