-- `play` meets its contract: the blocks so far were read and fed to a session that had started, and nothing waits.
-- Assumes nothing.
use Rattle.play.proofs.PlayedLaws.{Reached}
use Rattle.play.proofs.playing.play.Given as goal

abbrev pub invariant-loop-turn : goal.invariant-loop-turn
invariant-loop-turn g l =
    Reached (g.R.Read.remaining l.initial.reader) (g.W.Write.contents l.initial.writer) (g.R.Read.remaining l.reader)
    (g.W.Write.contents l.writer) l.session l.turn
