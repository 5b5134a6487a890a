-- `Session::play_bytes` meets its contract, a byte after the other.
-- Assumes nothing.
use Rattle.play.proofs.FedLaws.{fed_more}
use Rattle.play.proofs.session.Session.play_bytes.Goals as goal

pub loop-byte-preserved : goal.loop-byte-preserved
loop-byte-preserved g c =
    fed_more _ _ _ c.args.self.now c.loop-byte.self c.take.new.self c.args.block.now c.loop-byte.byte-index 0 c.loop-byte-test.true
    c.loop-byte.invariant c.in_ok-take.ensures
