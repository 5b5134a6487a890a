-- `Session::play_bytes` meets its contract, a byte after the other.
-- Assumes nothing.
use Rattle.std.proofs.Common.{take}
use Rattle.play.specs.Sessions.{Fed}
use Rattle.play.proofs.session.Session.play_bytes.Given as goal

abbrev pub invariant-loop-byte : goal.invariant-loop-byte
invariant-loop-byte g l =
    Fed (g.W.Write.contents l.initial.writer) l.initial.self (take l.byte-index l.block) (g.W.Write.contents l.writer) l.self
