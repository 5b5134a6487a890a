-- `Session::play_short` meets its contract.
-- Assumes nothing.
use Rattle.play.proofs.LineLaws.{long_line}
use Rattle.play.proofs.session.Session.play_short.Goals as goal

pub returns-then-text-gt1024 : goal.returns-then-text-gt1024
returns-then-text-gt1024 c = long_line _ c.args.text.now _ c.if-text-gt1024.true c.reject.ensures c.requires
