-- `Session::play_said` meets its contract.
-- Assumes nothing.
use Rattle.std.proofs.Common.{rules}
use Rattle.play.proofs.PlayLaws.{not_played}
use Rattle.play.proofs.session.Session.play_said.Goals as goal

pub returns-in-Ok-Nothing : goal.returns-in-Ok-Nothing
returns-in-Ok-Nothing c = let p = not_played c.args.self.now in search rules
