-- `Session::create` meets its contract.
-- Assumes nothing.
use Rattle.play.proofs.PlayLaws.{created}
use Rattle.play.proofs.session.Session.create.Goals as goal

pub returns : goal.returns
returns c = created _ _ _ _ _ _ c.create-made.ensures c.count.ensures c.put_plain.ensures
