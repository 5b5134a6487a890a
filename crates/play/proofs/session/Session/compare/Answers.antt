-- `Session::compare` meets its contract.
-- Assumes nothing.
use Rattle.std.proofs.Common.{refl, rules}
use Rattle.play.proofs.LineLaws.{compared_first, compared_unmet}
use Rattle.play.proofs.session.Session.compare.Goals as goal

pub returns : goal.returns
returns c =
    compared_unmet c.args.self.now c.args.text.now (search rules) _ _ (search rules) refl c.put_unmet.ensures c.requires.1 c.requires.0

pub returns-then-is_empty : goal.returns-then-is_empty
returns-then-is_empty c =
    compared_first c.args.self.now c.args.text.now c.reject.new.self (search rules) c.reject.ensures c.requires.0
