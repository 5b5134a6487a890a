-- clear: every machine hears the cause, and the outputs move where fault ends.
-- Assumes nothing.
use Rattle.store.proofs.CallLaws.{cleared}
use Rattle.network.proofs.clear.Goals as goal

pub returns-clause-call : goal.returns-clause-call
returns-clause-call c = cleared _ _ _ (rw (c.cleared-new.ensures, c.node.ensures) at c.enter.ensures)
