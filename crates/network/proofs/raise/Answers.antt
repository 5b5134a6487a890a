-- raise: every machine hears the cause, and the outputs move where fault begins.
-- Assumes nothing.
use Rattle.store.proofs.CallLaws.{raised}
use Rattle.network.proofs.raise.Goals as goal

pub returns-clause-call : goal.returns-clause-call
returns-clause-call c = raised _ _ _ (rw (c.raised-new.ensures, c.node.ensures) at c.enter.ensures)
