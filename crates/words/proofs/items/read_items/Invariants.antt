-- `items::read_items` meets its contract: the items so far are those of the words passed.
-- Assumes nothing.
use Rattle.std.proofs.Common.{length}
use Rattle.words.proofs.ItemLaws.{Reading}
use Rattle.words.proofs.items.read_items.Given as goal

abbrev pub invariant-loop-rest : goal.invariant-loop-rest
invariant-loop-rest g l = Reading g.T.ListItem.kind g.B.Buffer.most l.line (g.B.Buffer.held l.items) l.rest

abbrev pub decreases-loop-rest : goal.decreases-loop-rest
decreases-loop-rest g l = length l.rest
