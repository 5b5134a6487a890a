-- `write` meets its contract.
-- Assumes nothing.
use Rattle.std.proofs.Common.{rules}
use Rattle.watches.proofs.ViewLaws.{watch_written}
use Rattle.watches.proofs.write.Goals as goal

pub returns : goal.returns
returns c = search (rules, watch_written)
