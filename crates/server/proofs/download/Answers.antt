-- `download` meets its contract: a refused write is replied to by its number.
-- Assumes nothing.
use native.Mathlib.Omega.{arith}
use Rattle.std.proofs.lemmas.Grind.{common_steps}
use Rattle.server.proofs.Laws.{download_refused}
use Rattle.server.proofs.download.Goals as goal

pub returns-in-Err : goal.returns-in-Err
returns-in-Err c =
    download_refused c.in-Err.refusal c.index_in.ensures c.sub_in.ensures c.size_in.ensures.0 (grind (arith, common_steps))
    (rw c.in-Err.is at c.write.ensures) (rw c.number.ensures at c.put_abort.ensures)
