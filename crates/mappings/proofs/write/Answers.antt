-- `write` meets its contract.
-- Assumes nothing.
use Rattle.std.proofs.Common.{rules}
use Rattle.mappings.proofs.ViewLaws.{mapping_stored}
use Rattle.mappings.proofs.write.Goals as goal

pub returns : goal.returns
returns c =
    let a = c.args in
    mapping_stored a.deltas.now a.m a.sub a.value (search rules) c.requires.0 c.requires.1
