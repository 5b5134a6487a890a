-- `read_sources` meets its contract: a number of 16 bits is gathered from its bits.
-- Assumes nothing.
use mathlib.Core.Path.{sym, ◌∙◌}
use Rattle.profile.proofs.BitLaws.{gather_bits}
use Rattle.channels.specs.View.{sources_of}
use Rattle.analogue_inputs.proofs.read_sources.Goals as goal

pub returns : goal.returns
returns c =
    let read = c.sources_at.ensures in
    read.0 ∙ sym (gather_bits 16 (sources_of c.args.octets.now) (rw read.0 at read.1))
