-- `write_at` meets its contract: one channel's settings are stored.
-- Assumes nothing.
use Rattle.std.proofs.Common.{rules}
use Rattle.profile.specs.AnalogueInput.{write_analogue_input}
use Rattle.analogue_inputs.proofs.write_at.Goals as goal

pub returns : goal.returns
unfolding write_analogue_input
returns c = record {
  written = search rules;
  octets_kept = search rules;
  deltas_kept = search rules;
}
