-- Document 01, "Analogue channels": the output machine, "the digital output's, with numbers for bits and no polarity or mask".
-- Assumes nothing.
use Rattle.std.specs.Prelude.{Bool, true, false, cond, ℕ, eqb, pos}
use Rattle.std.specs.Int.{w16, w32}
use Rattle.std.proofs.Common.{to_z, of_z}
use Rattle.profile.specs.declared.AnalogueOutput.{AnalogueOutput}
use Rattle.profile.specs.Bits.{bit}
use Rattle.profile.specs.Nodes.{fault}
use Rattle.profile.specs.Entries.{at_output_channel}
use Rattle.profile.specs.Refusals.{nothing_held}
use Rattle.profile.specs.Rules.{Rules, put}
use Rattle.profile.specs.Outputs.{following, fault_moves}

-- "6443 error mode (default 1), 6444 error value (default 0)"
abbrev pub fresh_analogue_output : AnalogueOutput
fresh_analogue_output = record { mode = true; error = pos 0; kept = pos 0; driven = pos 0 }

-- bytes: 6411 2, 6443 1, 6444 4
abbrev pub output_size : ℕ → ℕ
output_size index = cond (eqb index 0x6411) 2 (cond (eqb index 0x6443) 1 4)

unfoldable pub write_analogue_output : Bool → ℕ → ℕ → AnalogueOutput → AnalogueOutput
write_analogue_output fault index v m =
    record {
      mode = put index 0x6443 (eqb v 1) m.mode;
      error = put index 0x6444 (to_z w32 v) m.error;
      kept = put index 0x6411 (to_z w16 v) m.kept;
      driven = put index 0x6411 (following fault (to_z w16 v) m.driven) m.driven;
    }

unfoldable pub move_analogue_output : Bool → Bool → AnalogueOutput → AnalogueOutput
move_analogue_output before after m =
    record {
      mode = m.mode;
      error = m.error;
      kept = m.kept;
      driven = fault_moves before after m.mode m.error m.kept m.driven;
    }

unfoldable pub read_analogue_output : ℕ → AnalogueOutput → ℕ
read_analogue_output index m =
    cond (eqb index 0x6411) (of_z w16 m.kept) (cond (eqb index 0x6443) (bit m.mode) (of_z w32 m.error))

abbrev pub analogue_outputs : Rules
analogue_outputs =
    record {
      Own = AnalogueOutput;
      count = 8;
      fresh = fresh_analogue_output;
      names = λ e i. at_output_channel false (λ index n. eqb i n) e;
      written = λ e v i n o. at_output_channel o (λ index m. write_analogue_output (fault n) index v o) e;
      joins = λ c i. false;
      joined = λ c i n o. o;
      cleared = λ o. o;
      emptied = λ o. o;
      moved = move_analogue_output;
      holds = λ o. nothing_held;
    }
