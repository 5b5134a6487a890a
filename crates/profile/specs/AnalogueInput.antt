-- Document 01, "Analogue channels": the input machine. y is `last`, r is `reference`.
-- Assumes nothing.
use Rattle.std.specs.Prelude.{Bool, true, false, not, cond, ◌||◌, ◌&&◌, ℕ, eqb, ltb, get_or, ℤ, pos, negsuc, ◌-ℤ◌, nat_abs}
use Rattle.std.specs.Int.Signed.{lt_z}
use Rattle.std.specs.Int.{w16, w32}
use Rattle.std.proofs.Common.{to_z, of_z}
use Rattle.profile.specs.declared.Node.{Node}
use Rattle.profile.specs.declared.AnalogueInput.{AnalogueInput}
use Rattle.profile.specs.Bits.{bit_at}
use Rattle.profile.specs.Nodes.{operational}
use Rattle.profile.specs.Entries.{at_input_channel}
use Rattle.profile.specs.Calls.{on_sample}
use Rattle.profile.specs.Refusals.{nothing_held}
use Rattle.profile.specs.Rules.{Rules, put}

abbrev pub eq_z : ℤ → ℤ → Bool
eq_z (pos a) (pos b) = eqb a b
eq_z (pos a) (negsuc b) = false
eq_z (negsuc a) (pos b) = false
eq_z (negsuc a) (negsuc b) = eqb a b

-- "6421 selection (default 07) .. all but 6421 default 0"; "Last value y, reference r and source bit, all 0 when fresh."
abbrev pub fresh_analogue_input : AnalogueInput
fresh_analogue_input =
    record {
      selection = 7;
      upper = pos 0;
      lower = pos 0;
      delta = 0;
      negative = 0;
      positive = 0;
      last = pos 0;
      reference = pos 0;
      source = false;
    }

-- "Sample x meets bit 0 if x > U and x differs from y; bit 1 if x < L and x differs from y; bit 2 if the distance from r to x exceeds D;
-- bit 3 if r - x > N; bit 4 if x - r > P.": a bit selected by 6421 is met
unfoldable pub meets : ℤ → AnalogueInput → Bool
meets x m =
    (bit_at m.selection 0 && (lt_z m.upper x && not (eq_z x m.last)))
    || (bit_at m.selection 1 && (lt_z x m.lower && not (eq_z x m.last)))
    || (bit_at m.selection 2 && ltb m.delta (nat_abs (x -ℤ m.reference)))
    || (bit_at m.selection 3 && lt_z (pos m.negative) (m.reference -ℤ x))
    || (bit_at m.selection 4 && lt_z (pos m.positive) (x -ℤ m.reference))

-- "It is an event exactly when the node is operational, 6423 is 1 and a bit selected by 6421 is met."
unfoldable pub channel_event : Node → ℤ → AnalogueInput → Bool
channel_event n x m = operational n && n.analogue && meets x m

-- "An event sets r to x and the source bit to 1. Every sample then sets y to x"
unfoldable pub sample_channel : Bool → ℤ → AnalogueInput → AnalogueInput
sample_channel event x m =
    record {
      selection = m.selection;
      upper = m.upper;
      lower = m.lower;
      delta = m.delta;
      negative = m.negative;
      positive = m.positive;
      last = x;
      reference = cond event x m.reference;
      source = event || m.source;
    }

-- "An accepted read of 6422:1 answers the bits, then clears them all."
abbrev pub clear_source : AnalogueInput → AnalogueInput
clear_source m =
    record {
      selection = m.selection;
      upper = m.upper;
      lower = m.lower;
      delta = m.delta;
      negative = m.negative;
      positive = m.positive;
      last = m.last;
      reference = m.reference;
      source = false;
    }

-- bytes: 6401 2, 6421 1, 6424 to 6428 4
abbrev pub input_size : ℕ → ℕ
input_size index = cond (eqb index 0x6401) 2 (cond (eqb index 0x6421) 1 4)

-- a write of the number v to an index
unfoldable pub write_analogue_input : ℕ → ℕ → AnalogueInput → AnalogueInput
write_analogue_input index v m =
    record {
      selection = put index 0x6421 v m.selection;
      upper = put index 0x6424 (to_z w32 v) m.upper;
      lower = put index 0x6425 (to_z w32 v) m.lower;
      delta = put index 0x6426 v m.delta;
      negative = put index 0x6427 v m.negative;
      positive = put index 0x6428 v m.positive;
      last = m.last;
      reference = m.reference;
      source = m.source;
    }

-- a read of an index, as an unsigned number; "6401 reads y"
unfoldable pub read_analogue_input : ℕ → AnalogueInput → ℕ
read_analogue_input index m =
    cond (eqb index 0x6401) (of_z w16 m.last)
    (cond (eqb index 0x6421) m.selection
    (cond (eqb index 0x6424) (of_z w32 m.upper)
    (cond (eqb index 0x6425) (of_z w32 m.lower)
    (cond (eqb index 0x6426) m.delta
    (cond (eqb index 0x6427) m.negative
    m.positive)))))

-- "A read or write names .. its channel"; "a sample names every .. input channel": it brings each its own number
abbrev pub analogue_inputs : Rules
analogue_inputs =
    record {
      Own = AnalogueInput;
      count = 16;
      fresh = fresh_analogue_input;
      names = λ e i. at_input_channel false (λ index n. eqb i n) e;
      written = λ e v i n o. at_input_channel o (λ index m. write_analogue_input index v o) e;
      joins = λ c i. on_sample false (λ digital analogue. true) c;
      joined = λ c i n o. on_sample o
          (λ digital analogue. sample_channel (channel_event n (get_or analogue i (pos 0)) o) (get_or analogue i (pos 0)) o) c;
      cleared = clear_source;
      emptied = λ o. o;
      moved = λ before after o. o;
      holds = λ o. nothing_held;
    }
