-- Where the analogue channels stand in the arrays that the device lends. A field of channel n (from 0) is element n of its column; the
-- columns of an array follow one another.
-- octets: 3 of the node, then selection (16), then the source bits of all channels as a number of two bytes, the low one first, then one
-- more of the node.
-- flags: 4 of the node, then mode (8). limits: upper, lower. deltas: delta, negative, positive, then the mappings and the watch.
-- values: last, reference (16 each), error, kept, driven (8 each).
-- Assumes nothing.
use Rattle.std.specs.Prelude.{◌≡◌, Bool, true, false, List, ℕ, ◌+◌, ◌*◌, ◌/◌, ◌%◌, ◌≤◌, ◌<◌, length, get_or, set, ℤ, pos}
use Rattle.profile.specs.declared.AnalogueInput.{AnalogueInput}
use Rattle.profile.specs.declared.AnalogueOutput.{AnalogueOutput}
use Rattle.profile.specs.Bits.{bit_at}

-- the source bits, bit n for channel n
abbrev pub sources_of : List ℕ → ℕ
sources_of octets = get_or octets 19 0 + 256 * get_or octets 20 0

-- input channel n, with its source bit
abbrev pub input_with : Bool → List ℕ → List ℤ → List ℕ → List ℤ → ℕ → AnalogueInput
input_with source octets limits deltas values n =
    record {
      upper = get_or limits n (pos 0);
      lower = get_or limits (16 + n) (pos 0);
      delta = get_or deltas n 0;
      negative = get_or deltas (16 + n) 0;
      positive = get_or deltas (32 + n) 0;
      last = get_or values n (pos 0);
      reference = get_or values (16 + n) (pos 0);
      selection = get_or octets (3 + n) 0;
      source = source;
    }

abbrev pub input_at : List ℕ → List ℤ → List ℕ → List ℤ → ℕ → AnalogueInput
input_at octets limits deltas values n = input_with (bit_at (sources_of octets) n) octets limits deltas values n

-- what output channel n drives
abbrev pub driven_of : List ℤ → ℕ → ℤ
driven_of values n = get_or values (48 + n) (pos 0)

-- output channel n
abbrev pub output_at : List Bool → List ℤ → ℕ → AnalogueOutput
output_at flags values n =
    record {
      mode = get_or flags (4 + n) false;
      error = get_or values (32 + n) (pos 0);
      kept = get_or values (40 + n) (pos 0);
      driven = driven_of values n;
    }

-- ---- one channel stored

abbrev pub limits_set : List ℤ → ℕ → AnalogueInput → List ℤ
limits_set limits n x = set (set limits n x.upper) (16 + n) x.lower

abbrev pub deltas_set : List ℕ → ℕ → AnalogueInput → List ℕ
deltas_set deltas n x = set (set (set deltas n x.delta) (16 + n) x.negative) (32 + n) x.positive

abbrev pub selection_set : List ℕ → ℕ → AnalogueInput → List ℕ
selection_set octets n x = set octets (3 + n) x.selection

abbrev pub samples_set : List ℤ → ℕ → AnalogueInput → List ℤ
samples_set values n x = set (set values n x.last) (16 + n) x.reference

-- the source bits of all channels stored
abbrev pub sources_set : List ℕ → ℕ → List ℕ
sources_set octets v = set (set octets 19 (v % 256)) 20 (v / 256)

abbrev pub output_set : List ℤ → ℕ → AnalogueOutput → List ℤ
output_set values n y = set (set (set values (32 + n) y.error) (40 + n) y.kept) (48 + n) y.driven

abbrev pub mode_set : List Bool → ℕ → AnalogueOutput → List Bool
mode_set flags n y = set flags (4 + n) y.mode

-- every error mode 1
abbrev pub modes_set : List Bool → List Bool
modes_set flags = set (set (set (set (set (set (set (set flags 4 true) 5 true) 6 true) 7 true) 8 true) 9 true) 10 true) 11 true

-- ---- what a call leaves

-- ys is xs outside the elements a to b - 1
pub record Outside {A : Type 0} (a b : ℕ) (d : A) (xs ys : List A) : Type 0 where
  pub len : length ys ≡ length xs
  pub low : (k : ℕ) → k < a → get_or ys k d ≡ get_or xs k d
  pub high : (k : ℕ) → b ≤ k → get_or ys k d ≡ get_or xs k d

-- the elements a to b - 1 became 0, and no other changed
pub record Zeroed (a b : ℕ) (xs ys : List ℕ) : Type 0 where
  pub zeros : (k : ℕ) → a ≤ k → k < b → get_or ys k 0 ≡ 0
  pub kept : Outside a b 0 xs ys
