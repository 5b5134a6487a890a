-- What the functions on analogue inputs promise.
-- Assumes nothing.
use Rattle.std.specs.Prelude.{◌≡◌, Bool, cond, ◌&&◌, ◌||◌, List, ℕ, ◌<◌, eqb, ltb, get_or, ℤ, pos, ◌-ℤ◌, nat_abs}
use Rattle.std.specs.Int.Signed.{lt_z}
use Rattle.profile.specs.declared.AnalogueInput.{AnalogueInput}
use Rattle.profile.specs.Bits.{bit_at, gather}
use Rattle.profile.specs.AnalogueInput.{eq_z, meets, sample_channel, clear_source, write_analogue_input}
use Rattle.channels.specs.View.{sources_of, Outside}

-- the parts of `meets`: a selected limit of 6424 or 6425 is passed, and a selected delta of 6426, 6427 or 6428 is exceeded
unfoldable pub meets_limit : ℤ → AnalogueInput → Bool
meets_limit x m = (bit_at m.selection 0 && lt_z m.upper x) || (bit_at m.selection 1 && lt_z x m.lower)

unfoldable pub meets_delta : ℤ → AnalogueInput → Bool
meets_delta x m =
    (bit_at m.selection 2 && ltb m.delta (nat_abs (x -ℤ m.reference)))
    || (bit_at m.selection 3 && lt_z (pos m.negative) (m.reference -ℤ x))
    || (bit_at m.selection 4 && lt_z (pos m.positive) (x -ℤ m.reference))

-- x is the last sample and the reference
abbrev pub still : ℤ → AnalogueInput → Bool
still x m = eq_z x m.last && eq_z x m.reference

-- channel n meets a selected condition at its own number, and events are on: the node is operational and 6423 is 1
unfoldable pub met : Bool → List ℤ → (ℕ → AnalogueInput) → ℕ → Bool
met on xs channels n = on && meets (get_or xs n (pos 0)) (channels n)

-- one channel was sampled at x
pub record Sampled (on : Bool) (x : ℤ) (old : AnalogueInput) (event : Bool) (new : AnalogueInput) : Type 0 where
  pub event_is : event ≡ on && meets x old
  pub channel_is : new ≡ sample_channel event x old

-- sixteen channels were sampled
pub record AllSampled (on : Bool) (xs : List ℤ) (old : ℕ → AnalogueInput) (events : ℕ) (new : ℕ → AnalogueInput) : Type 0 where
  pub events_are : events ≡ gather 16 (met on xs old)
  pub channels : (n : ℕ) → n < 16 → new n ≡ sample_channel (met on xs old n) (get_or xs n (pos 0)) (old n)

-- a channel has taken its number; its source bit waits until all have
abbrev pub took_number : Bool → ℤ → AnalogueInput → AnalogueInput
took_number event x m =
    record {
      selection = m.selection;
      upper = m.upper;
      lower = m.lower;
      delta = m.delta;
      negative = m.negative;
      positive = m.positive;
      last = x;
      reference = cond event x m.reference;
      source = m.source;
    }

-- sixteen channels have
pub record NumbersTaken (on : Bool) (xs : List ℤ) (old : ℕ → AnalogueInput) (events : ℕ) (new : ℕ → AnalogueInput)
    (values values' : List ℤ) : Type 0 where
  pub events_are : events ≡ gather 16 (met on xs old)
  pub channels : (n : ℕ) → n < 16 → new n ≡ took_number (met on xs old n) (get_or xs n (pos 0)) (old n)
  pub values_kept : Outside 0 32 (pos 0) values values'

-- the source bits of sixteen channels, and the channels with them cleared
pub record SourcesTaken (old : ℕ → AnalogueInput) (sources : ℕ) (new : ℕ → AnalogueInput) : Type 0 where
  pub sources_are : sources ≡ gather 16 (λ n. (old n).source)
  pub channels : (n : ℕ) → n < 16 → new n ≡ clear_source (old n)

-- v was written to an index of channel n
pub record InputWritten (index n v : ℕ) (old new : ℕ → AnalogueInput) : Type 0 where
  pub channels : (i : ℕ) → i < 16 → new i ≡ cond (eqb i n) (write_analogue_input index v (old i)) (old i)

-- ---- and what else of the arrays stays

pub record InputsSampled (on : Bool) (xs : List ℤ) (events : ℕ) (old new : ℕ → AnalogueInput) (octets octets' : List ℕ)
    (values values' : List ℤ) : Type 0 where
  pub sampled : AllSampled on xs old events new
  pub octets_kept : Outside 19 21 0 octets octets'
  pub values_kept : Outside 0 32 (pos 0) values values'

-- the source bits became v
pub record SourcesStored (v : ℕ) (octets octets' : List ℕ) : Type 0 where
  pub are : sources_of octets' ≡ v
  pub octets_kept : Outside 19 21 0 octets octets'

pub record InputStored (index n v : ℕ) (old new : ℕ → AnalogueInput) (octets octets' deltas deltas' : List ℕ) : Type 0 where
  pub written : InputWritten index n v old new
  pub octets_kept : Outside 3 19 0 octets octets'
  pub deltas_kept : Outside 0 48 0 deltas deltas'
