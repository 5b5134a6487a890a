-- The source bits of all channels, a number of two bytes: stored, kept, and joined with the events of a sample.
-- Assumes nothing.
use mathlib.Core.Path.{◌≡◌, ap, ap₂, ◌∙◌}
use mathlib.Core.Bool.{Bool, ◌||◌}
use mathlib.Core.List.{List}
use Prim.Native.Nat.{ℕ, ◌+◌, ◌*◌, ◌/◌, ◌%◌, ◌<◌}
use native.Mathlib.Omega.{arith}
use lib.Bits.{bit_or}
use Rattle.std.proofs.lemmas.Nat.{or_of_16}
use lib.ListN.{length, get_or}
use lib.IntN.{ℤ, pos}
use Rattle.profile.specs.declared.AnalogueInput.{AnalogueInput}
use Rattle.profile.specs.Bits.{bit_at, gather}
use Rattle.profile.specs.AnalogueInput.{sample_channel}
use Rattle.profile.proofs.BitLaws.{bit_zero, bit_or_lem, gather_small, gather_bit}
use Rattle.channels.specs.View.{input_at, sources_of, sources_set}
use Rattle.analogue_inputs.specs.Promises.{met, NumbersTaken, InputsSampled, SourcesStored, SourcesTaken}
use Rattle.channels.proofs.StoreLaws.{outside_none, outside_set, two_first, two_second}

parts : (v : ℕ) → v % 256 + 256 * (v / 256) ≡ v
parts v = omega arith

pub sources_stored : (octets : List ℕ) (v : ℕ) → length octets ≡ 22 → SourcesStored v octets (sources_set octets v)
sources_stored octets v l =
    record {
      are =
          ap₂ (λ (a b : ℕ). a + 256 * b)
          (two_first octets 19 20 (v % 256) (v / 256) 0 (λ e. omega (arith, e)) (omega (arith, l)))
          (two_second octets 19 20 (v % 256) (v / 256) 0 (omega (arith, l)))
          ∙ parts v;
      octets_kept = outside_set 20 _ (omega arith) (omega arith) (outside_set 19 _ (omega arith) (omega arith) outside_none);
    }

pub events_small : {on : Bool} {xs : List ℤ} {old new : ℕ → AnalogueInput} {events : ℕ} {values values' : List ℤ}
    → NumbersTaken on xs old events new values values' → events < 65536
events_small {on} {xs} {old} taken = rw taken.events_are (gather_small 16 (met on xs old))

module _ (octets octets' : List ℕ) (limits : List ℤ) (deltas : List ℕ) (values values' : List ℤ) where
  -- ---- a sample

  module _ (on : Bool) (xs : List ℤ) (events : ℕ)
      (taken : NumbersTaken on xs (input_at octets limits deltas values) events (input_at octets limits deltas values') values values')
      (long : length octets ≡ 22) (joined : octets' ≡ sources_set octets (bit_or events (sources_of octets))) where
    stored : SourcesStored (bit_or events (sources_of octets)) octets octets'
    stored = rw joined (sources_stored octets (bit_or events (sources_of octets)) long)

    abbrev event : ℕ → Bool
    event = met on xs (input_at octets limits deltas values)

    source_is : (n : ℕ) → n < 16 → bit_at (sources_of octets') n ≡ event n || bit_at (sources_of octets) n
    source_is n h =
        ap (λ (s : ℕ). bit_at s n) stored.are ∙ bit_or_lem events (sources_of octets) n
        ∙ ap (λ (b : Bool). b || bit_at (sources_of octets) n)
        (ap (λ (s : ℕ). bit_at s n) taken.events_are ∙ gather_bit 16 event n h)

    channel : (n : ℕ) → n < 16
        → input_at octets' limits deltas values' n ≡ sample_channel (event n) (get_or xs n (pos 0)) (input_at octets limits deltas values n)
    unfolding sample_channel
    channel n h =
        λ t. record {
          upper = get_or limits n (pos 0);
          lower = get_or limits (16 + n) (pos 0);
          delta = get_or deltas n 0;
          negative = get_or deltas (16 + n) 0;
          positive = get_or deltas (32 + n) 0;
          last = ap (λ (m : AnalogueInput). m.last) (taken.channels n h) t;
          reference = ap (λ (m : AnalogueInput). m.reference) (taken.channels n h) t;
          selection = stored.octets_kept.low (3 + n) (omega (arith, h)) t;
          source = source_is n h t;
        }

    pub inputs_sampled : InputsSampled on xs events (input_at octets limits deltas values) (input_at octets' limits deltas values')
        octets octets' values values'
    inputs_sampled =
        record {
          sampled = record { events_are = taken.events_are; channels = channel };
          octets_kept = stored.octets_kept;
          values_kept = taken.values_kept;
        }

  -- ---- a read of 6422:1

  pub sources_taken : (s : ℕ) → s ≡ gather 16 (bit_at (sources_of octets)) → SourcesStored 0 octets octets'
      → SourcesTaken (input_at octets limits deltas values) s (input_at octets' limits deltas values)
  sources_taken s is stored =
      record {
        sources_are = is;
        channels = λ n h.
            λ t. record {
              upper = get_or limits n (pos 0);
              lower = get_or limits (16 + n) (pos 0);
              delta = get_or deltas n 0;
              negative = get_or deltas (16 + n) 0;
              positive = get_or deltas (32 + n) 0;
              last = get_or values n (pos 0);
              reference = get_or values (16 + n) (pos 0);
              selection = stored.octets_kept.low (3 + n) (omega (arith, h)) t;
              source = (ap (λ (s : ℕ). bit_at s n) stored.are ∙ bit_zero n) t;
            };
      }

-- what the check is told at `sample_all`
pub ruleset for_sample = (events_small, or_of_16, inputs_sampled)
