-- An input sampled among others, as the view shows it.
-- Assumes nothing.
use mathlib.Core.Path.{◌≡◌, ap, ◌∙◌}
use mathlib.Core.Bool.{Bool}
use mathlib.Core.List.{List}
use Prim.Native.Nat.{ℕ, ◌+◌, ◌<◌}
use native.Mathlib.Omega.{arith}
use lib.ListN.{length, get_or}
use lib.IntN.{ℤ, pos}
use Rattle.profile.specs.declared.AnalogueInput.{AnalogueInput}
use Rattle.profile.specs.Bits.{bit_at}
use Rattle.profile.specs.AnalogueInput.{sample_channel}
use Rattle.channels.specs.View.{input_at, sources_of, samples_set}
use Rattle.analogue_inputs.specs.Promises.{took_number}
use Rattle.channels.proofs.StoreLaws.{two_first, two_second, two_other, elsewhere}

module _ (octets : List ℕ) (limits : List ℤ) (deltas : List ℕ) (values : List ℤ) (n : ℕ) (x : AnalogueInput) (h : n < 16)
    (lv : length values ≡ 56) where
  abbrev unsampled : ℕ → AnalogueInput
  unsampled = input_at octets limits deltas values

  abbrev sampled_after : ℕ → AnalogueInput
  sampled_after = input_at octets limits deltas (samples_set values n x)

  pub sampled_here : (event : Bool) (v : ℤ) → x ≡ sample_channel event v (unsampled n) → sampled_after n ≡ took_number event v (unsampled n)
  unfolding sample_channel
  sampled_here event v is =
      λ t. record {
        upper = get_or limits n (pos 0);
        lower = get_or limits (16 + n) (pos 0);
        delta = get_or deltas n 0;
        negative = get_or deltas (16 + n) 0;
        positive = get_or deltas (32 + n) 0;
        last = (two_first values n (16 + n) x.last x.reference (pos 0) (λ e. omega (arith, e)) (omega (arith, lv)) ∙ ap
            (λ (m : AnalogueInput). m.last) is) t;
        reference = (two_second values n (16 + n) x.last x.reference (pos 0) (omega (arith, lv)) ∙ ap
            (λ (m : AnalogueInput). m.reference) is) t;
        selection = get_or octets (3 + n) 0;
        source = bit_at (sources_of octets) n;
      }

  pub sampled_else : (i : ℕ) → i < 16 → (i ≡ n → ⊥) → sampled_after i ≡ unsampled i
  sampled_else i hi ne =
      λ t. record {
        upper = get_or limits i (pos 0);
        lower = get_or limits (16 + i) (pos 0);
        delta = get_or deltas i 0;
        negative = get_or deltas (16 + i) 0;
        positive = get_or deltas (32 + i) 0;
        last = two_other values n (16 + n) x.last x.reference (pos 0) i ne (λ e. omega (arith, e)) t;
        reference = two_other values n (16 + n) x.last x.reference (pos 0) (16 + i) (λ e. omega (arith, e)) (elsewhere 16 i n ne) t;
        selection = get_or octets (3 + i) 0;
        source = bit_at (sources_of octets) i;
      }
