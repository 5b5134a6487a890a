-- `take_numbers` meets its contract. The loop's invariant: the channels from i on have taken their numbers, and the events of those
-- below i are missing.
-- Assumes nothing.
use Prim.Native.Nat.{ℕ, ◌+◌, ◌-◌, ◌<◌}
use mathlib.Core.Path.{◌≡◌, sym, ap, ap₂, ◌∙◌}
use mathlib.Core.Bool.{Bool, true, false, ◌&&◌, and-false}
use mathlib.Core.List.{List}
use native.Mathlib.Omega.{arith}
use borrow.Author.Rules.{rules}
use lib.IntN.{ℤ, pos}
use lib.ListN.{length, get_or}
use mir.Syntax.{w16}
use mir.Val.{SFits, to_z, of_z}
use mir.Facts.{to_z-of_z}
use Rattle.profile.specs.declared.AnalogueInput.{AnalogueInput}
use Rattle.profile.specs.AnalogueInput.{sample_channel}
use Rattle.channels.specs.View.{input_at}
use Rattle.analogue_inputs.specs.Promises.{met, still, Sampled, took_number}
use Rattle.channels.proofs.Sweeps.{backward_more, backward_stay}
use Rattle.channels.proofs.StoreLaws.{outside_set}
use Rattle.analogue_inputs.proofs.StoreLaws.{sampled_here, sampled_else}
use Rattle.analogue_inputs.proofs.Gathered.{missing_less, missing_skip, missing_none}
use Rattle.analogue_inputs.proofs.MeetsLaws.{still_meets, still_taken}
use Rattle.analogue_inputs.proofs.take_numbers.Goals as goal

-- one channel's event and what it becomes, in the terms of the promise
module _ (on : Bool) (xs : List ℤ) (old : ℕ → AnalogueInput) (i : ℕ) where
  event_is : (event : Bool) (new : AnalogueInput) → Sampled on (get_or xs i (pos 0)) (old i) event new → event ≡ met on xs old i
  unfolding met
  event_is event new s = s.event_is

  channel_is : (event : Bool) (new : AnalogueInput) → Sampled on (get_or xs i (pos 0)) (old i) event new
      → new ≡ sample_channel (met on xs old i) (get_or xs i (pos 0)) (old i)
  channel_is event new s = s.channel_is ∙ ap (λ (b : Bool). sample_channel b (get_or xs i (pos 0)) (old i)) (event_is event new s)

  no-event : still (get_or xs i (pos 0)) (old i) ≡ true → met on xs old i ≡ false
  unfolding met
  no-event e = ap (λ (b : Bool). on && b) (still_meets (old i) (get_or xs i (pos 0)) e) ∙ and-false on

  channel-stays : still (get_or xs i (pos 0)) (old i) ≡ true
      → took_number (met on xs old i) (get_or xs i (pos 0)) (old i) ≡ old i
  channel-stays e =
      ap (λ (b : Bool). took_number b (get_or xs i (pos 0)) (old i)) (no-event e) ∙ still_taken (old i) (get_or xs i (pos 0)) e

pub loop-i-preserved-then-not-is_still : goal.loop-i-preserved-then-not-is_still
loop-i-preserved-then-not-is_still c =
    let a = c.args in
    let l = c.loop-i in
    let inv = l.invariant in
    let i = l.i - 1 in
    let more = c.loop-i-test.true in
    let h : l.i - 1 < 16 = omega (arith, inv.0, more) in
    let xs = a.xs.now in
    let v = get_or xs i (pos 0) in
    let old = input_at a.octets.now a.limits.now a.deltas.now a.values.now in
    let f : SFits w16 v = search rules in
    let e : to_z w16 (of_z w16 v) ≡ v = to_z-of_z f in
    let same : input_at a.octets.now a.limits.now a.deltas.now l.values i ≡ old i = inv.1.low i
    (omega (arith, more)) h in
    let new = c.sampled-result.result.channel in
    let g : Sampled a.on v (old i) c.sampled-result.result.event new = rw (e, c.input_at-then-not-is_still.ensures, same) at
    c.sampled-result.ensures in
    let becomes = channel_is a.on xs old i _ _ g in
    let stored = c.set_sample.ensures in
    let long : length a.values.now ≡ 56 = search rules in (
      omega arith,
      rw stored
          (backward_more _ _ _ _ _ l.i inv.1 more
          (sampled_here a.octets.now a.limits.now a.deltas.now l.values i new h
          (inv.3.len ∙ long) _ v (becomes ∙ ap (sample_channel (met a.on xs old i) v) (sym same))
          ∙ ap (took_number (met a.on xs old i) v) same)
          (sampled_else a.octets.now a.limits.now a.deltas.now l.values i new h (inv.3.len ∙ long))),
      missing_less inv.2 more inv.0 _ _ (event_is a.on xs old i _ _ g) c.from.ensures,
      rw stored
          (outside_set (16 + i) new.reference (omega arith) (omega (arith, h))
          (outside_set i new.last (omega arith) (omega (arith, h)) inv.3)),
    )

pub loop-i-preserved : goal.loop-i-preserved
loop-i-preserved c =
    let a = c.args in
    let l = c.loop-i in
    let inv = l.invariant in
    let i = l.i - 1 in
    let more = c.loop-i-test.true in
    let h : l.i - 1 < 16 = omega (arith, inv.0, more) in
    let xs = a.xs.now in
    let v = get_or xs i (pos 0) in
    let old = input_at a.octets.now a.limits.now a.deltas.now a.values.now in
    let f : SFits w16 v = search rules in
    let e : to_z w16 (of_z w16 v) ≡ v = to_z-of_z f in
    let same : input_at a.octets.now a.limits.now a.deltas.now l.values i ≡ old i = inv.1.low i
    (omega (arith, more)) h in
    let seen = ap₂ (λ (y : ℤ) (m : AnalogueInput). still y m) e (c.input_at.ensures ∙ same) in
    let q : still v (old i) ≡ true = sym seen ∙ sym c.is_still.ensures ∙ c.if-not-is_still.false in (
      omega arith,
      backward_stay _ _ _ _ l.i inv.1 more inv.0 (channel-stays a.on xs old i q),
      missing_skip inv.2 more (no-event a.on xs old i q),
      inv.3,
    )

pub returns : goal.returns
returns c =
    let inv = c.loop-i.invariant in
    let over = c.loop-i-test.false in
    record {
      events_are = missing_none inv.2 over;
      channels = λ n h. inv.1.high n (omega (arith, over)) h;
      values_kept = inv.3;
    }
