-- The conditions of an analogue input, from what the code compares: the distance to the reference.
-- Assumes nothing.
use Prim.Native.Nat.{ℕ, ◌/◌, ◌%◌}
use mathlib.Core.Path.{◌≡◌, sym, ap, ap₂, ◌∙◌}
use mathlib.Core.Bool.{Bool, true, false, not, ◌&&◌, ◌||◌, and_assoc, and_comm, and-false, or-false, or_assoc, and-or_distrib_left}
use mathlib.Core.Bool.{false≢true}
use native.Mathlib.Omega.{arith}
use lib.Dec.{ltb, eqb}
use lib.IntN.{ℤ, pos, negsuc, ◌-ℤ◌, nat_abs}
use lib.Signed.{lt_z}
use borrow.Author.Tests.{eqb-true}
use mir.Syntax.{w16}
use mir.Val.{SFits, of_z}
use Rattle.std.proofs.lemmas.Bool.Decides.{nat_tests}
use Rattle.std.proofs.lemmas.Int.{ints}
use Rattle.profile.proofs.BoolLaws.{both}
use Rattle.profile.specs.declared.AnalogueInput.{AnalogueInput}
use Rattle.profile.specs.Bits.{bit_at}
use Rattle.profile.specs.AnalogueInput.{eq_z, meets}
use Rattle.channels.proofs.SignedLaws.{equal_bits}
use Rattle.analogue_inputs.specs.Promises.{meets_limit, meets_delta, still, took_number}

-- the greater less the lesser exceeds n where their distance does, and the lesser less the greater never
module _ (x y : ℤ) (n : ℕ) where
  falls : lt_z x y ≡ true → (lt_z (pos n) (y -ℤ x) ≡ ltb n (nat_abs (x -ℤ y))) × (lt_z (pos n) (x -ℤ y) ≡ false)
  falls h = (grind (arith, ints, nat_tests), grind (arith, ints))

  rises : lt_z x y ≡ false → (lt_z (pos n) (x -ℤ y) ≡ ltb n (nat_abs (x -ℤ y))) × (lt_z (pos n) (y -ℤ x) ≡ false)
  rises h = (grind (arith, ints, nat_tests), grind (arith, ints))

-- the deltas, each behind its bit of the selection
module _ (m : AnalogueInput) (x : ℤ) (distance : ℕ) (e : distance ≡ nat_abs (x -ℤ m.reference)) where
  -- x is below the reference
  pub fall_is : lt_z x m.reference ≡ true → (eqb (m.selection / 4 % 2) 1 && ltb m.delta distance) ||
      (eqb (m.selection / 8 % 2) 1 && ltb m.negative distance) ≡ meets_delta x m
  unfolding meets_delta bit_at
  fall_is h =
      rw (e, (falls x m.reference m.negative h).0, (falls x m.reference m.positive h).1)
      (simp (and-false, or-false))

  -- x is the reference or above it
  pub rise_is : lt_z x m.reference ≡ false → (eqb (m.selection / 4 % 2) 1 && ltb m.delta distance) ||
      (eqb (m.selection / 16 % 2) 1 && ltb m.positive distance) ≡ meets_delta x m
  unfolding meets_delta bit_at
  rise_is h =
      rw (e, (rises x m.reference m.positive h).0, (rises x m.reference m.negative h).1)
      (simp (and-false, or-false))

-- ---- the two parts are the whole

turn : (a u t : Bool) → a && (u && t) ≡ t && (a && u)
turn a u t = sym (and_assoc a u t) ∙ and_comm (a && u) t

meets_parts : (m : AnalogueInput) (x : ℤ) → meets x m ≡ (not (eq_z x m.last) && meets_limit x m) || meets_delta x m
unfolding meets meets_limit meets_delta
meets_parts m x =
    let t = not (eq_z x m.last) in
    let p = bit_at m.selection 0 && lt_z m.upper x in
    let q = bit_at m.selection 1 && lt_z x m.lower in
    let c = bit_at m.selection 2 && ltb m.delta (nat_abs (x -ℤ m.reference)) in
    let d = bit_at m.selection 3 && lt_z (pos m.negative) (m.reference -ℤ x) in
    let e = bit_at m.selection 4 && lt_z (pos m.positive) (x -ℤ m.reference) in
    ap₂ (λ (a b : Bool). a || b || c || d || e) (turn (bit_at m.selection 0) (lt_z m.upper x) t)
    (turn (bit_at m.selection 1) (lt_z x m.lower) t)
    ∙ ap (λ (a : Bool). a || c || d || e) (sym (and-or_distrib_left t p q))
    ∙ ap (λ (a : Bool). a || e) (or_assoc (t && (p || q)) c d)
    ∙ or_assoc (t && (p || q)) (c || d) e

-- and by the bits of x and the last sample, which the code compares
pub meets_coded : (m : AnalogueInput) (x : ℤ) → SFits w16 x → SFits w16 m.last
    → meets x m ≡ (not (eqb (of_z w16 x) (of_z w16 m.last)) && meets_limit x m) || meets_delta x m
meets_coded m x fx fl =
    meets_parts m x ∙ ap (λ (e : Bool). (not e && meets_limit x m) || meets_delta x m) (sym (equal_bits w16 x m.last fx fl))

-- ---- a sample that is still

equal : (x y : ℤ) → eq_z x y ≡ true → x ≡ y
equal (pos a) (pos b) e = ap pos (eqb-true a b e)
equal (pos a) (negsuc b) e = absurd (false≢true e)
equal (negsuc a) (pos b) e = absurd (false≢true e)
equal (negsuc a) (negsuc b) e = ap negsuc (eqb-true a b e)

-- no difference of two equal integers exceeds anything
no_difference : (n : ℕ) (x y : ℤ) → x ≡ y → (ltb n (nat_abs (x -ℤ y)) ≡ false) × (lt_z (pos n) (y -ℤ x) ≡ false) × (lt_z (pos n) (x -ℤ y) ≡ false)
no_difference n x y e = (grind (arith, ints, nat_tests), grind (arith, ints), grind (arith, ints))

module _ (m : AnalogueInput) (x : ℤ) (e : still x m ≡ true) where
  last_is : x ≡ m.last
  last_is = equal x m.last (both (eq_z x m.last) (eq_z x m.reference) e).0

  reference_is : x ≡ m.reference
  reference_is = equal x m.reference (both (eq_z x m.last) (eq_z x m.reference) e).1

  no_delta : meets_delta x m ≡ false
  unfolding meets_delta
  no_delta =
      simp (
        (no_difference m.delta x m.reference reference_is).0,
        (no_difference m.negative x m.reference reference_is).1,
        (no_difference m.positive x m.reference reference_is).2,
        and-false,
      )

  pub still_meets : meets x m ≡ false
  still_meets =
      meets_parts m x
      ∙ ap₂ (λ (s t : Bool). (not s && meets_limit x m) || t) (both (eq_z x m.last) (eq_z x m.reference) e).0 no_delta

  pub still_taken : took_number false x m ≡ m
  still_taken =
      λ t.
      record {
        selection = m.selection;
        upper = m.upper;
        lower = m.lower;
        delta = m.delta;
        negative = m.negative;
        positive = m.positive;
        last = last_is t;
        reference = m.reference;
        source = m.source;
      }
