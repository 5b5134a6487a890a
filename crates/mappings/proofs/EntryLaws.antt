-- What an entry of a mapping moves, by the tests of the code.
-- Assumes nothing.
use mathlib.Core.Path.{◌≡◌, refl, sym, ap, ap₂, ◌∙◌}
use mathlib.Core.Bool.{Bool, true, false, not, cond, ◌&&◌, ◌||◌}
use Prim.Native.Nat.{ℕ, min, ◌*◌, ◌≤◌}
use native.Mathlib.Omega.{arith}
use lib.Dec.{eqb, ltb}
use lib.ListN.{take}
use borrow.Author.Tests.{eq-eqb, ne_eqb, lt-ltb, le-ltb, ltb-true, ltb-false, eqb-true, eqb-false}
use Rattle.profile.specs.Entries.{Entry}
use Rattle.profile.specs.MappedEntries.{Mapping, bits_of, mapped_entry, mappable, moves, moved, total}
use Rattle.profile.specs.Refusals.{first, mapping_checks}
use Rattle.profile.proofs.MappedLaws.{moves_none, moved_moves}

-- by the entry that it names
pub moved_by : (m v : ℕ) (e : Entry) (b : Bool) → e ≡ mapped_entry v → mappable m e.home && eqb (bits_of v) (8 * e.size) ≡ b
    → moved m v ≡ cond b e.size 0
unfolding moved moves
moved_by m v e b q h =
    ap (λ (x : Entry). cond (mappable m x.home && eqb (bits_of v) (8 * x.size)) x.size 0) (sym q) ∙ ap (λ (t : Bool). cond t e.size 0) h

-- ---- the refusals of a mapping

module _ (o : Mapping) (m v : ℕ) where
  checks_by : (sub : ℕ) (zero none empty moving long sum : Bool) → eqb sub 0 ≡ zero → eqb o.count 0 ≡ none → eqb v 0 ≡ empty
      → moves m v ≡ moving → ltb 8 v ≡ long → ltb 64 (8 * total m (take v o.entries)) ≡ sum
      → first (mapping_checks o m sub v)
      ≡ cond (not zero && not none) 0x06010000
      (cond (not zero && not (empty || moving)) 0x06040041 (cond (zero && (long || sum)) 0x06040042 0))
  unfolding mapping_checks
  checks_by sub zero none empty moving long sum a b c d e f = rw (a, b, c, d, e, f) refl

  -- an entry
  module _ (sub : ℕ) (ne : sub ≡ 0 → ⊥) where
    pub while_counted : (o.count ≡ 0 → ⊥) → first (mapping_checks o m sub v) ≡ 0x06010000
    while_counted n = checks_by sub false false _ _ _ _ (ne_eqb sub 0 ne) (ne_eqb o.count 0 n) refl refl refl refl

    pub value_by : o.count ≡ 0 → (n : ℕ) (b : Bool) → n ≡ moved m v → not (eqb v 0) && eqb n 0 ≡ b
        → first (mapping_checks o m sub v) ≡ cond b 0x06040041 0
    value_by z n b e h = by (eqb v 0) (eqb n 0) refl refl
      where
        moving : (w : Bool) → eqb n 0 ≡ w → moves m v ≡ not w
        moving true q = moves_none m v (sym e ∙ eqb-true n 0 q)
        moving false q = moved_moves m v (λ x. eqb-false n 0 q (e ∙ x))

        same : (t w : Bool) → not (t || not w) ≡ not t && w
        same true true = refl
        same true false = refl
        same false true = refl
        same false false = refl

        by : (t w : Bool) → eqb v 0 ≡ t → eqb n 0 ≡ w → first (mapping_checks o m sub v) ≡ cond b 0x06040041 0
        by t w p q =
            checks_by sub false true t (not w) _ _ (ne_eqb sub 0 ne) (eq-eqb o.count 0 z) p (moving w q) refl refl
            ∙ ap (λ (x : Bool). cond x 0x06040041 0) (same t w ∙ (ap₂ (λ (x y : Bool). not x && y) (sym p) (sym q) ∙ h))

  -- the count: eight bytes are 64 bits
  pub count_by : (s : ℕ) (b : Bool) → s ≡ total m (take (min v 8) o.entries) → ltb 8 v || ltb 8 s ≡ b
      → first (mapping_checks o m 0 v) ≡ cond b 0x06040042 0
  count_by s b e h = by (ltb 8 v) refl
    where
      few : v ≤ 8 → s ≡ total m (take v o.entries)
      few l = e ∙ ap (λ (n : ℕ). total m (take n o.entries)) (omega (arith, l))

      eight : (t : Bool) → v ≤ 8 → ltb 8 s ≡ t → ltb 64 (8 * total m (take v o.entries)) ≡ t
      eight true l q = lt-ltb 64 (8 * total m (take v o.entries)) (omega (arith, few l, ltb-true 8 s q))
      eight false l q = le-ltb 64 (8 * total m (take v o.entries)) (omega (arith, few l, ltb-false 8 s q))

      by : (t : Bool) → ltb 8 v ≡ t → first (mapping_checks o m 0 v) ≡ cond b 0x06040042 0
      by true q =
          checks_by 0 true _ _ _ true _ refl refl refl refl q refl
          ∙ ap (λ (x : Bool). cond x 0x06040042 0) (ap (λ (x : Bool). x || ltb 8 s) (sym q) ∙ h)
      by false q =
          checks_by 0 true _ _ _ false b refl refl refl refl q
          (eight b (ltb-false 8 v q) (ap (λ (x : Bool). x || ltb 8 s) (sym q) ∙ h))

-- what the check is told at `check`
pub ruleset for_check = (while_counted, value_by)
