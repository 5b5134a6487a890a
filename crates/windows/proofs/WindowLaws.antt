-- The window law, for every width that divides 64: what a read and a write through a window are, line by line.
-- Assumes nothing.
use mathlib.Core.Path.{◌≡◌, refl, sym, ap, ap₂, ◌∙◌}
use mathlib.Core.Bool.{Bool, true, false, not, cond, ◌&&◌, ◌||◌, and-false, and-true, or-false}
use mathlib.Core.List.{List}
use Prim.Native.Nat.{ℕ, zero, suc, ◌+◌, ◌-◌, ◌*◌, ◌/◌, ◌%◌, ◌^◌, ◌≤◌, ◌<◌}
use native.Mathlib.Nat.{mod-lt, mul-add, mul_assoc, mul-one, mul-zero, mul-le-mul_left, div-add-mod, zero-lt-suc}
use native.Mathlib.Omega.{arith}
use lib.Dec.{eqb, leb, ltb}
use lib.ListN.{length, get_or, set, length-set}
use lib.Seq.{get_or-set_same, get_or-set_other}
use lib.Pow.{pow_pos}
use lib.Bits.{bit_and, bit_or, and_mask}
use mir.Syntax.{w64}
use mir.Val.{Fits}
use borrow.Author.Tests.{lt-ltb, le-ltb, le-leb, lt-leb, eq-eqb, ltb-true, ltb-false, leb-true, leb-false, eqb-true, eqb-false}
use Rattle.profile.specs.Bits.{bit_at, gather}
use Rattle.profile.specs.Entries.{first_line, inside, bit_of}
use Rattle.profile.proofs.BoolLaws.{both}
use Rattle.profile.proofs.BitLaws.{bit_and_lem, bit_or_lem, bit_not, bit_ones, bit_small, bit_shr, bit_shl, bit_mod}
use Rattle.profile.proofs.BitLaws.{gather_bit, gather_bits, gather_cong, gather_small}
use Rattle.profile.proofs.ShiftLaws.{power_shifted}
use Rattle.windows.specs.View.{line_at, window}
use Rattle.windows.specs.Promises.{Covers, Lined, written}

-- what an array of 40 words of 64 bits is, as a list
pub record Held (words : List ℕ) : Type 0 where
  pub count : length words ≡ 40
  pub each : (n : ℕ) → Fits w64 (get_or words n 0)

-- ---- where a window lies

-- a window lies within one word
within : (w n : ℕ) → w * (64 / w) ≡ 64 → w * n % 64 + w ≤ 64
within w n e = by (64 / w) e
  where
    by : (q : ℕ) → w * q ≡ 64 → w * n % 64 + w ≤ 64
    by zero d = absurd (omega (arith, mul-zero w))
    by (suc p) d =
        let whole : w * n ≡ 64 * (n / suc p) + w * (n % suc p)
        = ap (λ (x : ℕ). w * x) (sym (div-add-mod n (suc p))) ∙ mul-add w (suc p * (n / suc p)) (n % suc p)
        ∙ ap (λ (x : ℕ). x + w * (n % suc p)) (sym (mul_assoc w (suc p) (n / suc p)) ∙ ap (λ (x : ℕ). x * (n / suc p)) d)
        in
        let room : w * (n % suc p + 1) ≤ w * suc p = mul-le-mul_left w (omega (arith, mod-lt n (zero-lt-suc p))) in
        omega (arith, mul-add w (n % suc p) 1, mul-one w)

end : (w s : ℕ) → 1 ≤ s → w * s ≡ w * (s - 1) + w
end w s h = ap (λ (x : ℕ). w * x) (omega arith) ∙ mul-add w (s - 1) 1 ∙ ap (λ (x : ℕ). w * (s - 1) + x) (mul-one w)

-- the numbers of a covered window
pub record Bounds (a w s : ℕ) : Type 0 where
  pub fits : first_line w s % 64 + w ≤ 64
  pub below : first_line w s + w ≤ 128
  pub some : 1 ≤ w
  pub narrow : w ≤ 32
  pub row : a < 20

some_width : (w q : ℕ) → w * q ≡ 64 → 1 ≤ w
some_width zero q e = absurd (omega arith)
some_width (suc w) q e = omega arith

pub bounds : {a w s : ℕ} → Covers a w s → Bounds a w s
bounds {a} {w} {s} c =
    record {
      fits = within w (s - 1) c.width.divides;
      below = omega (arith, end w s c.first, c.last);
      some = some_width w (64 / w) c.width.divides;
      narrow = c.width.narrow;
      row = c.row;
    }

-- 1 << w
size : (w : ℕ) → w ≤ 32 → 1 * 2 ^ w % 2 ^ 64 ≡ 2 ^ w
size w h = power_shifted w (omega (arith, h))

-- ---- reading

-- a number of w bits is gathered from them
pub from_bits : (w v : ℕ) (f : ℕ → Bool) → v < 2 ^ w → ((b : ℕ) → b < w → bit_at v b ≡ f b) → v ≡ gather w f
from_bits w v f h e = sym (gather_bits w v h) ∙ gather_cong w (bit_at v) f e

-- what the code reads from bit k on of word n
pub window_read : (words : List ℕ) (a w s n k : ℕ) → Covers a w s → n ≡ 2 * a + first_line w s / 64 → k ≡ first_line w s % 64
    → bit_and (get_or words n 0 / 2 ^ k) (1 * 2 ^ w % 2 ^ 64 - 1) ≡ window words a w s
unfolding line_at window
window_read words a w s n k c en ek =
    rw (size w c.width.narrow, and_mask, en, ek)
    (from_bits w _ (λ b. line_at words a (first_line w s + b)) (mod-lt _ (pow_pos w))
    (λ b h.
    bit_mod _ w b h ∙ bit_shr _ (first_line w s % 64) b
    ∙ ap₂ (λ (x y : ℕ). bit_at (get_or words (2 * a + x) 0) y) (omega (arith, (bounds c).fits)) (omega (arith, (bounds c).fits))))

pub window_small : (words : List ℕ) (a w s : ℕ) → window words a w s < 2 ^ w
unfolding window
window_small words a w s = gather_small w _

pub small_as : (words : List ℕ) (a w s : ℕ) {v : ℕ} → v ≡ window words a w s → v < 2 ^ w
small_as words a w s e = rw e (window_small words a w s)

-- ---- a line inside a window

inside_true : (w s i : ℕ) → inside w s i ≡ true → (first_line w s ≤ i) × (i < first_line w s + w)
unfolding inside
inside_true w s i e =
    let p : (leb (first_line w s) i ≡ true) × (ltb i (first_line w s + w) ≡ true) = both _ _ e in
    (leb-true (first_line w s) i p.0, ltb-true i (first_line w s + w) p.1)

pub bit_low : (w s i : ℕ) → inside w s i ≡ true → bit_of w s i < w
bit_low w s i e = omega (arith, inside_true w s i e)

-- a bit of a window's value is its line
pub window_bit : (words : List ℕ) (a w s i : ℕ) → inside w s i ≡ true → bit_at (window words a w s) (bit_of w s i) ≡ line_at words a i
unfolding window
window_bit words a w s i e =
    gather_bit w _ (bit_of w s i) (bit_low w s i e) ∙ ap (line_at words a) (omega (arith, inside_true w s i e))

-- ---- writing

-- the code's mask, and the code's new word
abbrev pub mask_of : ℕ → ℕ → ℕ
mask_of w k = (1 * 2 ^ w % 2 ^ 64 - 1) * 2 ^ k % 2 ^ 64

abbrev pub patched : ℕ → ℕ → ℕ → ℕ → ℕ
patched old v w k = bit_or (bit_and old (2 ^ 64 - 1 - mask_of w k)) (v * 2 ^ k % 2 ^ 64)

-- the mask has the window's bits
mask_bit : (w k j : ℕ) → w ≤ 32 → j < 64 → bit_at (mask_of w k) j ≡ cond (leb k j) (ltb (j - k) w) false
mask_bit w k j h l =
    bit_mod _ 64 j l ∙ bit_shl _ k j
    ∙ ap (λ (x : Bool). cond (leb k j) x false) (ap (λ (x : ℕ). bit_at (x - 1) (j - k)) (size w h) ∙ bit_ones w (j - k))

-- where the second test fails, bit d is past the w low ones
abbrev leb_of : Bool → ℕ → ℕ → Type 0
leb_of true w d = Unit {0}
leb_of false w d = w ≤ d

leb_is : (w d : ℕ) (t : Bool) → ltb d w ≡ t → leb_of t w d
leb_is w d true e = tt
leb_is w d false e = ltb-false d w e

-- one bit of the new word, by the two tests
mixed : (v w d : ℕ) (old t u : Bool) → v < 2 ^ w → leb_of u w d
    → (old && not (cond t u false)) || cond t (bit_at v d) false ≡ cond (t && u) (bit_at v d) old
mixed v w d old true true h e = ap (λ (x : Bool). x || bit_at v d) (and-false old)
mixed v w d old true false h e = ap₂ (λ (x y : Bool). x || y) (and-true old) (bit_small w d h e) ∙ or-false old
mixed v w d old false u h e = ap (λ (x : Bool). x || false) (and-true old) ∙ or-false old

patched_bit : (old v w k j : ℕ) → v < 2 ^ w → w ≤ 32 → j < 64
    → bit_at (patched old v w k) j ≡ cond (leb k j && ltb (j - k) w) (bit_at v (j - k)) (bit_at old j)
patched_bit old v w k j hv hw hj =
    bit_or_lem _ _ j
    ∙ ap₂ ◌||◌
    (bit_and_lem old _ j ∙ ap (λ (x : Bool). bit_at old j && x)
    (bit_not 64 (mask_of w k) j (mod-lt _ (pow_pos 64)) hj ∙ ap not (mask_bit w k j hw hj)))
    (bit_mod _ 64 j hj ∙ bit_shl v k j)
    ∙ mixed v w (j - k) (bit_at old j) (leb k j) (ltb (j - k) w) hv (leb_is w (j - k) (ltb (j - k) w) refl)

-- the same tests, of the line and not of its bit
tests : (p w i : ℕ) (t u : Bool) → i / 64 ≡ p / 64 → p % 64 + w ≤ 64
    → leb (p % 64) (i % 64) ≡ t → ltb (i % 64 - p % 64) w ≡ u → (t && u) ≡ (leb p i && ltb i (p + w))
tests p w i true true q f ht hu =
    let x : p % 64 ≤ i % 64 = leb-true (p % 64) (i % 64) ht in
    let y : i % 64 - p % 64 < w = ltb-true (i % 64 - p % 64) w hu in
    sym (ap₂ ◌&&◌ (le-leb p i (omega arith)) (lt-ltb i (p + w) (omega arith)))
tests p w i true false q f ht hu =
    let x : p % 64 ≤ i % 64 = leb-true (p % 64) (i % 64) ht in
    let y : w ≤ i % 64 - p % 64 = ltb-false (i % 64 - p % 64) w hu in
    sym (ap₂ ◌&&◌ (le-leb p i (omega arith)) (le-ltb i (p + w) (omega arith)))
tests p w i false u q f ht hu =
    let x : i % 64 < p % 64 = leb-false (p % 64) (i % 64) ht in
    sym (ap (λ (z : Bool). z && ltb i (p + w)) (lt-leb p i (omega arith)))

-- in the window's own word
here : (old v p w i : ℕ) → v < 2 ^ w → w ≤ 32 → p % 64 + w ≤ 64 → i / 64 ≡ p / 64
    → bit_at (patched old v w (p % 64)) (i % 64) ≡ cond (leb p i && ltb i (p + w)) (bit_at v (i - p)) (bit_at old (i % 64))
here old v p w i hv hw f q =
    patched_bit old v w (p % 64) (i % 64) hv hw (mod-lt i (zero-lt-suc 63))
    ∙ ap₂ (λ (t : Bool) (d : ℕ). cond t (bit_at v d) (bit_at old (i % 64)))
    (tests p w i (leb (p % 64) (i % 64)) (ltb (i % 64 - p % 64) w) q f refl refl)
    (omega arith)

-- in every other word
elsewhere : {a w s : ℕ} (a' i : ℕ) (t u : Bool) → Bounds a w s → (2 * a' + i / 64 ≡ 2 * a + first_line w s / 64 → ⊥)
    → eqb a' a ≡ t → inside w s i ≡ u → (t && u) ≡ false
elsewhere {a} {w} {s} a' i true true p ne ht hu =
    let same : a' ≡ a = eqb-true a' a ht in
    let from : (first_line w s ≤ i) × (i < first_line w s + w) = inside_true w s i hu in
    absurd (ne (omega arith))
elsewhere a' i true false p ne ht hu = refl
elsewhere a' i false u p ne ht hu = refl

module _ (words : List ℕ) (a w s v : ℕ) (c : Covers a w s) (hv : v < 2 ^ w) (count : length words ≡ 40) where
  write_by : (a' i : ℕ) (t : Bool) → i < 128 → eqb (2 * a' + i / 64) (2 * a + first_line w s / 64) ≡ t
      → line_at
      (set words (2 * a + first_line w s / 64) (patched (get_or words (2 * a + first_line w s / 64) 0) v w (first_line w s % 64)))
      a' i
      ≡ written words a w s v a' i
  unfolding line_at written inside
  write_by a' i true hi e =
      let p : Bounds a w s = bounds c in
      let n : 2 * a' + i / 64 ≡ 2 * a + first_line w s / 64 = eqb-true (2 * a' + i / 64) (2 * a + first_line w s / 64) e in
      let same : a' ≡ a = omega arith in
      let word : i / 64 ≡ first_line w s / 64 = omega arith in
      ap (λ (x : ℕ). bit_at x (i % 64)) (rw n (get_or-set_same words _ _ 0 (omega (arith, count))))
      ∙ here _ v (first_line w s) w i hv p.narrow p.fits word
      ∙ ap₂ (λ (t : Bool) (x : ℕ). cond (t && (leb (first_line w s) i && ltb i (first_line w s + w))) (bit_at v (bit_of w s i))
      (bit_at (get_or words x 0) (i % 64)))
      (sym (eq-eqb a' a same)) (sym n)
  write_by a' i false hi e =
      let ne : (2 * a' + i / 64 ≡ 2 * a + first_line w s / 64) → ⊥ = eqb-false (2 * a' + i / 64) (2 * a + first_line w s / 64) e in
      ap (λ (x : ℕ). bit_at x (i % 64)) (get_or-set_other words _ _ _ 0 ne)
      ∙ ap (λ (t : Bool). cond t (bit_at v (bit_of w s i)) (bit_at (get_or words (2 * a' + i / 64) 0) (i % 64)))
      (sym (elsewhere a' i (eqb a' a) (inside w s i) (bounds c) ne refl refl))

  -- what the code stores in word n, from bit k on
  pub window_write : (n k : ℕ) → n ≡ 2 * a + first_line w s / 64 → k ≡ first_line w s % 64
      → Lined (set words n (patched (get_or words n 0) v w k)) (written words a w s v)
  window_write n k en ek =
      rw (en, ek)
      (record {
        count = length-set words _ _ ∙ count;
        lines = λ a' i ha hi. write_by a' i (eqb (2 * a' + i / 64) (2 * a + first_line w s / 64)) hi refl;
      })
