-- The counts in rows of bits: compared with a number and raised by 1, for every number of bits; and the loops over the eight rows.
-- Assumes nothing.
use mathlib.Core.Path.{◌≡◌, refl, sym, ap, ap₂, ◌∙◌}
use mathlib.Core.Bool.{Bool, true, false, cond, ◌&&◌, ◌||◌}
use mathlib.Core.List.{List}
use Prim.Native.Nat.{ℕ, zero, suc, ◌+◌, ◌-◌, ◌*◌, ◌/◌, ◌%◌, ◌^◌, ◌<◌}
use native.Mathlib.Nat.{pow-suc}
use native.Mathlib.Omega.{arith}
use lib.Dec.{eqb, ltb, leb}
use borrow.Author.Tests.{le-leb, lt-leb, leb-true, leb-false, lt-ltb, le-ltb, ltb-true, ltb-false, eqb-true, eqb-false}
use Rattle.profile.specs.Bits.{bit_at, bit, flip, gather}
use Rattle.profile.proofs.BitLaws.{bit_zero, bit_below, gather_bit, gather_bits, gather_small}
use Rattle.windows.specs.declared.Row.{Row}
use Rattle.windows.specs.View.{line_at, row_at}
use Rattle.windows.specs.Promises.{Lined, row_set, cleared, RowOf, Joins}
use Rattle.windows.proofs.RowLaws.{every, none, every_line, no_line}
use Rattle.lines.specs.View.{count_at}
use Rattle.lines.specs.Promises.{Compared, Reached, counted_at}

-- ---- for every number of bits

-- one bit more of a comparison, where the lower bits are below p
compare_by : (g f x : Bool) (p a b : ℕ) → a < p → b < p → leb a b ≡ x → leb (a + bit g * p) (b + bit f * p) ≡ cond g (f && x) (f || x)
compare_by true true true p a b ha hb e = le-leb (a + 1 * p) (b + 1 * p) (omega (arith, leb-true a b e))
compare_by true true false p a b ha hb e = lt-leb (a + 1 * p) (b + 1 * p) (omega (arith, leb-false a b e))
compare_by true false x p a b ha hb e = lt-leb (a + 1 * p) (b + 0 * p) (omega arith)
compare_by false true x p a b ha hb e = le-leb (a + 0 * p) (b + 1 * p) (omega arith)
compare_by false false true p a b ha hb e = le-leb (a + 0 * p) (b + 0 * p) (omega (arith, leb-true a b e))
compare_by false false false p a b ha hb e = lt-leb (a + 0 * p) (b + 0 * p) (omega (arith, leb-false a b e))

pub compare_more : (n : ℕ) (g f : ℕ → Bool) → leb (gather (suc n) g) (gather (suc n) f)
    ≡ cond (g n) (f n && leb (gather n g) (gather n f)) (f n || leb (gather n g) (gather n f))
compare_more n g f =
    compare_by (g n) (f n) (leb (gather n g) (gather n f)) (2 ^ n) (gather n g) (gather n f) (gather_small n g) (gather_small n f) refl

-- the bits below n are all 1, so that adding 1 carries into bit n
abbrev pub full : ℕ → (ℕ → Bool) → Bool
full zero f = true
full (suc n) f = f n && full n f

-- bit b after 1 was added
abbrev pub risen : (ℕ → Bool) → ℕ → Bool
risen f b = flip (f b) (full b f)

add_by : (x y : Bool) (p q r a : ℕ) → q ≡ 2 * p → r + bit y * p ≡ a + 1 → r + bit (flip x y) * p + bit (x && y) * q ≡ a + bit x * p + 1
add_by true true p q r a d e = omega (arith, d, e)
add_by true false p q r a d e = omega (arith, d, e)
add_by false true p q r a d e = omega (arith, d, e)
add_by false false p q r a d e = omega (arith, d, e)

pub add_one : (n : ℕ) (f : ℕ → Bool) → gather n (risen f) + bit (full n f) * 2 ^ n ≡ gather n f + 1
add_one zero f = refl
add_one (suc n) f = add_by (f n) (full n f) (2 ^ n) (2 ^ suc n) (gather n (risen f)) (gather n f) (omega (arith, pow-suc 2 n)) (add_one n f)

pub risen_bit : (n : ℕ) (f : ℕ → Bool) (b : ℕ) → b < n → bit_at (gather n f + 1) b ≡ risen f b
risen_bit n f b h =
    ap (λ (x : ℕ). bit_at x b) (sym (add_one n f)) ∙ bit_below (gather n (risen f)) (bit (full n f)) b n h ∙ gather_bit n (risen f) b h

-- the code's next bit
after : (b : ℕ) → b + 1 ≡ suc b
after b = omega arith

-- ---- the comparison, row by row: the lowest b bits are compared

-- bit b of the count of line i
abbrev count_bit : List ℕ → ℕ → ℕ → Bool
count_bit words i b = line_at words (12 + b) i

pub record Comparing (words : List ℕ) (least : ℕ) (r : Row) (b : ℕ) : Type 0 where
  pub at : (i : ℕ) → i < 128 → row_at r i ≡ leb (gather b (bit_at least)) (gather b (count_bit words i))

pub comparing_none : {words : List ℕ} {least : ℕ} → Comparing words least every 0
comparing_none = record { at = λ i h. every_line i }

pub comparing_more : {words : List ℕ} {least b : ℕ} {r bits r' : Row} → Comparing words least r b → RowOf words (12 + b) bits
    → Compared bits (eqb (least / 2 ^ b % 2) 1) r r' → Comparing words least r' (b + 1)
unfolding bit_at
comparing_more {words} {least} {b} c o k =
    record {
      at = λ i l.
          k.at i
          ∙ ap₂ (λ (f x : Bool). cond (bit_at least b) (f && x) (f || x)) (o.at i l) (c.at i l)
          ∙ sym (compare_more b (bit_at least) (count_bit words i))
          ∙ ap (λ (n : ℕ). leb (gather n (bit_at least)) (gather n (count_bit words i))) (sym (after b));
    }

-- one less is reached where the number itself is one higher
one_higher : (n c : ℕ) (t : Bool) → leb n (c + 1) ≡ t → leb (n - 1) c ≡ t
one_higher n c true e = le-leb (n - 1) c (omega (arith, leb-true n (c + 1) e))
one_higher n c false e = lt-leb (n - 1) c (omega (arith, leb-false n (c + 1) e))

pub comparing_all : {words : List ℕ} {samples least b : ℕ} {r : Row} → samples < 256 → least ≡ samples - 1 → b ≡ 8
    → Comparing words least r b → Reached words samples r
comparing_all {words} {samples} {least} {b} {r} small e end c =
    record {
      at = λ i l.
          c.at i l
          ∙ ap (λ (n : ℕ). leb (gather n (bit_at least)) (gather n (count_bit words i))) end
          ∙ ap (λ (n : ℕ). leb n (count_at words i)) (gather_bits 8 least (omega (arith, e)) ∙ e)
          ∙ one_higher samples (count_at words i) (leb samples (count_at words i + 1)) refl;
    }

-- ---- the counts stored, row by row: the rows below 12 + b are as they will be

abbrev pub counting : List ℕ → Row → ℕ → ℕ → ℕ → Bool
counting words₀ counts b a i = cond (ltb a (12 + b)) (counted_at words₀ counts a i) (line_at words₀ a i)

module _ (words₀ : List ℕ) (counts : Row) where
  module _ (b : ℕ) (new : Row) (h : b < 8) (is : (i : ℕ) → i < 128 → row_at new i ≡ counted_at words₀ counts (12 + b) i) where
    more_by : (a i : ℕ) (t u v : Bool) → eqb a (12 + b) ≡ t → ltb a (12 + b) ≡ u → ltb a (12 + (b + 1)) ≡ v → i < 128
        → cond t (row_at new i) (cond u (counted_at words₀ counts a i) (line_at words₀ a i))
        ≡ cond v (counted_at words₀ counts a i) (line_at words₀ a i)
    more_by a i true u true et eu ev hi =
        is i hi ∙ ap (λ (x : ℕ). counted_at words₀ counts x i) (sym (eqb-true a (12 + b) et))
    more_by a i true u false et eu ev hi = absurd (omega (arith, eqb-true a (12 + b) et, ltb-false a (12 + (b + 1)) ev))
    more_by a i false true true et eu ev hi = refl
    more_by a i false true false et eu ev hi = absurd (omega (arith, ltb-true a (12 + b) eu, ltb-false a (12 + (b + 1)) ev))
    more_by a i false false true et eu ev hi =
        absurd (eqb-false a (12 + b) et (omega (arith, ltb-false a (12 + b) eu, ltb-true a (12 + (b + 1)) ev)))
    more_by a i false false false et eu ev hi = refl

    pub counting_more : {words out : List ℕ} → Lined words (counting words₀ counts b) → Lined out (row_set words (12 + b) new)
        → Lined out (counting words₀ counts (b + 1))
    unfolding row_set
    counting_more c o =
        record {
          count = o.count;
          lines = λ a i ha hi.
              o.lines a i ha hi ∙ ap (cond (eqb a (12 + b)) (row_at new i)) (c.lines a i ha hi)
              ∙ more_by a i (eqb a (12 + b)) (ltb a (12 + b)) (ltb a (12 + (b + 1))) refl refl refl hi;
        }

  -- the row that is still to be stored is as it was
  pub counting_row : {words : List ℕ} {b : ℕ} {bits : Row} → b < 8 → Lined words (counting words₀ counts b) → RowOf words (12 + b) bits
      → (i : ℕ) → i < 128 → row_at bits i ≡ count_bit words₀ i b
  counting_row {words} {b} {bits} h c o i l =
      o.at i l ∙ c.lines (12 + b) i (omega arith) l
      ∙ ap (λ (t : Bool). cond t (counted_at words₀ counts (12 + b) i) (count_bit words₀ i b)) (le-ltb (12 + b) (12 + b) (omega arith))

-- ---- the counts that rise: the carry into bit b

pub record Carried (words₀ : List ℕ) (counts carry : Row) (b : ℕ) : Type 0 where
  pub at : (i : ℕ) → i < 128 → row_at carry i ≡ row_at counts i && full b (count_bit words₀ i)

-- row 12 + b of the counts
count_row : (words : List ℕ) (counts : Row) (i b : ℕ) (t : Bool) → row_at counts i ≡ t → b < 8
    → counted_at words counts (12 + b) i ≡ t && risen (count_bit words i) b
count_row words counts i b t e h =
    ap (λ (x : Bool). cond x (line_at words (12 + b) i) (bit_at (cond (row_at counts i) (count_at words i + 1) 0) (12 + b - 12)))
    (le-ltb (12 + b) 12 (omega arith))
    ∙ ap₂ (λ (x : Bool) (k : ℕ). bit_at (cond x (count_at words i + 1) 0) k) e (omega arith) ∙ by t
  where
    by : (t : Bool) → bit_at (cond t (count_at words i + 1) 0) b ≡ t && risen (count_bit words i) b
    by true = risen_bit 8 (count_bit words i) b h
    by false = bit_zero b

-- the code's formulas
raised : (f t x : Bool) → flip f (t && x) && t ≡ t && flip f x
raised true true true = refl
raised true true false = refl
raised false true true = refl
raised false true false = refl
raised true false true = refl
raised true false false = refl
raised false false true = refl
raised false false false = refl

on : (f t x : Bool) → f && (t && x) ≡ t && (f && x)
on true true x = refl
on true false x = refl
on false true x = refl
on false false x = refl

module _ {words₀ : List ℕ} {counts carry : Row} (bits : Row) {b : ℕ} (k : Carried words₀ counts carry b) (h : b < 8)
    (o : (i : ℕ) → i < 128 → row_at bits i ≡ count_bit words₀ i b) where
  pub carried_row : {sum new : Row} → Joins flip bits carry sum → Joins ◌&&◌ sum counts new → (i : ℕ) → i < 128
      → row_at new i ≡ counted_at words₀ counts (12 + b) i
  carried_row s n i l =
      n.at i ∙ ap (λ (x : Bool). x && row_at counts i) (s.at i ∙ ap₂ flip (o i l) (k.at i l))
      ∙ raised (count_bit words₀ i b) (row_at counts i) (full b (count_bit words₀ i))
      ∙ sym (count_row words₀ counts i b (row_at counts i) refl h)

  pub carried_more : {next : Row} → Joins ◌&&◌ bits carry next → Carried words₀ counts next (b + 1)
  carried_more n =
      record {
        at = λ i l.
            n.at i ∙ ap₂ ◌&&◌ (o i l) (k.at i l) ∙ on (count_bit words₀ i b) (row_at counts i) (full b (count_bit words₀ i))
            ∙ ap (λ (n : ℕ). row_at counts i && full n (count_bit words₀ i)) (sym (after b));
      }

-- no count rises: the rows become 0

none_counted : (words : List ℕ) (a i : ℕ) (t u : Bool) → leb 12 a ≡ t → ltb a 12 ≡ u → a < 20
    → cond (t && ltb a 20) false (line_at words a i)
    ≡ cond u (line_at words a i) (bit_at (cond (row_at none i) (count_at words i + 1) 0) (a - 12))
none_counted words a i true true et eu h = absurd (omega (arith, leb-true 12 a et, ltb-true a 12 eu))
none_counted words a i true false et eu h = rw (lt-ltb a 20 h, no_line i) (sym (bit_zero (a - 12)))
none_counted words a i false true et eu h = refl
none_counted words a i false false et eu h = absurd (omega (arith, leb-false 12 a et, ltb-false a 12 eu))

pub cleared_counts : (words : List ℕ) {out : List ℕ} → Lined out (cleared words 12 20) → Lined out (counted_at words none)
unfolding cleared
cleared_counts words o =
    record { count = o.count; lines = λ a i ha hi. o.lines a i ha hi ∙ none_counted words a i (leb 12 a) (ltb a 12) refl refl ha }

-- what the check is told at `reached`
pub ruleset for_reached = (comparing_none, comparing_more, comparing_all)
