-- Laws of whole rows, and of masked writes.
-- Assumes nothing.
use mathlib.Core.Path.{◌≡◌, refl, sym, ap, ap₂, ◌∙◌}
use mathlib.Core.Bool.{Bool, true, false, not, cond, ◌&&◌, ◌||◌, and-false, and-true, or-false}
use mathlib.Core.List.{List}
use Prim.Native.Nat.{ℕ, ◌+◌, ◌-◌, ◌*◌, ◌/◌, ◌%◌, ◌^◌, ◌≤◌, ◌<◌}
use native.Mathlib.Nat.{mod-lt, zero-lt-suc, lt_of_lt_of_le}
use native.Mathlib.Omega.{arith}
use lib.Pow.{pow_mono}
use lib.Dec.{eqb, ltb, leb}
use lib.ListN.{length, get_or, set, length-set}
use lib.Seq.{get_or-set_same, get_or-set_other}
use lib.Bits.{bit_and, bit_or, bit_xor}
use borrow.Author.Tests.{lt-ltb, le-ltb, ltb-true, ltb-false, leb-true, leb-false, eqb-true, eqb-false}
use Rattle.profile.specs.Bits.{bit_at, flip}
use Rattle.profile.specs.Entries.{inside, bit_of}
use Rattle.profile.proofs.BoolLaws.{both}
use Rattle.profile.proofs.BitLaws.{bit_and_lem, bit_or_lem, bit_xor_lem, bit_not, bit_ones, bit_zero}
use Rattle.windows.specs.declared.Row.{Row}
use Rattle.windows.specs.View.{line_at, row_at, is_empty, window}
use Rattle.windows.specs.Promises.{Lined, written, masked, row_set, cleared, RowOf, Joins, Inverts, Picks}
use Rattle.windows.proofs.WindowLaws.{window_bit, window_small, bit_low}

-- ---- operations on whole rows

cond_op : (f : Bool → Bool → Bool) (t p q x y : Bool) → cond t (f p x) (f q y) ≡ f (cond t p q) (cond t x y)
cond_op f true p q x y = refl
cond_op f false p q x y = refl

-- an operation on words with a law at each bit has that law at each line of a row
pub row_op : (op : ℕ → ℕ → ℕ) (f : Bool → Bool → Bool) → ((a b i : ℕ) → bit_at (op a b) i ≡ f (bit_at a i) (bit_at b i))
    → (x y : Row) → Joins f x y (record { low = op x.low y.low; high = op x.high y.high })
unfolding row_at
row_op op f law x y =
    record {
      at = λ i.
          ap₂ (cond (ltb i 64)) (law x.low y.low (i % 64)) (law x.high y.high (i % 64))
          ∙ cond_op f (ltb i 64) _ _ _ _;
    }

pub row_and : (x y : Row) → Joins ◌&&◌ x y (record { low = bit_and x.low y.low; high = bit_and x.high y.high })
row_and = row_op bit_and ◌&&◌ bit_and_lem

pub row_or : (x y : Row) → Joins ◌||◌ x y (record { low = bit_or x.low y.low; high = bit_or x.high y.high })
row_or = row_op bit_or ◌||◌ bit_or_lem

pub row_xor : (x y : Row) → Joins flip x y (record { low = bit_xor x.low y.low; high = bit_xor x.high y.high })
row_xor = row_op bit_xor flip bit_xor_lem

cond_not : (t p q : Bool) → cond t (not p) (not q) ≡ not (cond t p q)
cond_not true p q = refl
cond_not false p q = refl

pub row_not : (x : Row) → x.low < 2 ^ 64 → x.high < 2 ^ 64 → Inverts x (record { low = 2 ^ 64 - 1 - x.low; high = 2 ^ 64 - 1 - x.high })
unfolding row_at
row_not x hl hh =
    record {
      at = λ i.
          ap₂ (cond (ltb i 64)) (bit_not 64 x.low (i % 64) hl (mod-lt i (zero-lt-suc 63)))
          (bit_not 64 x.high (i % 64) hh (mod-lt i (zero-lt-suc 63)))
          ∙ cond_not (ltb i 64) _ _;
    }

mux : (c a b : Bool) → (b && not c) || (a && c) ≡ cond c a b
mux true a b = ap₂ ◌||◌ (and-false b) (and-true a)
mux false a b = ap₂ ◌||◌ (and-true b) (and-false a) ∙ or-false b

pub row_pick : {c a b else kept taken r : Row} → Inverts c else → Joins ◌&&◌ b else kept → Joins ◌&&◌ a c taken
    → Joins ◌||◌ kept taken r → Picks c a b r
row_pick {c} {a} {b} e k t r =
    record {
      at = λ i.
          r.at i ∙ ap₂ ◌||◌ (k.at i ∙ ap (λ (x : Bool). row_at b i && x) (e.at i)) (t.at i)
          ∙ mux (row_at c i) (row_at a i) (row_at b i);
    }

-- a bit of one word or of another, as a bit of a third decides
abbrev pub pick_word : ℕ → ℕ → ℕ → ℕ → ℕ
pick_word width c a b = bit_or (bit_and b (2 ^ width - 1 - c)) (bit_and a c)

bit_pick : (width c a b i : ℕ) → c < 2 ^ width → i < width → bit_at (pick_word width c a b) i ≡ cond (bit_at c i) (bit_at a i) (bit_at b i)
bit_pick width c a b i hc hi =
    bit_or_lem _ _ i
    ∙ ap₂ ◌||◌ (bit_and_lem b _ i ∙ ap (λ (x : Bool). bit_at b i && x) (bit_not width c i hc hi)) (bit_and_lem a c i)
    ∙ mux (bit_at c i) (bit_at a i) (bit_at b i)

-- ---- the row of all lines, and of none

same : (t b : Bool) → cond t b b ≡ b
same true b = refl
same false b = refl

abbrev pub every : Row
every = record { low = 2 ^ 64 - 1; high = 2 ^ 64 - 1 }

abbrev pub none : Row
none = record { low = 0; high = 0 }

pub every_line : (i : ℕ) → row_at every i ≡ true
unfolding row_at
every_line i =
    same (ltb i 64) (bit_at (2 ^ 64 - 1) (i % 64)) ∙ bit_ones 64 (i % 64) ∙ lt-ltb (i % 64) 64 (mod-lt i (zero-lt-suc 63))

pub no_line : (i : ℕ) → row_at none i ≡ false
unfolding row_at
no_line i = same (ltb i 64) (bit_at 0 (i % 64)) ∙ bit_zero (i % 64)

pub empty_line : (r : Row) → is_empty r ≡ true → (i : ℕ) → row_at r i ≡ false
unfolding row_at
empty_line r e i =
    let zero = both (eqb r.low 0) (eqb r.high 0) e in
    ap₂ (λ (l h : ℕ). cond (ltb i 64) (bit_at l (i % 64)) (bit_at h (i % 64))) (eqb-true r.low 0 zero.0)
    (eqb-true r.high 0 zero.1)
    ∙ no_line i

-- ---- a row of the device

row_by : (words : List ℕ) (a i : ℕ) (t : Bool) → i < 128 → ltb i 64 ≡ t
    → cond t (bit_at (get_or words (2 * a) 0) (i % 64)) (bit_at (get_or words (2 * a + 1) 0) (i % 64)) ≡ line_at words a i
unfolding line_at
row_by words a i true hi e =
    let h : i < 64 = ltb-true i 64 e in ap (λ (x : ℕ). bit_at (get_or words x 0) (i % 64)) (omega arith)
row_by words a i false hi e =
    let h : 64 ≤ i = ltb-false i 64 e in ap (λ (x : ℕ). bit_at (get_or words x 0) (i % 64)) (omega arith)

pub row_read : (words : List ℕ) (a : ℕ) → RowOf words a (record { low = get_or words (2 * a) 0; high = get_or words (2 * a + 1) 0 })
unfolding row_at
row_read words a = record { at = λ i h. row_by words a i (ltb i 64) h refl }

-- one word stored: the lines of that word
word_write : (words : List ℕ) (n x a i : ℕ) (t : Bool) → n < length words → eqb (2 * a + i / 64) n ≡ t
    → line_at (set words n x) a i ≡ cond t (bit_at x (i % 64)) (line_at words a i)
unfolding line_at
word_write words n x a i true h e =
    let same : 2 * a + i / 64 ≡ n = eqb-true (2 * a + i / 64) n e in
    ap (λ (y : ℕ). bit_at y (i % 64)) (rw same (get_or-set_same words n x 0 h))
word_write words n x a i false h e =
    ap (λ (y : ℕ). bit_at y (i % 64)) (get_or-set_other words n _ x 0 (eqb-false (2 * a + i / 64) n e))

-- two words stored at 2a and 2a + 1, by three tests
set_by : (words : List ℕ) (r : Row) (a a' i : ℕ) (t u v : Bool) → a < 20 → i < 128
    → eqb (2 * a' + i / 64) (2 * a + 1) ≡ t → eqb (2 * a' + i / 64) (2 * a) ≡ u → eqb a' a ≡ v
    → cond t (bit_at r.high (i % 64)) (cond u (bit_at r.low (i % 64)) (line_at words a' i))
    ≡ cond v (cond (ltb i 64) (bit_at r.low (i % 64)) (bit_at r.high (i % 64))) (line_at words a' i)
set_by words r a a' i true u true ha hi ht hu hv =
    let s : 2 * a' + i / 64 ≡ 2 * a + 1 = eqb-true (2 * a' + i / 64) (2 * a + 1) ht in
    let k : a' ≡ a = eqb-true a' a hv in
    ap (λ (z : Bool). cond z (bit_at r.low (i % 64)) (bit_at r.high (i % 64))) (sym (le-ltb i 64 (omega arith)))
set_by words r a a' i true u false ha hi ht hu hv =
    let s : 2 * a' + i / 64 ≡ 2 * a + 1 = eqb-true (2 * a' + i / 64) (2 * a + 1) ht in
    absurd (eqb-false a' a hv (omega arith))
set_by words r a a' i false true true ha hi ht hu hv =
    let s : 2 * a' + i / 64 ≡ 2 * a = eqb-true (2 * a' + i / 64) (2 * a) hu in
    let k : a' ≡ a = eqb-true a' a hv in
    ap (λ (z : Bool). cond z (bit_at r.low (i % 64)) (bit_at r.high (i % 64))) (sym (lt-ltb i 64 (omega arith)))
set_by words r a a' i false true false ha hi ht hu hv =
    let s : 2 * a' + i / 64 ≡ 2 * a = eqb-true (2 * a' + i / 64) (2 * a) hu in
    absurd (eqb-false a' a hv (omega arith))
set_by words r a a' i false false true ha hi ht hu hv =
    let s : 2 * a' + i / 64 ≡ 2 * a + 1 → ⊥ = eqb-false (2 * a' + i / 64) (2 * a + 1) ht in
    let n : 2 * a' + i / 64 ≡ 2 * a → ⊥ = eqb-false (2 * a' + i / 64) (2 * a) hu in
    let k : a' ≡ a = eqb-true a' a hv in
    absurd (omega arith)
set_by words r a a' i false false false ha hi ht hu hv = refl

pub row_write : (words : List ℕ) (a : ℕ) (r : Row) → length words ≡ 40 → a < 20
    → Lined (set (set words (2 * a) r.low) (2 * a + 1) r.high) (row_set words a r)
unfolding row_set row_at
row_write words a r len ha =
    record {
      count = length-set (set words (2 * a) r.low) _ _ ∙ length-set words _ _ ∙ len;
      lines = λ a' i ha' hi.
          word_write (set words (2 * a) r.low) (2 * a + 1) r.high a' i (eqb (2 * a' + i / 64) (2 * a + 1))
          (rw length-set (omega arith)) refl
          ∙ ap (cond (eqb (2 * a' + i / 64) (2 * a + 1)) (bit_at r.high (i % 64)))
          (word_write words (2 * a) r.low a' i (eqb (2 * a' + i / 64) (2 * a)) (omega arith) refl)
          ∙ set_by words r a a' i (eqb (2 * a' + i / 64) (2 * a + 1)) (eqb (2 * a' + i / 64) (2 * a)) (eqb a' a) ha hi refl refl refl;
    }

-- ---- rows that become 0

pub clearing_none : (words : List ℕ) (from : ℕ) → length words ≡ 40 → Lined words (cleared words from from)
unfolding cleared
clearing_none words from len = record { count = len; lines = λ a i ha hi. by a i (leb from a) (ltb a from) refl refl }
  where
    by : (a i : ℕ) (t u : Bool) → leb from a ≡ t → ltb a from ≡ u → line_at words a i ≡ cond (t && u) false (line_at words a i)
    by a i true true et eu = absurd (omega (arith, leb-true from a et, ltb-true a from eu))
    by a i true false et eu = refl
    by a i false u et eu = refl

clear_by : (from b a : ℕ) (x t u v w : Bool) → from ≤ b → eqb a b ≡ t → leb from a ≡ u → ltb a b ≡ v → ltb a (b + 1) ≡ w
    → cond t false (cond (u && v) false x) ≡ cond (u && w) false x
clear_by from b a x true true v true h et eu ev ew = refl
clear_by from b a x true true v false h et eu ev ew = absurd (omega (arith, eqb-true a b et, ltb-false a (b + 1) ew))
clear_by from b a x true false v w h et eu ev ew = absurd (omega (arith, eqb-true a b et, leb-false from a eu))
clear_by from b a x false true true true h et eu ev ew = refl
clear_by from b a x false true true false h et eu ev ew = absurd (omega (arith, ltb-true a b ev, ltb-false a (b + 1) ew))
clear_by from b a x false true false true h et eu ev ew =
    absurd (eqb-false a b et (omega (arith, ltb-false a b ev, ltb-true a (b + 1) ew)))
clear_by from b a x false true false false h et eu ev ew = refl
clear_by from b a x false false v w h et eu ev ew = refl

pub clearing_more : (words : List ℕ) (from b : ℕ) {now out : List ℕ} → from ≤ b → Lined now (cleared words from b)
    → Lined out (row_set now b none) → Lined out (cleared words from (b + 1))
unfolding cleared row_set
clearing_more words from b h c o =
    record {
      count = o.count;
      lines = λ a i ha hi.
          o.lines a i ha hi
          ∙ ap₂ (cond (eqb a b)) (no_line i) (c.lines a i ha hi)
          ∙ clear_by from b a (line_at words a i) (eqb a b) (leb from a) (ltb a b) (ltb a (b + 1)) h refl refl refl refl;
    }

-- ---- a masked write through a window

module _ (words : List ℕ) (a m w s v : ℕ) (narrow : w ≤ 32) where
  abbrev gated : ℕ
  gated = pick_word 32 (window words m w s) v (window words a w s)

  masked_by : (a' i : ℕ) (t u : Bool) → eqb a' a ≡ t → inside w s i ≡ u
      → cond (t && u) (bit_at gated (bit_of w s i)) (line_at words a' i)
      ≡ cond (t && u && line_at words m i) (bit_at v (bit_of w s i)) (line_at words a' i)
  masked_by a' i true true ht hu =
      bit_pick 32 (window words m w s) v (window words a w s) (bit_of w s i)
      (lt_of_lt_of_le (window_small words m w s) (pow_mono narrow)) (lt_of_lt_of_le (bit_low w s i hu) narrow)
      ∙ ap₂ (λ (x y : Bool). cond x (bit_at v (bit_of w s i)) y) (window_bit words m w s i hu)
      (window_bit words a w s i hu ∙ ap (λ (x : ℕ). line_at words x i) (sym (eqb-true a' a ht)))
  masked_by a' i true false ht hu = refl
  masked_by a' i false u ht hu = refl

  pub masked_write : {out : List ℕ} {kept mask : ℕ} → kept ≡ window words a w s → mask ≡ window words m w s
      → Lined out (written words a w s (pick_word 32 mask v kept)) → Lined out (masked words a m w s v)
  unfolding written masked
  masked_write ek em o =
      record {
        count = o.count;
        lines = λ a' i ha hi.
            o.lines a' i ha hi
            ∙ ap₂ (λ (x y : ℕ). cond (eqb a' a && inside w s i) (bit_at (pick_word 32 x v y) (bit_of w s i)) (line_at words a' i)) em ek
            ∙ masked_by a' i (eqb a' a) (inside w s i) refl refl;
      }
