-- From the elements of the array to the mappings that they hold.
-- Assumes nothing.
use mathlib.Core.Path.{◌≡◌, refl, ap, ◌∙◌, sym}
use mathlib.Core.Bool.{Bool, true, false, cond}
use mathlib.Core.List.{List, [], ◌∷◌}
use Prim.Native.Nat.{ℕ, zero, suc, min, ◌+◌, ◌*◌, ◌-◌, ◌/◌, ◌%◌, ◌≤◌, ◌<◌}
use native.Mathlib.Nat.{zero-add}
use native.Mathlib.Omega.{arith}
use lib.Dec.{eqb}
use lib.ListN.{length, get_or, set, take, length-set}
use lib.Seq.{get_or-set_same, get_or-set_other, ext_get_or}
use borrow.Author.Tests.{eqb-true, eqb-false}
use Rattle.std.proofs.lemmas.List.{take_min}
use Rattle.profile.specs.Bytes.{list_from}
use Rattle.profile.specs.MappedEntries.{empty_mapping, moved, total}
use Rattle.profile.specs.Mapping.{read_mapping, write_mapping}
use Rattle.profile.proofs.ListLaws.{list_from_length, list_from_at, list_from_cong}
use Rattle.profile.proofs.MappedLaws.{moved_small}
use Rattle.channels.specs.View.{Zeroed}
use Rattle.channels.proofs.StoreLaws.{outside_none, outside_set}
use Rattle.mappings.specs.View.{place_of, mapping_at, MappingStored, InForce}

-- ---- a mapping read

pub read_is : (deltas : List ℕ) (m sub : ℕ) → sub ≤ 8 → read_mapping sub (mapping_at deltas m) ≡ get_or deltas (place_of m sub) 0
unfolding read_mapping
read_is deltas m sub h = by (eqb sub 0) refl
  where
    entry : ℕ → ℕ
    entry j = get_or deltas (place_of m (1 + j)) 0

    some : (sub : ℕ) → (sub ≡ 0 → ⊥) → sub ≤ 8 → sub - 1 < 8
    some sub ne h = omega arith

    next : (sub : ℕ) → (sub ≡ 0 → ⊥) → 1 + (0 + (sub - 1)) ≡ sub
    next sub ne = omega arith

    by : (t : Bool) → eqb sub 0 ≡ t → cond t (get_or deltas (place_of m 0) 0) (get_or (list_from 8 0 entry) (sub - 1) 0) ≡ get_or deltas
        (place_of m sub) 0
    by true e = ap (λ (s : ℕ). get_or deltas (place_of m s) 0) (sym (eqb-true sub 0 e))
    by false e =
        let ne = eqb-false sub 0 e in
        list_from_at 8 0 entry (sub - 1) 0 (some sub ne h) ∙ ap (λ (s : ℕ). get_or deltas (place_of m s) 0) (next sub ne)

-- ---- a mapping written

module _ (deltas : List ℕ) (m sub v : ℕ) (long : length deltas ≡ 128) (hm : m < 8) (hs : sub ≤ 8) where
  abbrev left : List ℕ
  left = set deltas (place_of m sub) v

  -- at another place
  else_at : (i s : ℕ) → (9 * i + s ≡ 9 * m + sub → ⊥) → get_or left (place_of i s) 0 ≡ get_or deltas (place_of i s) 0
  else_at i s ne = get_or-set_other deltas (place_of m sub) (place_of i s) v 0 (λ (e : place_of i s ≡ place_of m sub). ne (omega (arith, e)))

  here_at : get_or left (place_of m sub) 0 ≡ v
  here_at = get_or-set_same deltas (place_of m sub) v 0 (omega (arith, long))

  other : (i : ℕ) → (i ≡ m → ⊥) → mapping_at left i ≡ mapping_at deltas i
  other i ne =
      λ t. record {
        count = else_at i 0 (λ e. omega (arith, e, ne)) t;
        entries = list_from_cong 8 0 (λ j. get_or left (place_of i (1 + j)) 0) (λ j. get_or deltas (place_of i (1 + j)) 0)
            (λ j h. else_at i (1 + j) (λ e. omega (arith, e, h))) t;
      }

  written_count : (t : Bool) → eqb sub 0 ≡ t → get_or left (place_of m 0) 0 ≡ cond t v (get_or deltas (place_of m 0) 0)
  written_count true e = ap (λ (s : ℕ). get_or left (place_of m s) 0) (sym (eqb-true sub 0 e)) ∙ here_at
  written_count false e = let ne = eqb-false sub 0 e in else_at m 0 (λ q. ne (omega (arith, q)))

  abbrev entry : List ℕ → ℕ → ℕ
  entry d j = get_or d (place_of m (1 + j)) 0

  entry_by : (k : ℕ) (t : Bool) → eqb (1 + k) sub ≡ t → k < 8 → (sub ≡ 0 → ⊥)
      → entry left k ≡ get_or (set (list_from 8 0 (entry deltas)) (sub - 1) v) k 0
  entry_by k true e h ne =
      let q : 1 + k ≡ sub = eqb-true (1 + k) sub e in
      let p : sub - 1 ≡ k = omega (arith, q) in
      ap (λ (s : ℕ). get_or left (place_of m s) 0) q ∙ here_at
      ∙ sym (rw p (get_or-set_same (list_from 8 0 (entry deltas)) k v 0 (rw (list_from_length 8 0 (entry deltas)) h)))
  entry_by k false e h ne =
      let q : 1 + k ≡ sub → ⊥ = eqb-false (1 + k) sub e in
      else_at m (1 + k) (λ x. q (omega (arith, x)))
      ∙ sym (get_or-set_other (list_from 8 0 (entry deltas)) (sub - 1) k v 0 (λ (x : k ≡ sub - 1). q (omega (arith, x, ne)))
      ∙ list_from_at 8 0 (entry deltas) k 0 h ∙ ap (entry deltas) (zero-add k))

  written_entries : (t : Bool) → eqb sub 0 ≡ t
      → list_from 8 0 (entry left) ≡ cond t (list_from 8 0 (entry deltas)) (set (list_from 8 0 (entry deltas)) (sub - 1) v)
  written_entries true e =
      let z : sub ≡ 0 = eqb-true sub 0 e in
      list_from_cong 8 0 (entry left) (entry deltas) (λ j h. else_at m (1 + j) (λ x. omega (arith, x, z)))
  written_entries false e =
      let stored = set (list_from 8 0 (entry deltas)) (sub - 1) v in
      ext_get_or 0 (list_from 8 0 (entry left)) stored
      (list_from_length 8 0 (entry left) ∙ sym (length-set (list_from 8 0 (entry deltas)) (sub - 1) v ∙ list_from_length 8 0 (entry deltas)))
      (λ k h.
      let short : k < 8 = rw (list_from_length 8 0 (entry left)) at h in
      list_from_at 8 0 (entry left) k 0 short ∙ ap (entry left) (zero-add k) ∙ entry_by k (eqb (1 + k) sub) refl short (eqb-false sub 0 e))

  here : mapping_at left m ≡ write_mapping sub v (mapping_at deltas m)
  unfolding write_mapping
  here = λ t. record { count = written_count (eqb sub 0) refl t; entries = written_entries (eqb sub 0) refl t }

  by_place : (i : ℕ) (t : Bool) → eqb i m ≡ t → mapping_at left i ≡ cond t (write_mapping sub v (mapping_at deltas i)) (mapping_at deltas i)
  by_place i true e = rw (eqb-true i m e) here
  by_place i false e = other i (eqb-false i m e)

  pub mapping_stored : MappingStored m sub v deltas left
  mapping_stored =
      record {
        mappings = λ i h. by_place i (eqb i m) refl;
        deltas_kept = outside_set (place_of m sub) v (omega arith) (omega (arith, hm, hs)) outside_none;
      }

-- ---- every mapping emptied

pub emptied_all : {b : ℕ} {deltas deltas' : List ℕ} → 120 ≤ b → Zeroed 48 b deltas deltas' → (i : ℕ) → i < 8
    → mapping_at deltas' i ≡ empty_mapping
emptied_all {b} {deltas} {deltas'} h z i l =
    λ t. record {
      count = z.zeros (place_of i 0) (omega arith) (omega (arith, h, l)) t;
      entries = list_from_cong 8 0 (λ j. get_or deltas' (place_of i (1 + j)) 0) (λ j. 0)
          (λ j s. z.zeros (place_of i (1 + j)) (omega arith) (omega (arith, h, l, s))) t;
    }

-- ---- the entries in force

pub eight_entries : (deltas : List ℕ) (m : ℕ) → length (mapping_at deltas m).entries ≡ 8
eight_entries deltas m = list_from_length 8 0 (λ j. get_or deltas (place_of m (1 + j)) 0)

-- at most eight are in force
pub at_most_eight : (deltas : List ℕ) (m n : ℕ) → n ≡ min (mapping_at deltas m).count 8 → InForce deltas m n
at_most_eight deltas m n e =
    record { few = omega (arith, e); are = ap (λ (k : ℕ). take k (mapping_at deltas m).entries) e ∙ all (mapping_at deltas m).count }
  where
    all : (k : ℕ) → take (min k 8) (mapping_at deltas m).entries ≡ take k (mapping_at deltas m).entries
    all k = ap (λ (n : ℕ). take (min k n) (mapping_at deltas m).entries) (sym (eight_entries deltas m)) ∙ take_min k (mapping_at deltas m).entries

-- ---- the bytes that entries move

pub record Summed (m : ℕ) (entries : List ℕ) (j r : ℕ) : Type 0 where
  pub is : r ≡ total m (take j entries)
  pub small : r ≤ 31 * j
  pub within : j ≤ length entries

take_total : (m : ℕ) (xs : List ℕ) (j : ℕ) → j < length xs → total m (take (suc j) xs) ≡ total m (take j xs) + moved m (get_or xs j 0)
take_total m [] j h = absurd (omega arith)
take_total m (x ∷ xs) zero h = swap (moved m x)
  where
    swap : (a : ℕ) → a + 0 ≡ 0 + a
    swap a = omega arith
take_total m (x ∷ xs) (suc j) h = ap (λ (n : ℕ). moved m x + n) (take_total m xs j (omega arith)) ∙ sums (moved m x) _ _
  where
    sums : (a b c : ℕ) → a + (b + c) ≡ a + b + c
    sums a b c = omega arith

pub summed_more : {m : ℕ} {entries : List ℕ} {j r : ℕ} → Summed m entries j r → j < length entries
    → Summed m entries (j + 1) (r + moved m (get_or entries j 0))
summed_more {m} {entries} {j} {r} s h =
    record {
      is = ap (λ (n : ℕ). n + moved m (get_or entries j 0)) s.is ∙ sym
          (ap (λ (n : ℕ). total m (take n entries)) (one j) ∙ take_total m entries j h);
      small = omega (arith, s.small, moved_small m (get_or entries j 0));
      within = omega arith;
    }
  where
    one : (j : ℕ) → j + 1 ≡ suc j
    one j = omega arith

-- ---- the mappings are the array from element 48 on

-- number i is that of a sub-index of a mapping
number_is : (i : ℕ) → 48 + i ≡ place_of (i / 9) (i % 9)
number_is i = omega arith

pub same_mappings : (xs ys : List ℕ) → ((m : ℕ) → m < 8 → mapping_at xs m ≡ mapping_at ys m) → (i : ℕ) → i < 72
    → get_or xs (48 + i) 0 ≡ get_or ys (48 + i) 0
same_mappings xs ys same i h =
    let m = i / 9 in
    let sub = i % 9 in
    let in-nine : sub ≤ 8 = omega arith in
    ap (λ (k : ℕ). get_or xs k 0) (number_is i)
    ∙ sym (read_is xs m sub in-nine) ∙ ap (read_mapping sub) (same m (omega arith)) ∙ read_is ys m sub in-nine
    ∙ ap (λ (k : ℕ). get_or ys k 0) (sym (number_is i))
