-- From the elements of the array to the entries of the watch that they hold.
-- Assumes nothing.
use mathlib.Core.Path.{◌≡◌, refl, ap, ap₂, ◌∙◌, sym}
use mathlib.Core.Bool.{Bool, true, false, not, cond}
use mathlib.Core.List.{List}
use Prim.Native.Nat.{ℕ, ◌+◌, ◌-◌, ◌≤◌, ◌<◌}
use native.Mathlib.Nat.{zero-add}
use native.Mathlib.Omega.{arith}
use lib.Dec.{eqb, ltb}
use lib.ListN.{length, get_or, set, length-set}
use lib.Seq.{get_or-set_same, get_or-set_other, ext_get_or}
use borrow.Author.Tests.{eqb-true, eqb-false, ltb-true, ltb-false}
use Rattle.profile.specs.WatchEntries.{Watch, waiting, empty_watches, watch_at}
use Rattle.profile.specs.Watch.{write_watch}
use Rattle.profile.proofs.ListLaws.{list_from_at, list_from_cong}
use Rattle.channels.specs.View.{Zeroed}
use Rattle.channels.proofs.StoreLaws.{outside_none, outside_set, two_first, two_second, two_other}
use Rattle.watches.specs.View.{entry_of, entry_at, watches_of, WatchesLeft}

-- ---- an entry read

pub at_entry : (deltas : List ℕ) (n : ℕ) → n < 4 → watch_at (watches_of deltas) n ≡ entry_at deltas n
at_entry deltas n h = list_from_at 4 0 (entry_at deltas) n (waiting 0) h ∙ ap (entry_at deltas) (zero-add n)

pub value_is : (deltas : List ℕ) (n : ℕ) → n < 4 → (watch_at (watches_of deltas) n).value ≡ get_or deltas (120 + n) 0
value_is deltas n h = ap (λ (w : Watch). w.value) (at_entry deltas n h)

-- ---- an entry written

module _ (deltas : List ℕ) (n v : ℕ) (long : length deltas ≡ 128) (h : n < 4) where
  abbrev left : List ℕ
  left = set (set deltas (120 + n) v) (124 + n) 0

  here : entry_at left n ≡ waiting v
  here =
      ap₂ entry_of
      (two_first deltas (120 + n) (124 + n) v 0 0 (λ e. omega (arith, e)) (omega (arith, long, h)))
      (two_second deltas (120 + n) (124 + n) v 0 0 (omega (arith, long, h)))

  other : (k : ℕ) → k < 4 → (k ≡ n → ⊥) → entry_at left k ≡ entry_at deltas k
  other k l ne =
      ap₂ entry_of
      (two_other deltas (120 + n) (124 + n) v 0 0 (120 + k) (λ e. ne (omega (arith, e))) (λ e. omega (arith, e, l)))
      (two_other deltas (120 + n) (124 + n) v 0 0 (124 + k) (λ e. omega (arith, e, h)) (λ e. ne (omega (arith, e))))

  by_place : (k : ℕ) (t : Bool) → eqb k n ≡ t → k < 4 → entry_at left k ≡ watch_at (write_watch n v (watches_of deltas)) k
  by_place k true e l =
      let q : k ≡ n = eqb-true k n e in
      let after = write_watch n v (watches_of deltas) in
      ap (entry_at left) q ∙ here ∙ sym (ap (watch_at after) q ∙ get_or-set_same (watches_of deltas) n (waiting v) (waiting 0) h)
  by_place k false e l =
      let ne = eqb-false k n e in
      other k l ne ∙ sym (get_or-set_other (watches_of deltas) n k (waiting v) (waiting 0) ne ∙ at_entry deltas k l)

  pub watch_written : WatchesLeft (write_watch n v (watches_of deltas)) deltas left
  watch_written =
      record {
        watches =
            ext_get_or (waiting 0) (watches_of left) (write_watch n v (watches_of deltas))
            (sym (length-set (watches_of deltas) n (waiting v)))
            (λ k l. at_entry left k l ∙ by_place k (eqb k n) refl l);
        deltas_kept =
            outside_set (124 + n) 0 (omega arith) (omega (arith, h))
            (outside_set (120 + n) v (omega arith) (omega (arith, h)) outside_none);
      }

-- ---- every entry emptied

pub watches_emptied : {a : ℕ} {deltas deltas' : List ℕ} → a ≤ 120 → Zeroed a 128 deltas deltas' → watches_of deltas' ≡ empty_watches
watches_emptied {a} {deltas} {deltas'} h z =
    list_from_cong 4 0 (entry_at deltas') (λ j. waiting 0)
    (λ j l. ap₂ entry_of (z.zeros (120 + j) (omega arith) (omega (arith, l))) (z.zeros (124 + j) (omega arith) (omega (arith, l))))

-- ---- the entries are the array from element 120 on

pub watches_kept : (deltas deltas' : List ℕ) → ((k : ℕ) → 120 ≤ k → k < 128 → get_or deltas' k 0 ≡ get_or deltas k 0)
    → watches_of deltas' ≡ watches_of deltas
watches_kept deltas deltas' same =
    list_from_cong 4 0 (entry_at deltas') (entry_at deltas)
    (λ j l. ap₂ entry_of (same (120 + j) (omega arith) (omega (arith, l))) (same (124 + j) (omega arith) (omega (arith, l))))

-- the count of an entry
count_of : Watch → ℕ
count_of w = cond w.started (w.sum + 1) 0

count_is : (v c : ℕ) → count_of (entry_of v c) ≡ c
unfolding count_of
count_is v c = by (eqb c 0) refl
  where
    by : (t : Bool) → eqb c 0 ≡ t → cond (not t) (c - 1 + 1) 0 ≡ c
    by true e = sym (eqb-true c 0 e)
    by false e = let ne = eqb-false c 0 e in omega (arith, ne)

pub same_watches : (xs ys : List ℕ) → watches_of xs ≡ watches_of ys → (i : ℕ) → i < 8 → get_or xs (120 + i) 0 ≡ get_or ys (120 + i) 0
same_watches xs ys same i h = by (ltb i 4) refl
  where
    entries : (n : ℕ) → n < 4 → entry_at xs n ≡ entry_at ys n
    entries n l = sym (at_entry xs n l) ∙ ap (λ (ws : List Watch). watch_at ws n) same ∙ at_entry ys n l

    counts : (n : ℕ) → n < 4 → get_or xs (124 + n) 0 ≡ get_or ys (124 + n) 0
    counts n l = sym (count_is (get_or xs (120 + n) 0) (get_or xs (124 + n) 0)) ∙ ap count_of (entries n l)
        ∙ count_is (get_or ys (120 + n) 0) (get_or ys (124 + n) 0)

    count_at : 4 ≤ i → 124 + (i - 4) ≡ 120 + i
    count_at l = omega arith

    by : (t : Bool) → ltb i 4 ≡ t → get_or xs (120 + i) 0 ≡ get_or ys (120 + i) 0
    by true e = ap (λ (w : Watch). w.value) (entries i (ltb-true i 4 e))
    by false e =
        let l = ltb-false i 4 e in
        ap (λ (k : ℕ). get_or xs k 0) (sym (count_at l)) ∙ counts (i - 4) (omega (arith, h, l)) ∙ ap (λ (k : ℕ). get_or ys k 0) (count_at l)
