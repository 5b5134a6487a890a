-- What milliseconds make of an entry, by the tests of the code on its count.
-- Assumes nothing.
use mathlib.Core.Path.{◌≡◌, refl, sym}
use mathlib.Core.Bool.{Bool, true, false, not, cond, ◌&&◌, ◌||◌, true≢false}
use Prim.Native.Nat.{ℕ, min, ◌+◌, ◌-◌, ◌%◌, ◌<◌}
use native.Mathlib.Omega.{arith}
use lib.Dec.{eqb, ltb, leb}
use borrow.Author.Tests.{eqb-false, ltb-true, ltb-false, leb-false, le-leb, lt-leb, ne_eqb}
use Rattle.profile.specs.WatchEntries.{waiting, time_in}
use Rattle.profile.specs.Watch.{expires, take_time}
use Rattle.watches.specs.View.{entry_of}

-- the sum that the code makes is the largest u32 where it would pass that, and each time is below it
module _ (value count t sum : ℕ) (is : sum ≡ min (count + t) 4294967295) where
  pub expires_by : (time : ℕ) → time ≡ time_in value → not (eqb count 0) && ltb time sum ≡ expires t (entry_of value count)
  unfolding expires time_in
  expires_by time e = by (eqb count 0) (ltb time sum) refl refl
    where
      by : (z p : Bool) → eqb count 0 ≡ z → ltb time sum ≡ p → not z && p ≡ not z && leb (value % 65536) (count - 1 + t)
      by true p a b = refl
      by false true a b =
          let ne = eqb-false count 0 a in
          let l = ltb-true time sum b in
          sym (le-leb (value % 65536) (count - 1 + t) (omega (arith, is, e, ne, l)))
      by false false a b =
          let ne = eqb-false count 0 a in
          let l = ltb-false time sum b in
          sym (lt-leb (value % 65536) (count - 1 + t) (omega (arith, is, e, ne, l)))

  pub passed_by : eqb count 0 || expires t (entry_of value count) ≡ false → entry_of value sum ≡ take_time t (entry_of value count)
  unfolding expires time_in take_time
  passed_by h = by (eqb count 0) (leb (value % 65536) (count - 1 + t)) refl refl h
    where
      counts : count - 1 + t < value % 65536 → (count ≡ 0 → ⊥)
          → entry_of value sum ≡ record { value = value; started = true; sum = count - 1 + t }
      counts l ne =
          let goes-on : sum ≡ 0 → ⊥ = λ (e : sum ≡ 0). omega (arith, is, e, ne, l) in
          let exact : sum - 1 ≡ count - 1 + t = omega (arith, is, ne, l) in
          λ i. record { value = value; started = not (ne_eqb sum 0 goes-on i); sum = exact i }

      by : (z p : Bool) → eqb count 0 ≡ z → leb (value % 65536) (count - 1 + t) ≡ p → z || (not z && p) ≡ false
          → entry_of value sum
          ≡ cond (not z && p) (waiting value)
          (cond (not z) (record { value = value; started = true; sum = count - 1 + t }) (entry_of value count))
      by true p a b k = absurd (true≢false k)
      by false true a b k = absurd (true≢false k)
      by false false a b k = counts (leb-false (value % 65536) (count - 1 + t) b) (eqb-false count 0 a)
