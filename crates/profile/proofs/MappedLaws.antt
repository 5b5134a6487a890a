-- An entry of a mapping that moves something: it is there, of at least one byte, and a write of as many bytes is accepted.
-- Assumes nothing.
use mathlib.Core.Path.{◌≡◌, refl, ap}
use mathlib.Core.Bool.{Bool, true, false, not, cond, ◌||◌, ◌&&◌, false≢true}
use Prim.Native.Nat.{ℕ, ◌*◌, ◌/◌, ◌%◌, ◌≤◌}
use native.Mathlib.Omega.{arith}
use lib.Dec.{eqb, leb}
use borrow.Author.Tests.{eqb-true, leb-true, ne_eqb}
use Rattle.profile.specs.Entries.{Entry}
use Rattle.profile.specs.declared.Home.{Home}
use Rattle.profile.specs.declared.Home.TheVariants.{Constant, Window, InputChannel, OutputChannel, Sources, Device, MappingEntry, WatchEntry}
use Rattle.profile.specs.MappedEntries.{receives, index_of, sub_of, bits_of, mapped_entry, mappable, moves, moved}
use Rattle.profile.proofs.BoolLaws.{both}
use Rattle.profile.proofs.EntryRanges.{InRange, in_range}

-- ---- the entry of what moves

pub record Moving (m v : ℕ) : Type 0 where
  pub mapped : mappable m (mapped_entry v).home ≡ true
  pub length_is : bits_of v ≡ 8 * (mapped_entry v).size
  pub size_is : moved m v ≡ (mapped_entry v).size

pub moving : (m v : ℕ) → moves m v ≡ true → Moving m v
unfolding moves moved
moving m v h =
    let q = both (mappable m (mapped_entry v).home) (eqb (bits_of v) (8 * (mapped_entry v).size)) h in
    record {
      mapped = q.0;
      length_is = eqb-true (bits_of v) (8 * (mapped_entry v).size) q.1;
      size_is = ap (λ (b : Bool). cond b (mapped_entry v).size 0) h;
    }

-- a home that is mappable, as a window or a channel
pub wide : (w : ℕ) → 8 ≤ w → eqb w 1 ≡ false
wide w h = ne_eqb w 1 (λ e. omega arith)

-- both of a pair of tests after which none passes
pub left_both : (a b : Bool) → (a && b) || false ≡ true → (a ≡ true) × (b ≡ true)
left_both true true e = (refl, refl)
left_both true false e = absurd (false≢true e)
left_both false b e = absurd (false≢true e)

pub input_index : (m index n : ℕ) → mappable m (InputChannel index n) ≡ true → (not (receives m) ≡ true) × (index ≡ 0x6401)
input_index m index n h =
    let q = both (not (receives m)) (eqb index 0x6401) h in
    (q.0, eqb-true index 0x6401 q.1)

pub output_index : (m index n : ℕ) → mappable m (OutputChannel index n) ≡ true → (receives m ≡ true) × (index ≡ 0x6411)
output_index m index n h =
    let q = left_both (receives m) (eqb index 0x6411) h in
    (q.0, eqb-true index 0x6411 q.1)

module _ (m : ℕ) (e : Entry) where
  -- it has at least one byte, and is there
  pub record Present : Type 0 where
    pub there : e.absent ≡ 0
    pub some : 1 ≤ e.size

  eighth : (w : ℕ) → 8 ≤ w → 1 ≤ w / 8
  eighth w h = omega arith

  present : (h : Home) → InRange e h → mappable m h ≡ true → Present
  present (Constant v) r p = absurd (false≢true p)
  present (Window row w s) r p =
      let h = leb-true 8 w (left_both (eqb row (cond (receives m) 6 0)) (leb 8 w) p).1 in
      record { there = r.there; some = rw (r.size_is, wide w h) (eighth w h) }
  present (InputChannel index n) r p =
      record { there = r.2; some = rw (r.1, (input_index m index n p).1) (omega arith) }
  present (OutputChannel index n) r p =
      record { there = r.3.there; some = rw (r.1, (output_index m index n p).1) (omega arith) }
  present Sources r p = absurd (false≢true p)
  present (Device index) r p = absurd (false≢true p)
  present (MappingEntry j sub) r p = absurd (false≢true p)
  present (WatchEntry n) r p = absurd (false≢true p)

pub moving_present : (m v : ℕ) → moves m v ≡ true → Present m (mapped_entry v)
moving_present m v h = present m (mapped_entry v) (mapped_entry v).home (in_range (index_of v) (sub_of v)) (moving m v h).mapped

-- what moves nothing has no bytes, and what has none moves nothing
pub moves_some : (m v : ℕ) → moves m v ≡ true → 1 ≤ moved m v
moves_some m v h = rw (moving m v h).size_is (moving_present m v h).some

pub moves_none : (m v : ℕ) → moved m v ≡ 0 → moves m v ≡ false
moves_none m v z = by (moves m v) refl
  where
    no : (n : ℕ) → n ≡ 0 → 1 ≤ n → ⊥
    no n z h = omega arith

    by : (t : Bool) → moves m v ≡ t → t ≡ false
    by true e = absurd (no (moved m v) z (moves_some m v e))
    by false e = refl

pub moved_none : (m v : ℕ) → moves m v ≡ false → moved m v ≡ 0
unfolding moved
moved_none m v e = ap (λ (b : Bool). cond b (mapped_entry v).size 0) e

pub moved_moves : (m v : ℕ) → (moved m v ≡ 0 → ⊥) → moves m v ≡ true
unfolding moved
moved_moves m v ne = by (moves m v) ne
  where
    by : (t : Bool) → (cond t (mapped_entry v).size 0 ≡ 0 → ⊥) → t ≡ true
    by true ne = refl
    by false ne = absurd (ne refl)

pub moved_small : (m v : ℕ) → moved m v ≤ 31
unfolding moved
moved_small m v = by (moves m v) refl
  where
    eighth' : (v s : ℕ) → v % 256 ≡ 8 * s → s ≤ 31
    eighth' v s e = omega arith

    by : (t : Bool) → moves m v ≡ t → cond t (mapped_entry v).size 0 ≤ 31
    by true e = eighth' v (mapped_entry v).size (moving m v e).length_is
    by false e = omega arith
