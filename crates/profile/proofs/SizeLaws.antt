-- The size of an entry, for every index and sub-index: an entry has one byte to four, and what it holds fits them.
-- Assumes nothing.
use mathlib.Core.Path.{◌≡◌, refl, sym, subst}
use mathlib.Core.Bool.{Bool, true, false, not, ◌||◌, ◌&&◌}
use Prim.Native.Nat.{ℕ, zero, suc, ◌^◌, ◌≤◌, ◌<◌}
use native.Mathlib.Omega.{arith}
use lib.Dec.{eqb, ltb, leb}
use borrow.Author.Tests.{eqb-true, leb-true}
use Rattle.profile.specs.Entries.{Entry}
use Rattle.profile.specs.declared.Home.{Home}
use Rattle.profile.specs.declared.Home.TheVariants.{Constant, Window, InputChannel, OutputChannel, Sources, Device, MappingEntry, WatchEntry}
use Rattle.profile.specs.Entries.{width_of, window, entry_of}
use Rattle.profile.proofs.BoolLaws.{both}
use Rattle.profile.proofs.EntryTests.{entry_passes}

-- a constant fits the bytes of its entry, the bits of a window and of 6422:1 too
abbrev pub fitting : Entry → Home → Bool
fitting e (Constant v) = ltb v (256 ^ e.size)
fitting e (Window row w s) = leb (2 ^ w) (256 ^ e.size)
fitting e (InputChannel index n) = true
fitting e (OutputChannel index n) = true
fitting e Sources = eqb e.size 4
fitting e (Device index) = true
fitting e (MappingEntry m sub) = true
fitting e (WatchEntry n) = true

-- the number of an entry that is there, and of one that is not
abbrev pub is_absence : ℕ → Bool
is_absence n = eqb n 0 || (eqb n 0x06020000 || eqb n 0x06090011)

pub absence : (P : ℕ → Type 0) (n : ℕ) → is_absence n ≡ true → P 0 → P 0x06020000 → P 0x06090011 → P n
absence P n h p q r = by (eqb n 0) (eqb n 0x06020000) refl refl h
  where
    by : (t u : Bool) → eqb n 0 ≡ t → eqb n 0x06020000 ≡ u → t || (u || eqb n 0x06090011) ≡ true → P n
    by true u e f h = subst P (sym (eqb-true n 0 e)) p
    by false true e f h = subst P (sym (eqb-true n 0x06020000 f)) q
    by false false e f h = subst P (sym (eqb-true n 0x06090011 h)) r

-- what is claimed of an entry
pub record SizedEntry (e : Entry) : Type 0 where
  pub absent_is : is_absence e.absent ≡ true
  pub most : e.size ≤ 4
  pub least : e.absent ≡ 0 → 1 ≤ e.size
  pub fits : fitting e e.home ≡ true

-- as one test
abbrev sized : Entry → Bool
sized e =
    is_absence e.absent && (leb e.size 4 && ((not (eqb e.absent 0) || leb 1 e.size) && fitting e e.home))

abbrev Sized : Entry → Type 0
Sized e = sized e ≡ true

sized_entry : (e : Entry) → Sized e → SizedEntry e
sized_entry e p =
    let a = both (is_absence e.absent) _ p in
    let b = both (leb e.size 4) _ a.1 in
    let c = both (not (eqb e.absent 0) || leb 1 e.size) _ b.1 in
    record {
      absent_is = a.0;
      most = leb-true e.size 4 b.0;
      least = λ z. leb-true 1 e.size (rw z at c.0);
      fits = c.1;
    }

-- ---- the digital lines, of every width

window_sized : (row sub c : ℕ) → c < 4 → Sized (window row (width_of c) sub).count × Sized (window row (width_of c) sub).entry
window_sized row sub zero h = (refl, refl)
window_sized row sub (suc zero) h = (refl, refl)
window_sized row sub (suc (suc zero)) h = (refl, refl)
window_sized row sub (suc (suc (suc zero))) h = (refl, refl)
window_sized row sub (suc (suc (suc (suc c)))) h = absurd (omega arith)

-- "the entry's bytes as an unsigned number and their count": every entry of documents 01 and 02, and every absent one, is so sized
pub entry_sized : (index sub : ℕ) → SizedEntry (entry_of index sub)
entry_sized index sub =
    sized_entry (entry_of index sub) (entry_passes (λ x e. sized e) index sub refl refl (λ row c h. window_sized row sub c h) refl)
