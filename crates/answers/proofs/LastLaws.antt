-- The last sub-index of an object, by what the object has at sub-index 0.
-- Assumes nothing.
use mathlib.Core.Path.{◌≡◌, refl, ap, ◌∙◌}
use mathlib.Core.Bool.{Bool, true, false, cond}
use mathlib.Core.List.{List, [], ◌∷◌}
use Prim.Native.Nat.{ℕ, zero, suc, ◌/◌, ◌%◌, ◌<◌}
use native.Mathlib.Nat.{mod-lt, zero-lt-suc}
use native.Mathlib.Omega.{arith}
use lib.Dec.{eqb, ltb}
use Rattle.profile.specs.declared.Home.{Home}
use Rattle.profile.specs.declared.Home.TheVariants.{Constant, Window, InputChannel, OutputChannel, Sources, Device}
use Rattle.profile.specs.declared.Home.TheVariants.{MappingEntry, WatchEntry}
use Rattle.profile.specs.Entries.{table, width_of, place, Entry, at, Row, window, objects, lookup, object_of, entry_at, entry_of}
use Rattle.answers.specs.Refusals.{last_in, last_at, last_of}

-- an entry count, the count of a mapping, or an object's only entry
abbrev pub told_by : ℕ → Home → ℕ
told_by size (Constant v) = cond (eqb size 1) v 0
told_by size (Window row w s) = 0
told_by size (InputChannel index n) = 0
told_by size (OutputChannel index n) = 0
told_by size Sources = 0
told_by size (Device index) = 0
told_by size (MappingEntry m s) = 8
told_by size (WatchEntry n) = 0

abbrev told : Entry → ℕ
told e = told_by e.size e.home

-- a window's object, by the column of its width
column_told : (row c : ℕ) → c < 4 → told (at 0 (window row (width_of c) 0)) ≡ (window row (width_of c) 0).last
column_told row zero h = refl
column_told row (suc zero) h = refl
column_told row (suc (suc zero)) h = refl
column_told row (suc (suc (suc zero))) h = refl
column_told row (suc (suc (suc (suc c)))) h = absurd (omega arith)

abbrev Told : List Row → Type 0
Told [] = Unit {0}
Told (r ∷ rs) = (told (at 0 r.object) ≡ r.object.last) × Told rs

lookup_told : (rs : List Row) (index : ℕ) → Told rs → told (lookup 0 rs index) ≡ last_in rs index
lookup_told [] index t = refl
lookup_told (r ∷ rs) index t = by (eqb index r.index) (lookup_told rs index t.1)
  where
    by : (b : Bool) → told (lookup 0 rs index) ≡ last_in rs index
        → told (elim b [ true ↦ at 0 r.object | false ↦ lookup 0 rs index ]) ≡ cond b r.object.last (last_in rs index)
    by true later = t.0
    by false later = later

infixr 20 ◌then◌
◌then◌ : {A B : Type 0} → A → B → A × B
p then c = (p, c)

objects_told : Told (objects 0)
objects_told =
    refl then refl then refl then refl then refl then refl then refl then refl then refl then refl then refl then refl then refl then
    refl then refl then refl then refl then refl then refl then refl then refl then refl then refl then refl then refl then refl then
    tt

at_told : (p index : ℕ) → told (entry_at p index 0) ≡ last_at p index
unfolding object_of
at_told p index = by (ltb p 44)
  where
    by : (b : Bool) → told (cond b (at 0 (window (p / 4) (width_of (p % 4)) 0)) (lookup 0 (objects 0) index))
        ≡ cond b (window (p / 4) (width_of (p % 4)) 0).last (last_in (objects 0) index)
    by true = column_told (p / 4) (p % 4) (mod-lt p (zero-lt-suc 3))
    by false = lookup_told (objects 0) index objects_told

pub last_told : (index : ℕ) → told (entry_of index 0) ≡ last_of index
unfolding entry_of last_of
last_told index = at_told (place table index) index

-- of an entry that was found
pub last_is : (index : ℕ) (e : Entry) → e ≡ entry_of index 0 → told_by e.size e.home ≡ last_of index
last_is index e found = ap told found ∙ last_told index

-- which no other home has
pub told_other : (size : ℕ) (h : Home) → ((v : ℕ) → h ≡ Constant v → ⊥) → ((m s : ℕ) → h ≡ MappingEntry m s → ⊥) → told_by size h ≡ 0
told_other size (Constant v) n k = absurd (n v refl)
told_other size (Window row w s) n k = refl
told_other size (InputChannel index i) n k = refl
told_other size (OutputChannel index i) n k = refl
told_other size Sources n k = refl
told_other size (Device index) n k = refl
told_other size (MappingEntry m s) n k = absurd (k m s refl)
told_other size (WatchEntry i) n k = refl
