-- A test that every object passes at its own index, every entry passes.
-- Assumes nothing.
use mathlib.Core.Path.{◌≡◌, refl}
use mathlib.Core.Bool.{Bool, true, false, not, cond, ◌&&◌}
use mathlib.Core.List.{List, [], ◌∷◌}
use Prim.Native.Nat.{ℕ, ◌/◌, ◌%◌, ◌<◌}
use native.Mathlib.Nat.{mod-lt, zero-lt-suc}
use lib.Dec.{eqb, ltb}
use borrow.Author.Tests.{eqb-true}
use Rattle.profile.specs.Entries.{Entry, table, width_of, place, absent_entry, Object, at, window, Row, objects, lookup}
use Rattle.profile.specs.Entries.{object_of, entry_of}
use Rattle.profile.proofs.BoolLaws.{both, picked}

-- an object has at a sub-index nothing, its entry count, or its entry
pub at_holds : (P : Entry → Type 0) (sub : ℕ) (o : Object) → P (absent_entry 0x06090011) → P o.count → P o.entry → P (at sub o)
at_holds P sub o a p q =
    picked P (ltb o.last sub) (absent_entry 0x06090011) (cond (eqb sub 0 && not (eqb o.last 0)) o.count o.entry) (λ e. a)
    (λ e. picked P (eqb sub 0 && not (eqb o.last 0)) o.count o.entry (λ e. p) (λ e. q))

-- every object of a list passes at its own index
abbrev pub all_pass : (ℕ → Entry → Bool) → List Row → Bool
all_pass p [] = true
all_pass p (r ∷ rs) = p r.index r.object.count && (p r.index r.object.entry && all_pass p rs)

-- and so does where there is none
module _ (p : ℕ → Entry → Bool) (index sub : ℕ) (no_object : p index (absent_entry 0x06020000) ≡ true)
    (no_entry : p index (absent_entry 0x06090011) ≡ true) where
  abbrev Pass : Entry → Type 0
  Pass e = p index e ≡ true

  found_passes : (r : Row) (t : Bool) (rest : Entry) → eqb index r.index ≡ t → p r.index r.object.count ≡ true
      → p r.index r.object.entry ≡ true → Pass rest → Pass (elim t [ true ↦ at sub r.object | false ↦ rest ])
  found_passes r true rest e c o f =
      let x = eqb-true index r.index e in
      at_holds Pass sub r.object no_entry (rw x c) (rw x o)
  found_passes r false rest e c o f = f

  lookup_passes : (rs : List Row) → all_pass p rs ≡ true → Pass (lookup sub rs index)
  lookup_passes [] h = no_object
  lookup_passes (r ∷ rs) h =
      let c = both (p r.index r.object.count) (p r.index r.object.entry && all_pass p rs) h in
      let o = both (p r.index r.object.entry) (all_pass p rs) c.1 in
      found_passes r (eqb index r.index) (lookup sub rs index) refl c.0 o.0 (lookup_passes rs o.1)

  -- and every window of the table
  pub entry_passes : ((row c : ℕ) → c < 4 → Pass (window row (width_of c) sub).count × Pass (window row (width_of c) sub).entry)
      → all_pass p (objects sub) ≡ true → Pass (entry_of index sub)
  unfolding entry_of object_of
  entry_passes windows h =
      let k = place table index in
      let line = windows (k / 4) (k % 4) (mod-lt k (zero-lt-suc 3)) in
      let o = window (k / 4) (width_of (k % 4)) sub in
      picked Pass (ltb k 44) (at sub o) (lookup sub (objects sub) index)
      (λ e. at_holds Pass sub o no_entry line.0 line.1) (λ e. lookup_passes (objects sub) h)
