-- Document 02, Item 1: the mappings after any list and after a reset, and what a receive mapping may name.
-- Assumes nothing.
use mathlib.Core.Path.{◌≡◌, refl, ap, ◌∙◌, sym, subst}
use mathlib.Core.Bool.{Bool, true, false, not, cond, ◌||◌, ◌&&◌, false≢true}
use mathlib.Core.List.{List, [], ◌∷◌}
use Prim.Native.Nat.{ℕ, zero, suc, ◌*◌, ◌-◌, ◌≤◌}
use native.Mathlib.Omega.{arith}
use lib.Dec.{eqb, ltb, leb}
use lib.ListN.{length, get_or, set, take, replicate, length-set}
use borrow.Author.Tests.{eqb-true, ltb-false, leb-true, not-false}
use Rattle.profile.specs.declared.Node.{Node}
use Rattle.profile.specs.Entries.{Entry}
use Rattle.profile.specs.declared.Home.{Home}
use Rattle.profile.specs.declared.Home.TheVariants.{Constant, Window, InputChannel, OutputChannel, Sources, Device, MappingEntry, WatchEntry}
use Rattle.profile.specs.Bytes.{little_endian}
use Rattle.profile.specs.Nodes.{addressed}
use Rattle.profile.specs.Entries.{home_of, any}
use Rattle.profile.specs.MappedEntries.{Mapping, empty_mapping, listed, receives, index_of, sub_of, mapped_entry, mappable, moves, total}
use Rattle.profile.specs.Mapping.{write_mapping}
use Rattle.profile.specs.Calls.{Plain, read, write, sample, command, raise, clear, drive, heartbeat, pass, Call}
use Rattle.profile.specs.Refusals.{first, mapping_checks, accepted, Holdings, held_checks}
use Rattle.profile.specs.NodeAlone.{writes_setting, device_wide}
use Rattle.profile.specs.Machines.{mapping, Machine, fresh_machine, entry_names, call_names, hears, write_own}
use Rattle.profile.specs.Machines.{next_own, next, known, step, rules_of}
use Rattle.profile.specs.Heard.{fresh_machines, fold, spoken}
use Rattle.profile.specs.Lists.{after}
use Rattle.profile.proofs.BoolLaws.{neither}
use Rattle.profile.proofs.EntryRanges.{InRange, in_range}
use Rattle.profile.proofs.MappedLaws.{moving, wide, left_both, output_index}
use Rattle.profile.proofs.RefusalLaws.{none_holds, write_passed}
use Rattle.profile.proofs.ListTheorem.{after_spoken}
use Rattle.profile.proofs.StepLaws.{Takes, cond_same, step_holds, command_step}

-- "An entry of 0 may be written", and one that is "absent, not mappable or of another length" may not
abbrev pub Entered : ℕ → ℕ → Type 0
Entered m v = eqb v 0 || moves m v ≡ true

-- "Count above 8 or a sum above 64 bits" is refused: it fits a frame of eight bytes; and "nothing else is mappable"
pub record SoundMapping (m : ℕ) (o : Mapping) : Type 0 where
  pub count_small : o.count ≤ 8
  pub long : length o.entries ≡ 8
  pub fits : total m (listed o) ≤ 8
  pub mapped : (n : ℕ) → Entered m (get_or o.entries n 0)

-- ---- "empty when fresh"

-- an entry of a list of zeros, or past it
zeros : (k n : ℕ) → ◌≡◌ {A = ℕ} (get_or (replicate k 0) n 0) 0
zeros zero n = refl
zeros (suc k) zero = refl
zeros (suc k) (suc n) = zeros k n

empty_sound : (m : ℕ) → SoundMapping m empty_mapping
empty_sound m =
    record { count_small = omega arith; long = refl; fits = omega arith; mapped = λ n. subst (Entered m) (sym (zeros 8 n)) refl }

-- ---- an accepted write

-- what holds of the number that is set and of every entry before holds of every entry after
set_holds : (P : ℕ → Type 0) (xs : List ℕ) (i v : ℕ) → P v → ((n : ℕ) → P (get_or xs n 0)) → (n : ℕ) → P (get_or (set xs i v) n 0)
set_holds P [] i v p q n = q n
set_holds P (x ∷ xs) zero v p q zero = p
set_holds P (x ∷ xs) zero v p q (suc n) = q (suc n)
set_holds P (x ∷ xs) (suc i) v p q zero = q zero
set_holds P (x ∷ xs) (suc i) v p q (suc n) = set_holds P xs i v p (λ k. q (suc k)) n

module _ (m : ℕ) (o : Mapping) (s : SoundMapping m o) (sub v : ℕ) where
  -- at sub-index 0 or another, where none of the three checks holds
  written_by : (t : Bool) → not t && not (eqb o.count 0) ≡ false → not t && not (eqb v 0 || moves m v) ≡ false
      → t && (ltb 8 v || ltb 64 (8 * total m (take v o.entries))) ≡ false
      → SoundMapping m (record { count = cond t v o.count; entries = cond t o.entries (set o.entries (sub - 1) v) })
  written_by true a b c =
      let q = neither (ltb 8 v) (ltb 64 (8 * total m (take v o.entries))) c in
      record {
        count_small = ltb-false 8 v q.0;
        long = s.long;
        fits = omega (arith, ltb-false 64 (8 * total m (take v o.entries)) q.1);
        mapped = s.mapped;
      }
  written_by false a b c =
      record {
        count_small = s.count_small;
        long = length-set o.entries (sub - 1) v ∙ s.long;
        fits = rw (eqb-true o.count 0 (not-false (eqb o.count 0) a)) (omega arith);
        mapped = set_holds (Entered m) o.entries (sub - 1) v (not-false (eqb v 0 || moves m v) b) s.mapped;
      }

  written_sound : first (mapping_checks o m sub v) ≡ 0 → SoundMapping m (write_mapping sub v o)
  unfolding mapping_checks write_mapping
  written_sound z =
      let none = none_holds (mapping_checks o m sub v) (λ h. omega arith, (λ h. omega arith, (λ h. omega arith, tt))) z in
      written_by (eqb sub 0) none.0 none.1.0 none.1.1.0

entry_sound : (e : Home) (v i : ℕ) (n : Node) (o : Mapping) → writes_setting e || entry_names e mapping i ≡ true
    → first (held_checks ((rules_of mapping).holds o) e v) ≡ 0 → SoundMapping i o → SoundMapping i (write_own e v mapping i n o)
entry_sound (Constant x) v i n o h z s = s
entry_sound (Window row w k) v i n o h z s = s
entry_sound (InputChannel index k) v i n o h z s = s
entry_sound (OutputChannel index k) v i n o h z s = s
entry_sound Sources v i n o h z s = s
entry_sound (Device index) v i n o h z s = s
entry_sound (MappingEntry m sub) v i n o h z s =
    written_sound i o s sub v (ap (λ (x : ℕ). first (mapping_checks o x sub v)) (eqb-true i m h) ∙ z)
entry_sound (WatchEntry k) v i n o h z s = s

-- ---- any call, and any list

either : (m : ℕ) (b : Bool) (x y : Mapping) → SoundMapping m x → SoundMapping m y → SoundMapping m (cond b x y)
either m true x y p q = p
either m false x y p q = q

next_sound : (i : ℕ) (c : Plain) (x : Machine mapping) → hears mapping i c ≡ true → accepted (known mapping x) c ≡ true
    → SoundMapping i x.own → SoundMapping i (next mapping i c x).own
unfolding next next_own hears device_wide call_names
next_sound i (read index sub) x h t s = rw cond_same s
next_sound i (write index sub payload) x h t s =
    entry_sound (home_of index sub) (little_endian payload) i x.node x.own h
    (write_passed (known mapping x) index sub payload t).held s
next_sound i (sample digital analogue events) x h t s = s
next_sound i (command code to) x h t s =
    either i (addressed to x.node && eqb code 129) empty_mapping (cond (addressed to x.node && eqb code 130) empty_mapping x.own)
    (empty_sound i) (either i (addressed to x.node && eqb code 130) empty_mapping x.own (empty_sound i) s)
next_sound i (raise cause) x h t s = s
next_sound i (clear cause) x h t s = s
next_sound i (drive lines channels) x h t s = s
next_sound i (heartbeat node) x h t s = s
next_sound i (pass t) x h u s = s

step_sound : (i : ℕ) (c : Plain) (x : Machine mapping) → SoundMapping i x.own → SoundMapping i (step mapping i c x).own
step_sound i c x s = step_holds (λ (m : Machine mapping). SoundMapping i m.own) i c x s (λ h t. next_sound i c x h t s)

fold_sound : (i : ℕ) (cs : List Plain) (x : Machine mapping) → SoundMapping i x.own → SoundMapping i (fold (step mapping i) x cs).own
fold_sound i [] x s = s
fold_sound i (c ∷ cs) x s = fold_sound i cs (step mapping i c x) (step_sound i c x s)

-- "Count above 8 or a sum above 64 bits" and an "Entry that is absent, not mappable or of another length" are refused: after any list every
-- mapping in force fits eight bytes and names only mappable entries, or 0
pub mapping_sound : (number : ℕ) (cs : List Call) (m : ℕ) → SoundMapping m (after number cs mapping m).own
mapping_sound number cs m =
    subst (λ (x : Machine mapping). SoundMapping m x.own) (sym (after_spoken number cs mapping m))
    (fold_sound m (spoken (fresh_machines number) cs) (fresh_machine mapping number) (empty_sound m))

-- "empty when fresh and after reset communication"; reset node makes "a fresh device"
pub reset_empties : (i code to : ℕ) (x : Machine mapping) → Takes mapping i (command code to) x → addressed to x.node ≡ true
    → eqb code 129 || eqb code 130 ≡ true → (step mapping i (command code to) x).own ≡ empty_mapping
reset_empties i code to x h a r =
    ap (λ (y : Machine mapping). y.own) (command_step mapping i code to x h)
    ∙ by (addressed to x.node) (eqb code 129) (eqb code 130) a r
  where
    by : (t p q : Bool) → t ≡ true → p || q ≡ true → cond (t && p) empty_mapping (cond (t && q) empty_mapping x.own) ≡ empty_mapping
    by true true q e r = refl
    by true false true e r = refl
    by true false false e r = absurd (false≢true r)
    by false p q e r = absurd (false≢true e)

-- ---- an entry that a receive mapping may name

-- "Receive takes the output row and 6411 .. of 8 bits and wider": it is there, writable, of at most four bytes and takes every value; a
-- write of it is of no mapping and of no device-wide setting
pub record Receivable (e : Entry) (h : Home) : Type 0 where
  pub there : e.absent ≡ 0
  pub writable : e.fixed ≡ false
  pub small : e.size ≤ 4
  pub lowest_is : e.lowest ≡ 0
  pub highest_is : e.highest ≡ any
  pub short_is : e.short ≡ false
  pub unheld : (o : Holdings) (v : ℕ) → held_checks o h v ≡ []
  pub quiet : writes_setting h ≡ false

module _ (m : ℕ) (r : receives m ≡ true) (e : Entry) where
  receivable : (h : Home) → InRange e h → mappable m h ≡ true → Receivable e h
  receivable (Constant v) i p = absurd (false≢true p)
  receivable (Window row w s) i p =
      let q = left_both (eqb row (cond (receives m) 6 0)) (leb 8 w) p in
      let six : eqb row 6 ≡ true = rw r at q.0 in
      let w8 = leb-true 8 w q.1 in
      record {
        there = i.there;
        writable = i.fixed_is ∙ ap (λ (x : ℕ). eqb x 0) (eqb-true row 6 six);
        small = rw (i.size_is, wide w w8) (omega (arith, i.width.narrow));
        lowest_is = i.lowest_is;
        highest_is = i.highest_is ∙ ap (λ (b : Bool). cond b 1 any) (wide w w8);
        short_is = i.short_is;
        unheld = λ o v. refl;
        quiet = refl;
      }
  receivable (InputChannel index n) i p = absurd (false≢true (rw r at p))
  receivable (OutputChannel index n) i p =
      let is = (output_index m index n p).1 in
      record {
        there = i.3.there;
        writable = i.3.fixed_is;
        small = rw (i.1, is) (omega arith);
        lowest_is = i.3.lowest_is;
        highest_is = i.3.highest_is ∙ ap (λ (x : ℕ). cond (eqb x 0x6443) 1 any) is;
        short_is = i.2 ∙ ap (λ (x : ℕ). eqb x 0x6444) is;
        unheld = λ o v. refl;
        quiet = refl;
      }
  receivable Sources i p = absurd (false≢true p)
  receivable (Device index) i p = absurd (false≢true p)
  receivable (MappingEntry j sub) i p = absurd (false≢true p)
  receivable (WatchEntry n) i p = absurd (false≢true p)

pub moving_receivable : (m v : ℕ) → receives m ≡ true → moves m v ≡ true → Receivable (mapped_entry v) (mapped_entry v).home
moving_receivable m v r h =
    receivable m r (mapped_entry v) (mapped_entry v).home (in_range (index_of v) (sub_of v)) (moving m v h).mapped
