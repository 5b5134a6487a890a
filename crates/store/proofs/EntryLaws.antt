-- What the refusal table leaves of an entry and its value is what reading and writing the entry asks.
-- Assumes nothing.
use mathlib.Core.Path.{◌≡◌, refl, sym, ap, ◌∙◌}
use mathlib.Core.Bool.{Bool, true, false, cond, ◌||◌, ◌&&◌, true≢false}
use mathlib.Core.List.{List, ◌++◌}
use Prim.Native.Nat.{ℕ, zero, suc, ◌+◌, ◌*◌, ◌/◌, ◌^◌, ◌≤◌, ◌<◌}
use native.Mathlib.Nat.{lt_of_lt_of_le, pow-suc}
use native.Mathlib.Omega.{arith}
use lib.Dec.{eqb, ltb}
use Rattle.std.proofs.lemmas.Grind.{common_steps}
use lib.ListN.{length}
use lib.Pow.{pow_mono, pow-add}
use borrow.Author.Tests.{eqb-true, ltb-false}
use Rattle.profile.specs.Entries.{Entry}
use Rattle.profile.specs.declared.Home.{Home}
use Rattle.profile.specs.declared.Home.TheVariants.{Constant, Window, InputChannel, OutputChannel, Sources, Device, MappingEntry, WatchEntry}
use Rattle.profile.specs.Entries.{entry_of, home_of, any, not_allowed}
use Rattle.profile.specs.Refusals.{Check, first, access_checks, value_checks}
use Rattle.profile.proofs.EntryRanges.{WindowRange, InRange, in_range}
use Rattle.profile.proofs.RefusalLaws.{AccessPassed, access_passed, ValuePassed, value_passed, value_sound, parts}
use Rattle.windows.specs.Promises.{Covers}
use Rattle.channels.specs.Numbers.{NumberOf}
use Rattle.analogue_inputs.proofs.WriteLaws.{input_fits}
use Rattle.analogue_outputs.proofs.WriteLaws.{output_writable}
use Rattle.store.specs.Promises.{Readable, Writable}

covers : {e : Entry} {row w s : ℕ} → WindowRange e row w s → Covers row w s
covers r =
    record {
      row = omega (arith, r.row_is);
      width = record { divides = r.width.divides; narrow = r.width.narrow };
      first = r.first;
      last = r.last;
    }

readable : (e : Entry) (h : Home) → InRange e h → Readable h
readable e h r = grind (arith, covers)

pub entry_readable : (index sub : ℕ) → Readable (home_of index sub)
entry_readable index sub = readable (entry_of index sub) (home_of index sub) (in_range index sub)

-- an entry that may be written has at most four bytes
pub entry_short : (e : Entry) (h : Home) → InRange e h → e.fixed ≡ false → e.size ≤ 4
entry_short e h r p = grind (arith, common_steps)

-- ---- the value of a window fits its width

-- bytes are eight bits
bytes_bits : (k : ℕ) → 256 ^ k ≡ 2 ^ (8 * k)
bytes_bits zero = refl
bytes_bits (suc k) = pow-suc 256 k ∙ ap (λ (x : ℕ). x * 256) (bytes_bits k) ∙ sym (pow-add 2 (8 * k) 8) ∙ ap (λ (x : ℕ). 2 ^ x) (eight k)
  where
    eight : (k : ℕ) → 8 * k + 8 ≡ 8 * suc k
    eight k = omega arith

window_by : (w v : ℕ) (t : Bool) → eqb w 1 ≡ t → v < 256 ^ cond t 1 (w / 8) → t && ltb 1 v ≡ false → v < 2 ^ w
window_by w v true e h a = rw (eqb-true w 1 e) (below v (ltb-false 1 v a))
  where
    below : (v : ℕ) → v ≤ 1 → v < 2 ^ 1
    below v l = omega arith
window_by w v false e h a = lt_of_lt_of_le h (rw (bytes_bits (w / 8)) (pow_mono (part w)))
  where
    part : (w : ℕ) → 8 * (w / 8) ≤ w
    part w = omega arith

writable_row : (row : ℕ) → eqb row 0 ≡ false → 1 ≤ row
writable_row row e = grind (arith, common_steps)

-- the highest value of a one-bit entry is 1
at_most : (t : Bool) (low high v : ℕ) → high ≡ cond t 1 any → ltb v low || ltb high v ≡ false → t && ltb 1 v ≡ false
at_most t low high v e a = grind arith

-- ---- what the checks leave

writable : (e : Entry) (h : Home) (v : ℕ) {stopped : Bool} {bytes : List ℕ} → InRange e h → NumberOf bytes v → AccessPassed stopped e
    (length bytes) → ValuePassed e v → Writable h v
unfolding not_allowed
writable e (Constant x) v r n a p = absurd (true≢false (sym r ∙ a.writable))
writable e (Window row w s) v r n a p = (
  covers r,
  writable_row row (sym r.fixed_is ∙ a.writable),
  r.row_is,
  window_by w v (eqb w 1) refl (rw (a.size_is ∙ r.size_is) at n.small)
      (at_most (eqb w 1) e.lowest e.highest v r.highest_is p.allowed),
)
writable e (InputChannel index m) v r n a p = (r.0, input_fits n index (a.size_is ∙ r.1))
writable e (OutputChannel index m) v r n a p = (r.0, output_writable n index e (a.size_is ∙ r.1) r.2 p.not_above p.not_below)
writable e Sources v r n a p = absurd (true≢false (sym r ∙ a.writable))
writable e (Device index) v r n a p = rw (a.size_is ∙ r) at n.small
writable e (MappingEntry m sub) v r n a p = (r.0, r.1)
writable e (WatchEntry m) v r n a p = r.0

-- from the sums of the two parts of the table, which the code has made
module _ (stopped : Bool) (index sub : ℕ) (bytes : List ℕ)
    (none : first (access_checks stopped (entry_of index sub) (length bytes)) ≡ 0) where
  passed : AccessPassed stopped (entry_of index sub) (length bytes)
  passed = access_passed stopped (entry_of index sub) (length bytes) none

  pub data_short : length bytes ≤ 4
  data_short = rw passed.size_is (entry_short (entry_of index sub) (home_of index sub) (in_range index sub) passed.writable)

  pub entry_writable : (v : ℕ) (rows : List Check) → NumberOf bytes v → first (value_checks (entry_of index sub) v ++ rows) ≡ 0
      → Writable (home_of index sub) v
  entry_writable v rows n z =
      writable (entry_of index sub) (home_of index sub) v (in_range index sub) n passed
      (value_passed (entry_of index sub) v (parts (value_checks (entry_of index sub) v) rows (value_sound (entry_of index sub) v) z).0)
