-- An access refused for its node or its entry, by the rows of the table.
-- Assumes nothing.
use mathlib.Core.Path.{◌≡◌, refl, sym, ap, ◌∙◌}
use mathlib.Core.Bool.{Bool, true, false, not, cond}
use mathlib.Core.List.{List, ◌++◌}
use Prim.Native.Nat.{ℕ, ◌≤◌}
use lib.ListN.{length}
use borrow.Author.Tests.{ne_eqb}
use native.Mathlib.Omega.{arith}
use Rattle.profile.specs.declared.refusals.Refusal.{Refusal}
use Rattle.profile.specs.declared.Entry as code
use Rattle.profile.specs.Numbers.{refusal_number}
use Rattle.profile.specs.Answers.{present}
use Rattle.profile.specs.Bytes.{little_endian}
use Rattle.profile.specs.Nodes.{stopped}
use Rattle.profile.specs.Entries.{Entry, entry_of, home_of, absent_entry}
use Rattle.profile.specs.Calls.{read, write, direct}
use Rattle.profile.specs.Refusals.{first, entry_checks, access_checks, value_checks, refusal, read_refusal}
use Rattle.profile.specs.Replies.{plain, refuse}
use Rattle.profile.proofs.AnswerLaws.{not_accepted}
use Rattle.store.specs.declared.Store.{Store}
use Rattle.store.specs.View.{node_at, parts_of}
use Rattle.channels.specs.Numbers.{NumberOf}
use Rattle.store.specs.Promises.{Ensured, Stepped, Readable, Writable, wrote, held_by}
use Rattle.store.proofs.EntryLaws.{entry_readable, data_short, entry_writable}
use Rattle.store.proofs.KeepLaws.{left_alone, taken}
use Rattle.store.proofs.StepLaws.{window_stepped, input_stepped, output_stepped, mapping_stepped, watch_stepped}
use Rattle.store.proofs.OutcomeLaws.{refused_outcome, access_refused, value_refused, write_outcome}

-- the rows of an entry that is not there
absent_read : (n : ℕ) (e : Entry) → (n ≡ 0 → ⊥) → absent_entry n ≡ e → n ≡ first (entry_checks false e)
absent_read n e ne is = sym (ap (λ (t : Bool). cond (not t) n 0) (ne_eqb n 0 ne)) ∙ ap (λ (x : Entry). first (entry_checks false x)) is

absent_written : (n size : ℕ) (e : Entry) → (n ≡ 0 → ⊥) → absent_entry n ≡ e → n ≡ first (access_checks false e size)
absent_written n size e ne is =
    sym (ap (λ (t : Bool). cond (not t) n 0x06010002) (ne_eqb n 0 ne)) ∙ ap (λ (x : Entry). first (access_checks false x size)) is

module _ (d : Store) (index sub : ℕ) where
  abbrev halted : Bool
  halted = stopped (node_at d.octets d.flags)

  pub read_refused : (n : ℕ) → (n ≡ 0 → ⊥) → n ≡ first (entry_checks halted (entry_of index sub))
      → Ensured d (direct (read index sub)) (plain n) d
  unfolding refusal read_refusal refuse
  read_refused n ne e = left_alone d _ _ (refused_outcome (parts_of d) (read index sub) n e ne)

  pub read_stopped : halted ≡ true → Ensured d (direct (read index sub)) (plain 0x08000022) d
  read_stopped h = read_refused 0x08000022 (λ e. omega arith) (ap (λ (t : Bool). first (entry_checks t (entry_of index sub))) (sym h))

  pub read_absent : halted ≡ false → (r : Refusal) → absent_entry (refusal_number r) ≡ entry_of index sub
      → Ensured d (direct (read index sub)) (plain (refusal_number r)) d
  read_absent h r is =
      let n = refusal_number r in
      read_refused n (not_accepted r)
      (absent_read n (entry_of index sub) (not_accepted r) is ∙ ap (λ (t : Bool). first (entry_checks t (entry_of index sub))) (sym h))

  module _ (bytes : List ℕ) where
    pub write_refused : (n : ℕ) → (n ≡ 0 → ⊥) → n ≡ first (access_checks halted (entry_of index sub) (length bytes))
        → Ensured d (direct (write index sub bytes)) (plain n) d
    write_refused n ne e = left_alone d _ _ (access_refused d index sub bytes n e ne)

    pub write_stopped : halted ≡ true → Ensured d (direct (write index sub bytes)) (plain 0x08000022) d
    write_stopped h =
        write_refused 0x08000022 (λ e. omega arith)
        (ap (λ (t : Bool). first (access_checks t (entry_of index sub) (length bytes))) (sym h))

    pub write_absent : halted ≡ false → (r : Refusal) → absent_entry (refusal_number r) ≡ entry_of index sub
        → Ensured d (direct (write index sub bytes)) (plain (refusal_number r)) d
    write_absent h r is =
        let n = refusal_number r in
        write_refused n (not_accepted r)
        (absent_written n (length bytes) (entry_of index sub) (not_accepted r) is
        ∙ ap (λ (t : Bool). first (access_checks t (entry_of index sub) (length bytes))) (sym h))

-- the entry that was found is one that the device has, and a value that its rows let pass may be written to it
module _ (index sub : ℕ) (e : code.Entry) (found : present e ≡ entry_of index sub) where
  pub readable_at : Readable e.home
  readable_at = rw (ap (λ (x : Entry). x.home) found) (entry_readable index sub)

  pub read_passes : (d : Store) → halted d index sub ≡ false → first (entry_checks (halted d index sub) (entry_of index sub)) ≡ 0
  read_passes d running =
      ap (λ (t : Bool). first (entry_checks t (entry_of index sub))) running
      ∙ ap (λ (x : Entry). first (entry_checks false x)) (sym found)

  module _ (bytes : List ℕ) (accepted : 0 ≡ first (access_checks false (present e) (length bytes))) where
    accesses : first (access_checks false (entry_of index sub) (length bytes)) ≡ 0
    accesses = ap (λ (x : Entry). first (access_checks false x (length bytes))) (sym found) ∙ sym accepted

    pub short_at : length bytes ≤ 4
    short_at = data_short false index sub bytes accesses

    pub writable_at : (deltas : List ℕ) (v : ℕ) → NumberOf bytes v
        → 0 ≡ first (value_checks (present e) v ++ held_by deltas e.home v) → Writable e.home v
    writable_at deltas v n z =
        rw (ap (λ (x : Entry). x.home) found)
        (entry_writable false index sub bytes accesses v (held_by deltas (home_of index sub) v) n
        (ap (λ (x : Entry). first (value_checks x v ++ held_by deltas x.home v)) (sym found) ∙ sym z))

    -- refused for its value, and not refused
    module _ (d : Store) (running : halted d index sub ≡ false) where
      running_access : first (access_checks (halted d index sub) (entry_of index sub) (length bytes)) ≡ 0
      running_access = ap (λ (t : Bool). first (access_checks t (entry_of index sub) (length bytes))) running ∙ accesses

      value_rows : (v : ℕ) → v ≡ little_endian bytes → first (value_checks (present e) v ++ held_by d.deltas e.home v)
          ≡ first (value_checks (entry_of index sub) (little_endian bytes) ++ held_by d.deltas (home_of index sub) (little_endian bytes))
      value_rows v is =
          ap (λ (x : Entry). first (value_checks x v ++ held_by d.deltas x.home v)) found
          ∙ ap (λ (x : ℕ). first (value_checks (entry_of index sub) x ++ held_by d.deltas (home_of index sub) x)) is

      pub write_value_refused : (v : ℕ) → v ≡ little_endian bytes → (r : Refusal)
          → refusal_number r ≡ first (value_checks (present e) v ++ held_by d.deltas e.home v)
          → Ensured d (direct (write index sub bytes)) (plain (refusal_number r)) d
      write_value_refused v is r rows =
          left_alone d _ _ (value_refused d index sub bytes (refusal_number r) running_access (rows ∙ value_rows v is) (not_accepted r))

      pub write_taken : (v : ℕ) → v ≡ little_endian bytes → 0 ≡ first (value_checks (present e) v ++ held_by d.deltas e.home v)
          → (left : Store) → Stepped d left (wrote e.home v (parts_of d)) → Ensured d (direct (write index sub bytes)) (plain 0) left
      write_taken v is rows left s =
          let t = rw (ap (λ (x : Entry). x.home) found, is) at s in
          taken d left _ _ refl refl t.normal
          (write_outcome d index sub bytes (parts_of left) running_access (sym (value_rows v is) ∙ sym rows) t.machines)

  -- refused for its access or its size
  pub write_access_refused : (d : Store) (bytes : List ℕ) → halted d index sub ≡ false → (r : Refusal)
      → refusal_number r ≡ first (access_checks false (present e) (length bytes))
      → Ensured d (direct (write index sub bytes)) (plain (refusal_number r)) d
  write_access_refused d bytes h r rows =
      write_refused d index sub bytes (refusal_number r) (not_accepted r)
      (rows ∙ ap (λ (x : Entry). first (access_checks false x (length bytes))) found
      ∙ ap (λ (t : Bool). first (access_checks t (entry_of index sub) (length bytes))) (sym h))

-- what the check is told at `write` and at `after_write`
pub ruleset for_write = (short_at, writable_at)

pub ruleset for_after_write = (window_stepped, input_stepped, output_stepped, mapping_stepped, watch_stepped)
