-- The numbers that a read or a write is refused with, by the rows of the table.
-- Assumes nothing.
use mathlib.Core.Path.{◌≡◌, ◌∙◌, sym}
use mathlib.Core.Bool.{Bool, true, false, false≢true}
use mathlib.Core.List.{List, [], ◌∷◌, ◌++◌}
use Prim.Native.Nat.{ℕ, ◌^◌, ◌<◌}
use native.Mathlib.Omega.{arith}
use lib.Dec.{ltb}
use lib.ListN.{length}
use borrow.Author.Tests.{le-ltb}
use Rattle.profile.specs.Bytes.{little_endian}
use Rattle.profile.specs.Entries.{entry_of}
use Rattle.profile.specs.Calls.{read, write}
use Rattle.profile.specs.Refusals.{Conditions, Check, first, entry_checks, access_checks, value_checks, mapping_checks, watch_checks}
use Rattle.profile.specs.Refusals.{held_checks}
use Rattle.profile.specs.Refusals.{read_refusal, write_refusal, refusal}
use Rattle.profile.proofs.BoolLaws.{picked}
use Rattle.profile.proofs.HomeLaws.{mapping_holds, watch_holds}
use Rattle.profile.proofs.SizeLaws.{absence, entry_sized}

-- ---- the first of the checks that holds

abbrev Each : (ℕ → Type 0) → List Check → Type 0
Each P [] = Unit {0}
Each P (c ∷ cs) = (c.holds ≡ true → P c.number) × Each P cs

first_holds : (P : ℕ → Type 0) → P 0 → (cs : List Check) → Each P cs → P (first cs)
first_holds P z [] s = z
first_holds P z (c ∷ cs) s = picked P c.holds c.number (first cs) s.0 (λ e. first_holds P z cs s.1)

-- what holds of 0 and of the number of every row, of a row of the size or of a stopped node only where it applies
pub record Rows (P : ℕ → Type 0) (stopped : Bool) (size lent : ℕ) : Type 0 where
  pub accepted : P 0
  pub while_stopped : stopped ≡ true → P 0x08000022
  pub no_object : P 0x06020000
  pub no_sub_index : P 0x06090011
  pub read_only : P 0x06010002
  pub too_long : ltb size lent ≡ true → P 0x06070012
  pub too_short : ltb lent size ≡ true → P 0x06070013
  pub value : P 0x06090030
  pub too_high : P 0x06090031
  pub too_low : P 0x06090032
  pub count_not_0 : P 0x06010000
  pub not_mappable : P 0x06040041
  pub mapping_too_long : P 0x06040042
  pub node_twice : P 0x06040043

module _ (P : ℕ → Type 0) (has : Conditions) (index sub : ℕ) where
  absent_number : {lent : ℕ} → Rows P has.stopped (entry_of index sub).size lent → P (entry_of index sub).absent
  absent_number r = absence P (entry_of index sub).absent (entry_sized index sub).absent_is r.accepted r.no_object r.no_sub_index

  pub read_number_lem : (lent : ℕ) → Rows P has.stopped (entry_of index sub).size lent → P (refusal has (read index sub))
  unfolding refusal read_refusal
  read_number_lem lent r =
      first_holds P r.accepted (entry_checks has.stopped (entry_of index sub))
      (r.while_stopped, (λ h. absent_number r, tt))

  pub write_number : (payload : List ℕ) → Rows P has.stopped (entry_of index sub).size (length payload)
      → P (refusal has (write index sub payload))
  unfolding refusal write_refusal mapping_checks watch_checks
  write_number payload r =
      let e = entry_of index sub in
      let v = little_endian payload in
      let watched = watch_holds (Each P) (λ n. watch_checks has.held.watches n v) [] tt (λ n. (λ h. r.node_twice, tt)) e.home in
      let held = mapping_holds (Each P) (λ m sub. mapping_checks has.held.mapping m sub v) _ watched
      (λ m sub. (λ h. r.count_not_0, (λ h. r.not_mappable, (λ h. r.mapping_too_long, tt)))) e.home in
      let values : Each P (value_checks e v ++ held_checks has.held e.home v) =
      (λ h. r.value, (λ h. r.too_high, (λ h. r.too_low, held))) in
      first_holds P r.accepted (access_checks has.stopped e (length payload) ++ (value_checks e v ++ held_checks has.held e.home v)) (
        r.while_stopped,
        (
          λ h. absent_number r,
          (λ h. r.read_only, (r.too_long, (r.too_short, values))),
        ),
      )

-- ---- each is a code of four bytes

abbrev Code : ℕ → Type 0
Code n = n < 256 ^ 4

codes : (stopped : Bool) (size lent : ℕ) → Rows Code stopped size lent
codes stopped size lent =
    record {
      accepted = omega arith;
      while_stopped = λ h. omega arith;
      no_object = omega arith;
      no_sub_index = omega arith;
      read_only = omega arith;
      too_long = λ h. omega arith;
      too_short = λ h. omega arith;
      value = omega arith;
      too_high = omega arith;
      too_low = omega arith;
      count_not_0 = omega arith;
      not_mappable = omega arith;
      mapping_too_long = omega arith;
      node_twice = omega arith;
    }

pub read_code : (has : Conditions) (index sub : ℕ) → refusal has (read index sub) < 256 ^ 4
read_code has index sub = read_number_lem Code has index sub 0 (codes has.stopped (entry_of index sub).size 0)

pub write_code : (has : Conditions) (index sub : ℕ) (payload : List ℕ) → refusal has (write index sub payload) < 256 ^ 4
write_code has index sub payload =
    write_number Code has index sub payload (codes has.stopped (entry_of index sub).size (length payload))

-- ---- and none that does not apply: 08000022 of a node that runs, and the rows of the size where it is the entry's own

-- a number that is none of three
pub record Other (stopped : Bool) (size lent n : ℕ) : Type 0 where
  pub not_stopped : stopped ≡ false → n ≡ 0x08000022 → ⊥
  pub not_long : lent ≡ size → n ≡ 0x06070012 → ⊥
  pub not_short : lent ≡ size → n ≡ 0x06070013 → ⊥

module _ (stopped : Bool) (size lent : ℕ) where
  other : (n : ℕ) → (stopped ≡ false → n ≡ 0x08000022 → ⊥) → (lent ≡ size → n ≡ 0x06070012 → ⊥) → (lent ≡ size → n ≡ 0x06070013 → ⊥)
      → Other stopped size lent n
  other n a b c = record { not_stopped = a; not_long = b; not_short = c }

  pub others : Rows (Other stopped size lent) stopped size lent
  others =
      record {
        accepted = other 0 (λ h e. omega (arith, e)) (λ h e. omega (arith, e)) (λ h e. omega (arith, e));
        while_stopped = λ t. other _ (λ h e. false≢true (sym h ∙ t)) (λ h e. omega (arith, e)) (λ h e. omega (arith, e));
        no_object = other _ (λ h e. omega (arith, e)) (λ h e. omega (arith, e)) (λ h e. omega (arith, e));
        no_sub_index = other _ (λ h e. omega (arith, e)) (λ h e. omega (arith, e)) (λ h e. omega (arith, e));
        read_only = other _ (λ h e. omega (arith, e)) (λ h e. omega (arith, e)) (λ h e. omega (arith, e));
        too_long = λ t.
            other _ (λ h e. omega (arith, e)) (λ h e. false≢true (sym (le-ltb size lent (omega (arith, h))) ∙ t)) (λ h e. omega (arith, e));
        too_short = λ t.
            other _ (λ h e. omega (arith, e)) (λ h e. omega (arith, e)) (λ h e. false≢true (sym (le-ltb lent size (omega (arith, h))) ∙ t));
        value = other _ (λ h e. omega (arith, e)) (λ h e. omega (arith, e)) (λ h e. omega (arith, e));
        too_high = other _ (λ h e. omega (arith, e)) (λ h e. omega (arith, e)) (λ h e. omega (arith, e));
        too_low = other _ (λ h e. omega (arith, e)) (λ h e. omega (arith, e)) (λ h e. omega (arith, e));
        count_not_0 = other _ (λ h e. omega (arith, e)) (λ h e. omega (arith, e)) (λ h e. omega (arith, e));
        not_mappable = other _ (λ h e. omega (arith, e)) (λ h e. omega (arith, e)) (λ h e. omega (arith, e));
        mapping_too_long = other _ (λ h e. omega (arith, e)) (λ h e. omega (arith, e)) (λ h e. omega (arith, e));
        node_twice = other _ (λ h e. omega (arith, e)) (λ h e. omega (arith, e)) (λ h e. omega (arith, e));
      }
