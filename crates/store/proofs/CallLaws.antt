-- The promise of a call, from what its code knows at each return.
-- Assumes nothing.
use mathlib.Core.Path.{◌≡◌, refl, sym, ap, ◌∙◌, subst}
use mathlib.Core.Bool.{Bool, true, false, not, cond}
use mathlib.Core.List.{List, [], ◌∷◌, map}
use Prim.Native.Nat.{ℕ}
use native.Mathlib.Omega.{arith}
use lib.Dec.{eqb}
use lib.ListN.{length, get_or}
use lib.IntN.{ℤ}
use Rattle.std.proofs.Common.{Result, Ok, Err}
use Rattle.std.proofs.lemmas.Grind.{common_steps}
use Rattle.std.specs.Result.{IsErrAnd}
use Rattle.profile.specs.declared.Cause.{Cause}
use Rattle.profile.specs.declared.Node.{Node}
use Rattle.profile.specs.declared.commands.Command.{Command}
use Rattle.profile.specs.declared.commands.Command.TheVariants.{ResetNode, ResetCommunication}
use Rattle.profile.specs.declared.refusals.Refusal.{Refusal}
use Rattle.profile.specs.Numbers.{refusal_number}
use Rattle.profile.specs.Answers.{plain_answer, sample_answer, drive_answer}
use Rattle.profile.specs.Commands.{command_code}
use Rattle.profile.specs.Nodes.{addressed, obey_node, raise_node, clear_node}
use Rattle.profile.specs.Calls.{Plain, sample, command, raise, clear, drive, direct, heartbeat, pass, elapsed}
use Rattle.profile.specs.Refusals.{refusal, command_refusal, sample_refusal, drive_refusal}
use Rattle.profile.specs.Heard.{conditions, step_each, step_all, number_of}
use Rattle.profile.specs.Replies.{plain, sample_reply, drive_reply, refuse, answer_to, reply}
use Rattle.profile.specs.declared.Cause.TheVariants.{Lost}
use Rattle.profile.specs.Watch.{take_heartbeat, take_time, is_due}
use Rattle.profile.specs.Outcome.{Same}
use Rattle.dictionary.specs.Commanded.{Commanded}
use Rattle.lines.specs.Promises as line
use Rattle.channels.specs.View.{driven_of, Zeroed}
use Rattle.analogue_outputs.specs.Promises as output
use Rattle.watches.specs.View.{watches_of, WatchesLeft}
use Rattle.store.specs.declared.Store.{Store}
use Rattle.store.specs.View.{node_at, parts_of, machines_of}
use Rattle.store.specs.Promises.{Ensured, Stepped, FreshLeft, Entered, moved}
use Rattle.store.proofs.KeepLaws.{left_alone, taken, same_state}
use Rattle.store.proofs.StepLaws.{entered, entered_reset, watch_left}
use Rattle.store.proofs.OutcomeLaws.{refused_outcome, Sampling, sample_outcome, drive_outcome}
use Rattle.store.proofs.WatchOutcome.{heartbeat_outcome, passed_machines}
use Rattle.store.proofs.OutcomeLaws.{raise_outcome, clear_outcome, obeyed_outcome, reset_outcome, other_outcome}
use Rattle.profile.proofs.ListTheorem.{same_trans, step_same}

-- ---- refused

-- no refusal has the number of an accepted call
some_number : (r : Refusal) → refusal_number r ≡ 0 → ⊥
some_number r e = grind arith

pub refused : (d : Store) (c : Plain) (r : Refusal) → refusal_number r ≡ refusal (conditions (machines_of d) c) c
    → Ensured d (direct c) (refuse (refusal_number r) c) d
refused d c r e = left_alone d _ _ (refused_outcome (parts_of d) c (refusal_number r) e (some_number r))

-- the exit of a `?` answers r
pub exit : {A : Type 0} (answer : Result A Refusal) (r : Refusal) → IsErrAnd answer (λ x. x ≡ r) → answer ≡ Err r
exit (Ok x) r e = absurd e
exit (Err x) r e = ap Err e

module _ {A : Type 0} (answer : Result A Refusal) (r : Refusal) (is : IsErrAnd answer (λ x. x ≡ r)) where
  pub command_refused : (d : Store) (code to : ℕ) → refusal_number r ≡ command_refusal code to
      → Ensured d (direct (command code to)) (plain_answer answer) d
  unfolding refusal refuse
  command_refused d code to e = rw (exit answer r is) (refused d (command code to) r e)

  pub drive_refused : (d : Store) (lines : List ℕ) (channels : List ℤ) → refusal_number r ≡ drive_refusal (length lines) (length channels)
      → Ensured d (direct (drive lines channels)) (drive_answer answer lines channels) d
  unfolding refusal refuse
  drive_refused d lines channels e = rw (exit answer r is) (refused d (drive lines channels) r e)

module _ (answer : Result ℕ Refusal) (r : Refusal) (is : IsErrAnd answer (λ x. x ≡ r)) where
  pub sample_refused : (d : Store) (digital : List ℕ) (analogue : List ℤ) (events : List ℕ)
      → refusal_number r ≡ sample_refusal (length digital) (length analogue) (length events)
      → Ensured d (direct (sample digital analogue events)) (sample_answer answer events) d
  unfolding refusal refuse
  sample_refused d digital analogue events e = rw (exit answer r is) (refused d (sample digital analogue events) r e)

-- ---- sample and drive

pub sampled : {d e : Store} {digital : List ℕ} {analogue : List ℤ} {events shown : List ℕ} {n : ℕ}
    → 0 ≡ sample_refusal (length digital) (length analogue) (length events) → get_or e.octets 1 0 ≡ get_or d.octets 1 0
    → Sampling (parts_of d) (parts_of e) digital analogue shown n
    → Ensured d (direct (sample digital analogue events)) (sample_reply n shown) e
unfolding refusal
sampled {d} {e} {events = events} z q s = taken d e _ _ refl refl (same_state d e q) (sample_outcome s events (sym z))

pub driven : {d : Store} {lines out : List ℕ} {channels numbers : List ℤ} → 0 ≡ drive_refusal (length lines) (length channels)
    → line.Driven d.words out → output.Driven (driven_of d.values) numbers
    → Ensured d (direct (drive lines channels)) (drive_reply out numbers) d
unfolding refusal
driven {d} z l c = left_alone d _ _ (drive_outcome (parts_of d) _ _ _ _ (sym z) l c)

-- ---- raise and clear

module _ (d e : Store) (cause : Cause) where
  pub raised : Entered (raise_node cause (node_at d.octets d.flags)) d e → Ensured d (direct (raise cause)) (plain 0) e
  raised en =
      let s = entered d en in taken d e _ _ refl refl s.normal (raise_outcome (parts_of d) (parts_of e) _ s.machines)

  pub cleared : Entered (clear_node cause (node_at d.octets d.flags)) d e → Ensured d (direct (clear cause)) (plain 0) e
  cleared en =
      let s = entered d en in taken d e _ _ refl refl s.normal (clear_outcome (parts_of d) (parts_of e) _ s.machines)

-- ---- heartbeats, and time that passes

module _ (d : Store) (deltas : List ℕ) where
  abbrev later : Store
  later = record d { deltas = deltas }

  pub heard_heartbeat : {node : ℕ} → WatchesLeft (map (take_heartbeat node) (watches_of d.deltas)) d.deltas deltas
      → Ensured d (direct (heartbeat node)) (plain 0) later
  heard_heartbeat s =
      let w = watch_left d deltas _ s in
      taken d later _ _ refl refl w.normal (heartbeat_outcome (parts_of d) (parts_of later) _ w.machines)

  module _ (t : ℕ) (s : WatchesLeft (map (take_time t) (watches_of d.deltas)) d.deltas deltas) where
    time_machines : Same (machines_of later) (step_each (pass t ∷ []) (machines_of d))
    time_machines = passed_machines (parts_of d) (parts_of later) t (watch_left d deltas _ s).machines

    -- what the machines hear, by whether an entry is due
    heard_by : (b : Bool) → is_due t (watches_of d.deltas) ≡ b
        → step_each (pass t ∷ cond b (raise Lost ∷ []) []) (machines_of d) ≡ step_all (elapsed t) (machines_of d)
    heard_by b e = ap (λ (x : Bool). step_each (pass t ∷ cond x (raise Lost ∷ []) []) (machines_of d)) (sym e)

    -- no entry reaches its time
    pub not_due : is_due t (watches_of d.deltas) ≡ false → Ensured d (elapsed t) (plain 0) later
    unfolding reply number_of answer_to
    not_due e =
        taken d later _ _ refl refl (watch_left d deltas _ s).normal
        (record { machines = subst (Same (machines_of later)) (heard_by false e) time_machines; replied = refl })

    -- "raises communication loss in that very call"
    pub due : {e : Store} → is_due t (watches_of d.deltas) ≡ true → Ensured later (direct (raise Lost)) (plain 0) e
        → Ensured d (elapsed t) (plain 0) e
    unfolding reply number_of answer_to
    due {e} h r =
        taken d e _ _ refl refl (λ n. r.normal ((watch_left d deltas _ s).normal n))
        (record {
          machines =
              subst (Same (machines_of e)) (heard_by true h)
              (same_trans r.outcome.machines (step_same (direct (raise Lost)) time_machines));
          replied = refl;
        })

-- ---- command

other_code : (k : Command) → (k ≡ ResetNode → ⊥) → command_code k ≡ 129 → ⊥
other_code k r e = grind arith

no_reset : (k : Command) → (k ≡ ResetCommunication → ⊥) → eqb (command_code k) 130 ≡ false
no_reset k s = grind (arith, common_steps)

module _ (d : Store) (code to : ℕ) where
  module _ (k : Command) (c : Commanded code to (Ok k)) where
    taken_code : refusal (conditions (machines_of d) (command code to)) (command code to) ≡ 0
    unfolding refusal
    taken_code = sym c.numbered

    pub passed : addressed to (node_at d.octets d.flags) ≡ false → Ensured d (direct (command code to)) (plain 0) d
    passed elsewhere = left_alone d _ _ (other_outcome (parts_of d) code to taken_code elsewhere)

    module _ (here : addressed to (node_at d.octets d.flags) ≡ true) where
      pub reset : (e : Store) (number : ℕ) → number ≡ (node_at d.octets d.flags).number → k ≡ ResetNode → FreshLeft number e
          → Ensured d (direct (command code to)) (plain 0) e
      reset e number is q left =
          let f = rw is at left in
          taken d e _ _ refl (ap not here) (λ n. f.normal)
          (reset_outcome (parts_of d) (parts_of e) code to taken_code here (sym c.named ∙ ap command_code q) f.machines)

      module _ (n : Node) (m : n ≡ obey_node code (node_at d.octets d.flags)) where
        obeyed_by : (e : Store) (b : Bool) → (code ≡ 129 → ⊥) → eqb code 130 ≡ b → Stepped d e (moved n b (parts_of d))
            → Ensured d (direct (command code to)) (plain 0) e
        obeyed_by e b ne t s =
            taken d e _ _ refl (ap not here) s.normal
            (obeyed_outcome (parts_of d) (parts_of e) code to taken_code here ne (rw (m, sym t) at s.machines))

        pub obeyed : (e : Store) → (k ≡ ResetNode → ⊥) → (k ≡ ResetCommunication → ⊥) → Entered n d e
            → Ensured d (direct (command code to)) (plain 0) e
        obeyed e r s en = obeyed_by e false (rw c.named at (other_code k r)) (rw c.named at (no_reset k s)) (entered d en)

        pub obeyed_reset : (e : Store) {between deltas : List ℕ} → k ≡ ResetCommunication → Zeroed 48 84 d.deltas between
            → Entered n (record d { deltas = between }) e → Zeroed 84 128 e.deltas deltas
            → Ensured d (direct (command code to)) (plain 0) (record e { deltas = deltas })
        obeyed_reset e {between} {deltas} q z en y =
            let is : code ≡ 130 = sym c.named ∙ ap command_code q in
            obeyed_by (record e { deltas = deltas }) true (λ t. omega arith) (rw is refl) (entered_reset d z en y)
