-- A heartbeat, and time that passes: from what the code of the watch leaves to every machine of the device.
-- Assumes nothing.
use mathlib.Core.Path.{◌≡◌, refl, sym}
use mathlib.Core.List.{List, [], ◌∷◌, map}
use Prim.Native.Nat.{ℕ}
use Rattle.profile.specs.Calls.{Plain, direct}
use Rattle.profile.specs.Calls.{heartbeat, pass}
use Rattle.profile.specs.Refusals.{refusal}
use Rattle.profile.specs.Machines.{Kind, node_alone, input_line, output_line, analogue_input, analogue_output, mapping, watch}
use Rattle.profile.specs.Machines.{rules_of, step}
use Rattle.profile.specs.Heard.{step_all, Machines, step_each}
use Rattle.profile.specs.Replies.{plain, answer}
use Rattle.profile.specs.Outcome.{Same, Outcome}
use Rattle.profile.specs.WatchEntries.{Watch}
use Rattle.profile.specs.Watch.{take_heartbeat, take_time}
use Rattle.profile.proofs.StepLaws.{OfWatch, of_heartbeat, of_pass, watch_hears, unheard}
use Rattle.profile.proofs.ListTheorem.{same_trans}
use Rattle.store.specs.View.{Parts, machines}
use Rattle.store.proofs.MachineLaws.{by_kind}
use Rattle.store.proofs.OutcomeLaws.{accepted_outcome}

-- a call that only the watch hears
module _ (d : Parts) {c : Plain} (w : OfWatch c) where
  abbrev left : Parts
  left = record d { watches = (rules_of watch).joined c 0 d.node d.watches }

  still : (k : Kind) (i : ℕ) → (k ≡ watch → ⊥) → machines d k i ≡ step k i c (machines d k i)
  still k i ne = sym (unheard w k i (machines d k i) ne)

  pub watch_alone : Same (machines left) (step_all (direct c) (machines d))
  watch_alone =
      by_kind (machines left) (step_all (direct c) (machines d)) (still node_alone 0 (λ e. cc))
      (λ i h. still input_line i (λ e. cc)) (λ i h. still output_line i (λ e. cc)) (λ i h. still analogue_input i (λ e. cc))
      (λ i h. still analogue_output i (λ e. cc)) (λ i h. still mapping i (λ e. cc)) (sym (watch_hears w (machines d watch 0)))

-- with other entries of the watch
abbrev pub with_watches : List Watch → Parts → Machines
with_watches ws d = machines (record d { watches = ws })

pub heartbeat_outcome : (d r : Parts) (node : ℕ) → Same (machines r) (with_watches (map (take_heartbeat node) d.watches) d)
    → Outcome (machines d) (direct (heartbeat node)) (plain 0) (machines r)
unfolding refusal answer
heartbeat_outcome d r node s =
    accepted_outcome d r (heartbeat node) (plain 0) refl
    (λ t. same_trans s (watch_alone d (of_heartbeat node))) refl

-- the machines after the time of an elapsed call, before any raise
pub passed_machines : (d r : Parts) (t : ℕ) → Same (machines r) (with_watches (map (take_time t) d.watches) d)
    → Same (machines r) (step_each (pass t ∷ []) (machines d))
passed_machines d r t s = same_trans s (watch_alone d (of_pass t))
