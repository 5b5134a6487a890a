-- Document 02, Item 5, at the device: the item's last sentences, of a device and any list of calls on it.
-- Assumes nothing.
use mathlib.Core.Path.{◌≡◌, ap, ◌∙◌}
use mathlib.Core.Bool.{true}
use mathlib.Core.List.{List, [], ◌∷◌, ◌++◌}
use Prim.Native.Nat.{ℕ, ◌+◌, ◌≤◌, ◌<◌}
use native.Mathlib.Omega.{arith}
use Rattle.std.specs.Prelude.{Result}
use Rattle.profile.specs.declared.refusals.Refusal.{Refusal}
use Rattle.profile.specs.Calls.{heartbeat, Call, direct, elapsed, Reply}
use Rattle.profile.specs.Refusals.{created_number}
use Rattle.profile.specs.WatchEntries.{time_in, watches}
use Rattle.profile.specs.Machines.{node_alone, Machine}
use Rattle.profile.specs.Lists.{each, Run}
use Rattle.profile.specs.WatchClaims.{entry_after, leaves_watch, time_over}
use Rattle.profile.proofs.WatchTheorem.{loss_in_time}
use Rattle.device.specs.declared.Device.{Device}
use Rattle.device.specs.View.{machines_of}
use Rattle.device.specs.Promises.{CreatedAs, Ensured}
use Rattle.device.proofs.EveryList.{every_list_of_calls}

-- after a heartbeat of the node that entry n watches, and other calls that stay below its time, the elapsed call that brings the sum to the
-- time leaves a device in which communication loss is present
pub loss_at_device : (number : ℕ) (answer : Result (Unit {0}) Refusal) (created : Device) → CreatedAs number answer created
    → (before : List Call) (node n v : ℕ) (between : List Call) (t : ℕ) → n < 4
    → (entry_after (created_number number) before n).value ≡ v → watches node v ≡ true
    → each (leaves_watch (created_number number) node n) between ≡ true
    → time_over between < time_in v → time_in v ≤ time_over between + t
    → (rs : List Reply) (left : Device)
    → Run Ensured created ((before ++ direct (heartbeat node) ∷ between) ++ elapsed t ∷ []) rs left
    → (machines_of left node_alone 0).node.lost ≡ true
loss_at_device number answer created made before node n v between t few is used calm below reached rs left run =
    ap (λ (m : Machine node_alone). m.node.lost)
    ((every_list_of_calls number answer created made _ rs left run).machines.at node_alone 0 (omega arith))
    ∙ ((loss_in_time (created_number number) before node n v between few is used calm below).expired t reached).lost node_alone 0
