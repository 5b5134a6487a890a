-- Document 02: what the machines hear of a call, the plain calls that it acts as, by what the machines hold at that moment.
-- Assumes nothing.
use Rattle.std.specs.Prelude.{Bool, not, cond, ◌&&◌, List, [], ◌∷◌, ◌++◌, ℕ, eqb, leb, length, take, drop}
use Rattle.profile.specs.declared.Node.{Node}
use Rattle.profile.specs.declared.Cause.TheVariants.{Lost}
use Rattle.profile.specs.Nodes.{stopped, operational}
use Rattle.profile.specs.Entries.{home_of, at_mapping}
use Rattle.profile.specs.MappedEntries.{listed, received, index_of, sub_of, moves, moved, total}
use Rattle.profile.specs.WatchEntries.{Watch}
use Rattle.profile.specs.Calls.{Plain, read, write, sample, command, raise, clear, drive, heartbeat, pass}
use Rattle.profile.specs.Calls.{Call, direct, receive, transmit, request, elapsed}
use Rattle.profile.specs.Refusals.{Conditions, refusal, transmit_refusal, request_refusal}
use Rattle.profile.specs.Server.{asked}
use Rattle.profile.specs.Watch.{is_due}
use Rattle.profile.specs.Machines.{Kind, node_alone, mapping, watch, Machine, fresh_machine, step}

-- all machines; of each kind k only the first `count k` are the device's
abbrev pub Machines : Type 0
Machines = (k : Kind) → ℕ → Machine k

abbrev pub fresh_machines : ℕ → Machines
fresh_machines number k i = fresh_machine k number

-- a machine over a list of plain calls, the first call first
module _ {S : Type 0} where
  abbrev pub fold : (Plain → S → S) → S → List Plain → S
  fold f s [] = s
  fold f s (c ∷ cs) = fold f (f c s) cs

-- every machine takes its step at each of the plain calls
abbrev pub step_each : List Plain → Machines → Machines
step_each cs ms k i = fold (step k i) (ms k i) cs

-- ---- the number of a call

-- the mapping that a write names; at any other call the first, on which nothing depends then
abbrev pub mapping_named : Plain → ℕ
mapping_named (read index sub) = 0
mapping_named (write index sub payload) = at_mapping 0 (λ m s. m) (home_of index sub)
mapping_named (sample digital analogue events) = 0
mapping_named (command code to) = 0
mapping_named (raise cause) = 0
mapping_named (clear cause) = 0
mapping_named (drive lines channels) = 0
mapping_named (heartbeat node) = 0
mapping_named (pass t) = 0

abbrev pub conditions : Machines → Plain → Conditions
conditions ms c =
    record {
      stopped = stopped (ms node_alone 0).node;
      held = record { mapping = (ms mapping (mapping_named c)).own; watches = (ms watch 0).own };
    }

unfoldable pub number_of : Machines → Call → ℕ
number_of ms (direct c) = refusal (conditions ms c) c
number_of ms (receive message frame) = 0
number_of ms (transmit message frame) = transmit_refusal (length frame)
number_of ms (request frame reply) = request_refusal (length frame) (length reply)
number_of ms (elapsed t) = 0

-- ---- what the machines hear

-- the entries in force of mapping m
abbrev pub in_force : Machines → ℕ → List ℕ
in_force ms m = listed (ms mapping m).own

-- "Receiving acts as a plain write of each entry in order"; "later bytes aren't read"
abbrev pub frame_writes : ℕ → List ℕ → List ℕ → List Plain
frame_writes m [] frame = []
frame_writes m (v ∷ vs) frame =
    cond (moves m v) (write (index_of v) (sub_of v) (take (moved m v) frame) ∷ frame_writes m vs (drop (moved m v) frame))
    (frame_writes m vs frame)

-- "A frame shorter than its mapping, or for a node not operational, is accepted and does nothing"
abbrev pub receive_writes : Machines → ℕ → List ℕ → List Plain
receive_writes ms m frame =
    cond (operational (ms node_alone 0).node && leb (total m (in_force ms m)) (length frame)) (frame_writes m (in_force ms m) frame) []

-- "A request does exactly what the plain call does, for the machines too": where it is of eight bytes, with a reply buffer of eight, and
-- the node is not stopped
abbrev pub served : Node → List ℕ → List ℕ → Bool
served n frame reply = eqb (request_refusal (length frame) (length reply)) 0 && not (stopped n)

-- "An entry whose sum reaches or passes its time raises communication loss in that very call"; "The machines hear an expiry as a raise, due
-- when the list's own calls make it so by these rules."
abbrev pub time_passes : ℕ → List Watch → List Plain
time_passes t ws = pass t ∷ cond (is_due t ws) (raise Lost ∷ []) []

-- a transmit is heard by no machine
abbrev pub heard_as : Machines → Call → List Plain
heard_as ms (direct c) = c ∷ []
heard_as ms (receive message frame) = receive_writes ms (received message) frame
heard_as ms (transmit message frame) = []
heard_as ms (request frame reply) = cond (served (ms node_alone 0).node frame reply) (asked frame) []
heard_as ms (elapsed t) = time_passes t (ms watch 0).own

abbrev pub step_all : Call → Machines → Machines
step_all c ms = step_each (heard_as ms c) ms

-- the plain calls that a list comes to, from the machines that it starts with: "by the mapping that the list's own calls leave"
abbrev pub spoken : Machines → List Call → List Plain
spoken ms [] = []
spoken ms (c ∷ cs) = heard_as ms c ++ spoken (step_all c ms) cs
