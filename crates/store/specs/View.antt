-- The six arrays of a device, and the machines that they hold.
-- octets: node number, state, 1029:1, then the channels', then 2003. flags: internal failure, communication loss, 6005, 6423, then the
-- channels'.
-- Assumes nothing.
use Rattle.std.specs.Prelude.{◌≡◌, Bool, false, cond, List, ℕ, eqb, length, get_or, set, ℤ}
use Rattle.profile.specs.declared.State.{State}
use Rattle.profile.specs.declared.State.TheVariants.{PreOperational, Operational, Stopped}
use Rattle.profile.specs.declared.Node.{Node}
use Rattle.profile.specs.declared.AnalogueInput.{AnalogueInput}
use Rattle.profile.specs.declared.AnalogueOutput.{AnalogueOutput}
use Rattle.profile.specs.MappedEntries.{Mapping}
use Rattle.profile.specs.WatchEntries.{Watch}
use Rattle.profile.specs.Machines.{Kind, node_alone, input_line, output_line, analogue_input, analogue_output, mapping, watch, Own}
use Rattle.profile.specs.Heard.{Machines}
use Rattle.lines.specs.View as line
use Rattle.channels.specs.View.{input_at, output_at}
use Rattle.mappings.specs.View.{mapping_at}
use Rattle.watches.specs.View.{watches_of}
use Rattle.store.specs.declared.Store.{Store}

-- ---- the node

-- the state of a number, as a heartbeat gives it; any other counts as stopped
abbrev pub state_of : ℕ → State
state_of n = cond (eqb n 127) PreOperational (cond (eqb n 5) Operational Stopped)

abbrev pub state_number : State → ℕ
state_number PreOperational = 127
state_number Operational = 5
state_number Stopped = 4

abbrev pub node_at : List ℕ → List Bool → Node
node_at octets flags =
    record {
      number = get_or octets 0 0;
      state = state_of (get_or octets 1 0);
      internal = get_or flags 0 false;
      lost = get_or flags 1 false;
      behaviour = get_or octets 2 0;
      digital = get_or flags 2 false;
      analogue = get_or flags 3 false;
      length = get_or octets 21 0;
    }

-- the node stored
abbrev pub node_octets : List ℕ → Node → List ℕ
node_octets octets n = set (set (set (set octets 0 n.number) 1 (state_number n.state)) 2 n.behaviour) 21 n.length

abbrev pub node_flags : List Bool → Node → List Bool
node_flags flags n = set (set (set (set flags 0 n.internal) 1 n.lost) 2 n.digital) 3 n.analogue

-- with another node, with other octets, and as a sample leaves it
abbrev pub with_node : Node → Store → Store
with_node n d = record d { octets = node_octets d.octets n; flags = node_flags d.flags n }

abbrev pub with_octets : List ℕ → Store → Store
with_octets octets d = record d { octets = octets }

abbrev pub with_sampled : List ℕ → List ℕ → List ℤ → Store → Store
with_sampled octets words values d = record d { octets = octets; words = words; values = values }

-- ---- the device

-- what the arrays hold
pub record Parts : Type 0 where
  pub node : Node
  pub words : List ℕ
  pub inputs : ℕ → AnalogueInput
  pub outputs : ℕ → AnalogueOutput
  pub mappings : ℕ → Mapping
  pub watches : List Watch

-- the own settings and state of machine i of a kind
abbrev pub own_of : Parts → (k : Kind) → ℕ → Own k
own_of d node_alone i = tt
own_of d input_line i = line.input_at d.words i
own_of d output_line i = line.output_at d.words i
own_of d analogue_input i = d.inputs i
own_of d analogue_output i = d.outputs i
own_of d mapping i = d.mappings i
own_of d watch i = d.watches

-- each machine, with the node for its own
abbrev pub machines : Parts → Machines
machines d k i = record { node = d.node; own = own_of d k i }

abbrev pub parts_of : Store → Parts
parts_of d =
    record {
      node = node_at d.octets d.flags;
      words = d.words;
      inputs = input_at d.octets d.limits d.deltas d.values;
      outputs = output_at d.flags d.values;
      mappings = mapping_at d.deltas;
      watches = watches_of d.deltas;
    }

-- each machine of the device
abbrev pub machines_of : Store → Machines
machines_of d = machines (parts_of d)

-- six lent arrays
abbrev pub held : List ℕ → List Bool → List ℕ → List ℤ → List ℕ → List ℤ → Store
held octets flags words limits deltas values =
    record { octets = octets; flags = flags; words = words; limits = limits; deltas = deltas; values = values }

-- the lengths of the six
pub record Sized (d : Store) : Type 0 where
  pub octets : length d.octets ≡ 22
  pub flags : length d.flags ≡ 12
  pub words : length d.words ≡ 40
  pub limits : length d.limits ≡ 32
  pub deltas : length d.deltas ≡ 128
  pub values : length d.values ≡ 56

-- the state's byte is the number of a state
pub record Normal (d : Store) : Type 0 where
  pub state : state_number (state_of (get_or d.octets 1 0)) ≡ get_or d.octets 1 0
