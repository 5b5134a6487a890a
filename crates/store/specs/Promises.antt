-- What the calls in place promise of the six arrays, and what the parts of a call promise to it.
-- Assumes nothing.
use Rattle.std.specs.Prelude.{◌≡◌, Bool, true, false, not, cond, ◌||◌, List, [], ℕ, ◌≤◌, ◌<◌, ◌^◌}
use Rattle.profile.specs.declared.Node.{Node}
use Rattle.profile.specs.declared.Home.{Home}
use Rattle.profile.specs.declared.Home.TheVariants.{Constant, Window, InputChannel, OutputChannel, Sources, MappingEntry, WatchEntry}
use Rattle.profile.specs.declared.Home.TheVariants as home
use Rattle.profile.specs.AnalogueInput.{input_size}
use Rattle.windows.specs.Promises.{Covers}
use Rattle.lines.specs.Promises.{Moved}
use Rattle.channels.specs.View.{output_at}
use Rattle.analogue_inputs.specs.Promises.{SourcesStored}
use Rattle.analogue_outputs.specs.Promises.{OutputsMoved}
use Rattle.analogue_outputs.specs.Writable as channel
use Rattle.mappings.specs.View.{mapping_at}
use Rattle.watches.specs.View.{watches_of}
use Rattle.profile.specs.Nodes.{fault, addressed}
use Rattle.profile.specs.Refusals.{Check, mapping_checks, watch_checks, create_refusal, created_number}
use Rattle.profile.specs.Machines.{entry_names, write_own, clear_own, empty_own, move_own}
use Rattle.profile.specs.NodeAlone.{writes_setting, write_node}
use Rattle.profile.specs.Entries.{reads_sources, at_mapping, at_watch}
use Rattle.profile.specs.Heard.{Machines, fresh_machines}
use Rattle.profile.specs.Outcome.{Same, Outcome}
use Rattle.profile.specs.Calls.{Plain, read, write, sample, command, raise, clear, drive, heartbeat, pass}
use Rattle.profile.specs.Calls.{Call, direct, receive, transmit, request, elapsed, Reply}
use Rattle.store.specs.declared.Store.{Store}
use Rattle.store.specs.View.{node_at, node_flags, with_node, Parts, own_of, machines, machines_of, Sized, Normal}

-- the promise of create: the number, and a fresh device with the node number, or with 127
pub record FreshAs (number : ℕ) (r : ℕ) (left : Store) : Type 0 where
  pub numbered : r ≡ create_refusal number
  pub machines : Same (machines_of left) (fresh_machines (created_number number))
  pub normal : Normal left

-- a command for another node
abbrev pub command_elsewhere : Node → Plain → Bool
command_elsewhere n (read index sub) = false
command_elsewhere n (write index sub bytes) = false
command_elsewhere n (sample digital analogue events) = false
command_elsewhere n (command code to) = not (addressed to n)
command_elsewhere n (raise cause) = false
command_elsewhere n (clear cause) = false
command_elsewhere n (drive lines channels) = false
command_elsewhere n (heartbeat node) = false
command_elsewhere n (pass t) = false

abbrev pub elsewhere : Node → Call → Bool
elsewhere n (direct c) = command_elsewhere n c
elsewhere n (receive message frame) = false
elsewhere n (transmit message frame) = false
elsewhere n (request frame reply) = false
elsewhere n (elapsed t) = false

-- the promise of each other call: the complete outcome for the machines; a refused call and a command for another node
-- leave every array; a device whose state's byte is normal stays so
pub record Ensured (before : Store) (c : Call) (r : Reply) (left : Store) : Type 0 where
  pub outcome : Outcome (machines_of before) c r (machines_of left)
  pub untouched : (r.number ≡ 0 → ⊥) → left ≡ before
  pub passed_by : elsewhere (node_at before.octets before.flags) c ≡ true → left ≡ before
  pub normal : Normal before → Normal left

-- every array is fresh, with a node number
pub record FreshLeft (number : ℕ) (left : Store) : Type 0 where
  pub machines : Same (machines_of left) (fresh_machines number)
  pub normal : Normal left

-- a part of a call brought the machines to ms
pub record Stepped (before left : Store) (ms : Machines) : Type 0 where
  pub machines : Same (machines_of left) ms
  pub normal : Normal before → Normal left

-- every machine of the device has the node n, its mappings and its watch are empty after a reset of communication, and its outputs have
-- moved as fault began, lasted or ended
abbrev pub moved : Node → Bool → Parts → Machines
moved n reset d k i = record { node = n; own = move_own (fault d.node) (fault n) k (empty_own reset k (own_of d k i)) }

-- the number v was written to an entry
abbrev pub wrote : Home → ℕ → Parts → Machines
wrote e v d k i =
    cond (writes_setting e || entry_names e k i)
    (record { node = write_node e v d.node; own = write_own e v k i d.node (own_of d k i) })
    (machines d k i)

-- an entry was read
abbrev pub has_read : Home → Parts → Machines
has_read e d k i = record { node = d.node; own = cond (reads_sources e) (clear_own k (own_of d k i)) (own_of d k i) }

-- an entry that the device has
abbrev pub Readable : Home → Type 0
Readable (Constant v) = Unit {0}
Readable (Window row w s) = Covers row w s × (row < 11)
Readable (InputChannel index n) = n < 16
Readable (OutputChannel index n) = n < 8
Readable Sources = Unit {0}
Readable (home.Device index) = Unit {0}
Readable (MappingEntry m sub) = (m < 8) × (sub ≤ 8)
Readable (WatchEntry n) = n < 4

-- and a value that the refusal table lets pass
abbrev pub Writable : Home → ℕ → Type 0
Writable (Constant c) v = ⊥
Writable (Window row w s) v = Covers row w s × (1 ≤ row) × (row < 11) × (v < 2 ^ w)
Writable (InputChannel index n) v = (n < 16) × (v < 256 ^ input_size index)
Writable (OutputChannel index n) v = (n < 8) × channel.Writable index v
Writable Sources v = ⊥
Writable (home.Device index) v = v < 256
Writable (MappingEntry m sub) v = (m < 8) × (sub ≤ 8)
Writable (WatchEntry n) v = n < 4

-- the rows of the refusal table that depend on what the array holds
abbrev pub held_by : List ℕ → Home → ℕ → List Check
held_by deltas e v =
    at_mapping (at_watch [] (λ n. watch_checks (watches_of deltas) n v) e) (λ m sub. mapping_checks (mapping_at deltas m) m sub v) e

-- the node n was stored, and the outputs have moved as fault began, lasted or ended
pub record Entered (n : Node) (before left : Store) : Type 0 where
  pub stored : left ≡ record (with_node n before) { words = left.words; values = left.values }
  pub lines : Moved (fault (node_at before.octets before.flags)) (fault n) before.words left.words
  pub channels : OutputsMoved (fault (node_at before.octets before.flags)) (fault n)
      (output_at (node_flags before.flags n) before.values) (output_at (node_flags before.flags n) left.values) before.values left.values
  pub sized : Sized before

-- an accepted read of 6422:1 clears the source bits, any other read leaves them
pub record SourcesRead (e : Home) (octets octets' : List ℕ) : Type 0 where
  pub cleared : reads_sources e ≡ true → SourcesStored 0 octets octets'
  pub kept : reads_sources e ≡ false → octets' ≡ octets
