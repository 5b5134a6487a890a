-- The node by itself: what every machine carries of it, and a machine that has nothing else.
-- Assumes nothing.
use Rattle.std.specs.Prelude.{Bool, true, false, not, cond, ◌||◌, ℕ, ◌+◌, ◌*◌, eqb}
use Rattle.profile.specs.declared.Node.{Node}
use Rattle.profile.specs.declared.Home.{Home}
use Rattle.profile.specs.Bits.{bit}
use Rattle.profile.specs.Bytes.{little_endian}
use Rattle.profile.specs.Nodes.{with_settings, raise_node, clear_node, command_node}
use Rattle.profile.specs.Entries.{home_of, at_device, reads_sources}
use Rattle.profile.specs.Calls.{Plain, read, write, sample, command, raise, clear, drive, heartbeat, pass}
use Rattle.profile.specs.Refusals.{nothing_held}
use Rattle.profile.specs.Rules.{Rules, put}

-- "Device-wide for the machines are commands, causes, writes of 1029:1, 6005 and 6423, and reads of 6422:1"; document 02, Item 2: "Writing
-- [2003:0] is device-wide for the machines"
abbrev pub writes_setting : Home → Bool
writes_setting e = at_device false (λ index. not (eqb index 0x1001)) e

unfoldable pub device_wide : Plain → Bool
device_wide (read index sub) = reads_sources (home_of index sub)
device_wide (write index sub payload) = writes_setting (home_of index sub)
device_wide (sample digital analogue events) = false
device_wide (command code to) = true
device_wide (raise cause) = true
device_wide (clear cause) = true
device_wide (drive lines channels) = false
device_wide (heartbeat node) = false
device_wide (pass t) = false

-- what an accepted call makes of the node
abbrev pub write_node : Home → ℕ → Node → Node
write_node e v n =
    at_device n
    (λ index. with_settings (put index 0x1029 v n.behaviour) (put index 0x6005 (eqb v 1) n.digital)
    (put index 0x6423 (eqb v 1) n.analogue) (put index 0x2003 v n.length) n) e

unfoldable pub next_node : Plain → Node → Node
next_node (read index sub) n = n
next_node (write index sub payload) n = write_node (home_of index sub) (little_endian payload) n
next_node (sample digital analogue events) n = n
next_node (command code to) n = command_node code to n
next_node (raise cause) n = raise_node cause n
next_node (clear cause) n = clear_node cause n
next_node (drive lines channels) n = n
next_node (heartbeat node) n = n
next_node (pass t) n = n

-- "1001:0 error register: bit 0 for any cause, also bit 4 for communication loss"; 1029:1, 2003:0, 6005 and 6423
unfoldable pub read_node : ℕ → Node → ℕ
read_node index n =
    cond (eqb index 0x1001) (bit (n.internal || n.lost) + 16 * bit n.lost)
    (cond (eqb index 0x1029) n.behaviour
    (cond (eqb index 0x2003) n.length
    (cond (eqb index 0x6005) (bit n.digital)
    (bit n.analogue))))

abbrev pub nodes_alone : Rules
nodes_alone =
    record {
      Own = Unit {0};
      count = 1;
      fresh = tt;
      names = λ e i. false;
      written = λ e v i n o. o;
      joins = λ c i. false;
      joined = λ c i n o. o;
      cleared = λ o. o;
      emptied = λ o. o;
      moved = λ before after o. o;
      holds = λ o. nothing_held;
    }
