-- Document 02, Item 5: what is claimed of the heartbeat watch, after any list of calls.
-- Assumes nothing.
use Rattle.std.specs.Prelude.{◌≡◌, Bool, true, false, not, cond, ◌||◌, ◌&&◌, List, [], ◌∷◌, ◌++◌, ℕ, suc, ◌+◌, ◌*◌, ◌≤◌, ◌<◌, eqb, ltb, length}
use Rattle.profile.specs.declared.Cause.TheVariants.{Lost}
use Rattle.profile.specs.Bytes.{little_endian}
use Rattle.profile.specs.WatchEntries.{Watch, waiting, watch_at, node_in, time_in, is_used, watches, is_second}
use Rattle.profile.specs.Calls.{Plain, read, write, sample, command, raise, clear, drive, heartbeat, pass, on_watched}
use Rattle.profile.specs.Calls.{Call, direct, receive, transmit, request, elapsed}
use Rattle.profile.specs.Server.{asked}
use Rattle.profile.specs.Refusals.{Conditions, refusal}
use Rattle.profile.specs.Machines.{Kind, node_alone, watch}
use Rattle.profile.specs.Heard.{number_of}
use Rattle.profile.specs.Lists.{each, after}
use Rattle.profile.specs.Nodes.{stopped}
use Rattle.profile.specs.Replies.{read_reply, reply}

-- entry n of 1016, from 0, after a list of calls on a device with the node number
abbrev pub entry_after : ℕ → List Call → ℕ → Watch
entry_after number cs n = watch_at (after number cs watch 0).own n

-- ---- the calls that may come between

-- "write of that entry or reset": of entry n, of a device with the node number. `pass` is no call of the device, and is none of the others
abbrev pub ends_watch : ℕ → ℕ → Plain → Bool
ends_watch number n (read index sub) = false
ends_watch number n (write index sub payload) = eqb index 0x1016 && eqb sub (suc n)
ends_watch number n (sample digital analogue events) = false
ends_watch number n (command code to) = (eqb to 0 || eqb to number) && (eqb code 129 || eqb code 130)
ends_watch number n (raise cause) = false
ends_watch number n (clear cause) = false
ends_watch number n (drive lines channels) = false
ends_watch number n (heartbeat from) = false
ends_watch number n (pass t) = true

-- "heartbeat of that node, write of that entry or reset": of the node that entry n watches
abbrev pub disturbs : ℕ → ℕ → ℕ → Plain → Bool
disturbs number node n c = on_watched (ends_watch number n c) (λ from. eqb from node) (λ t. true) c

-- no plain call for which p holds, by itself or as a request; a received frame never writes 1016, which no mapping takes
abbrev pub is_none : (Plain → Bool) → Call → Bool
is_none p (direct c) = not (p c)
is_none p (receive message frame) = true
is_none p (transmit message frame) = true
is_none p (request frame reply) = each (λ c. not (p c)) (asked frame)
is_none p (elapsed t) = true

abbrev pub leaves_watch : ℕ → ℕ → ℕ → Call → Bool
leaves_watch number node n c = is_none (disturbs number node n) c

-- the milliseconds that a call brings, and the calls of a list together
abbrev pub time_of : Call → ℕ
time_of (direct c) = 0
time_of (receive message frame) = 0
time_of (transmit message frame) = 0
time_of (request frame reply) = 0
time_of (elapsed t) = t

abbrev pub time_over : List Call → ℕ
time_over [] = 0
time_over (c ∷ cs) = time_of c + time_over cs

-- ---- "After a heartbeat .., the elapsed call that brings the sum to the time raises the loss or finds it present"

-- an entry is started, and its sum reaches or passes its time by t milliseconds more
pub record Reaches (t : ℕ) (w : Watch) : Type 0 where
  pub started : w.started ≡ true
  pub time : time_in w.value ≤ w.sum + t

-- after the calls `heard`, an elapsed call with t milliseconds does not reach the time of entry n
pub record NotYet (number : ℕ) (heard : List Call) (n t : ℕ) : Type 0 where
  pub below : (entry_after number heard n).sum + t < time_in (entry_after number heard n).value
  -- so that where it raises the loss, it does for another entry: where none reaches its time it leaves every node as it was
  pub raises_none : ((j : ℕ) → j < 4 → (j ≡ n → ⊥) → Reaches t (entry_after number heard j) → ⊥)
      → (k : Kind) (i : ℕ) → (after number (heard ++ elapsed t ∷ []) k i).node ≡ (after number heard k i).node

-- it does reach it
pub record Expired (number : ℕ) (heard : List Call) (n v t : ℕ) : Type 0 where
  -- "raises the loss or finds it present", in every machine
  pub lost : (k : Kind) (i : ℕ) → (after number (heard ++ elapsed t ∷ []) k i).node.lost ≡ true
  -- "and waits for a first heartbeat again"
  pub waits : entry_after number (heard ++ elapsed t ∷ []) n ≡ waiting v

-- entry n has the value v after the calls `before`; then come a heartbeat of its node and the calls `between`
pub record Watched (number : ℕ) (before : List Call) (node n v : ℕ) (between : List Call) : Type 0 where
  -- its sum is the time that they brought
  pub summed : entry_after number (before ++ direct (heartbeat node) ∷ between) n
      ≡ record { value = v; started = true; sum = time_over between }
  -- no elapsed call among them raised the loss for it
  pub none_earlier : (first rest : List Call) (t : ℕ) → between ≡ first ++ elapsed t ∷ rest
      → NotYet number (before ++ direct (heartbeat node) ∷ first) n t
  -- nor does the next that stays below its time; the one that brings the sum to its time does
  pub not_yet : (t : ℕ) → time_over between + t < time_in v → NotYet number (before ++ direct (heartbeat node) ∷ between) n t
  pub expired : (t : ℕ) → time_in v ≤ time_over between + t → Expired number (before ++ direct (heartbeat node) ∷ between) n v t

-- whatever calls come between, as long as they stay below the time
abbrev pub LossInTime : Type 0
LossInTime =
    (number : ℕ) (before : List Call) (node n v : ℕ) (between : List Call) → n < 4
    → (entry_after number before n).value ≡ v → watches node v ≡ true
    → each (leaves_watch number node n) between ≡ true → time_over between < time_in v
    → Watched number before node n v between

-- ---- after any list

-- a started entry is used, and its sum is below its time, so at most 65,534
pub record Below (w : Watch) : Type 0 where
  pub used : is_used w.value ≡ true
  pub below : w.sum < time_in w.value

abbrev pub SumsBelow : Type 0
SumsBelow = (number : ℕ) (cs : List Call) (n : ℕ) → (entry_after number cs n).started ≡ true → Below (entry_after number cs n)

-- no two used entries are for one node
abbrev pub NoNodeTwice : Type 0
NoNodeTwice =
    (number : ℕ) (cs : List Call) (node m n : ℕ) → watches node (entry_after number cs m).value ≡ true
    → watches node (entry_after number cs n).value ≡ true → m ≡ n

-- ---- what ends a watch, and that nothing but its node's heartbeat starts one

-- "default 0", "Writing an entry stops its watch; either reset empties all four.": entry n right after
pub record Ends (number : ℕ) (cs : List Call) (n : ℕ) : Type 0 where
  pub fresh : entry_after number [] n ≡ waiting 0
  pub written : (payload : List ℕ) → number_of (after number cs) (direct (write 0x1016 (suc n) payload)) ≡ 0
      → entry_after number (cs ++ direct (write 0x1016 (suc n) payload) ∷ []) n ≡ waiting (little_endian payload)
  pub reset : (code to : ℕ) → number_of (after number cs) (direct (command code to)) ≡ 0
      → (eqb to 0 || eqb to number) && (eqb code 129 || eqb code 130) ≡ true
      → entry_after number (cs ++ direct (command code to) ∷ []) n ≡ waiting 0

abbrev pub WatchEnds : Type 0
WatchEnds = (number : ℕ) (cs : List Call) (n : ℕ) → n < 4 → Ends number cs n

-- a heartbeat of a node that the value v names, a write of entry n, or a reset, of a device with the node number
abbrev pub touches : ℕ → ℕ → ℕ → Plain → Bool
touches number v n c = on_watched (ends_watch number n c) (λ from. watches from v) (λ t. true) c

abbrev pub leaves_waiting : ℕ → ℕ → ℕ → Call → Bool
leaves_waiting number v n c = is_none (touches number v n) c

-- "Watching starts with that node's first heartbeat."; an entry "waits for a first heartbeat again", whatever else comes
abbrev pub WaitsForHeartbeat : Type 0
WaitsForHeartbeat =
    (number : ℕ) (before : List Call) (n : ℕ) (between : List Call) → (entry_after number before n).started ≡ false
    → each (leaves_waiting number (entry_after number before n).value n) between ≡ true
    → entry_after number (before ++ between) n ≡ entry_after number before n

-- ---- "The machines hear an expiry as a raise, due when the list's own calls make it so by these rules."

-- where one of the four reaches its time, and where none does
pub record HeardOf (number : ℕ) (cs : List Call) (t : ℕ) (k : Kind) (i : ℕ) : Type 0 where
  pub due : (n : ℕ) → n < 4 → Reaches t (entry_after number cs n)
      → after number (cs ++ elapsed t ∷ []) k i ≡ after number (cs ++ direct (raise Lost) ∷ []) k i
  pub not_due : ((n : ℕ) → n < 4 → Reaches t (entry_after number cs n) → ⊥)
      → after number (cs ++ elapsed t ∷ []) k i ≡ after number cs k i

-- every machine but the watch
abbrev pub HeardAsRaise : Type 0
HeardAsRaise = (number : ℕ) (cs : List Call) (t : ℕ) (k : Kind) (i : ℕ) → (k ≡ watch → ⊥) → HeardOf number cs t k i

-- no machine but the watch hears a heartbeat, and so none clears a loss; "one from a node no entry names does nothing"
pub record HeartbeatOf (number : ℕ) (cs : List Call) (node : ℕ) : Type 0 where
  pub others : (k : Kind) (i : ℕ) → (k ≡ watch → ⊥) → after number (cs ++ direct (heartbeat node) ∷ []) k i ≡ after number cs k i
  pub unnamed : ((n : ℕ) → n < 4 → watches node (entry_after number cs n).value ≡ false)
      → after number (cs ++ direct (heartbeat node) ∷ []) watch 0 ≡ after number cs watch 0

abbrev pub HeartbeatHeard : Type 0
HeartbeatHeard = (number : ℕ) (cs : List Call) (node : ℕ) → HeartbeatOf number cs node

-- ---- an entry read, and a write of it that is refused

pub record Accessed (number : ℕ) (cs : List Call) (n : ℕ) : Type 0 where
  -- unused values too
  pub read_back : stopped (after number cs node_alone 0).node ≡ false
      → reply (after number cs) (direct (read 0x1016 (suc n))) ≡ read_reply (entry_after number cs n).value 4
  -- "A call that the table below or a later request refuses changes no machine": its watch goes on
  pub refused : (payload : List ℕ) → (number_of (after number cs) (direct (write 0x1016 (suc n) payload)) ≡ 0 → ⊥)
      → entry_after number (cs ++ direct (write 0x1016 (suc n) payload) ∷ []) n ≡ entry_after number cs n

abbrev pub WatchAccessed : Type 0
WatchAccessed = (number : ℕ) (cs : List Call) (n : ℕ) → n < 4 → Accessed number cs n

-- ---- the value of an entry, in numbers

-- "bits 16 to 23 a node, bits 0 to 15 milliseconds. Time 0 or a node outside 1 to 127 means unused."
pub record Valued (node time : ℕ) : Type 0 where
  pub node_is : node_in (65536 * node + time) ≡ node
  pub time_is : time_in (65536 * node + time) ≡ time
  pub used : 1 ≤ node → node ≤ 127 → 1 ≤ time → is_used (65536 * node + time) ≡ true
  pub no_time : time ≡ 0 → is_used (65536 * node + time) ≡ false
  pub no_node : node ≡ 0 → is_used (65536 * node + time) ≡ false
  pub above_node : 128 ≤ node → is_used (65536 * node + time) ≡ false

abbrev pub ValuesAsSaid : Type 0
ValuesAsSaid = (node time : ℕ) → node < 256 → time < 65536 → Valued node time

-- "Two used entries for one node": a used value v at entry n and another entry; an unused value, and the entry itself, count for nothing
pub record SecondOf (n v : ℕ) (ws : List Watch) : Type 0 where
  pub another : (j : ℕ) → j < 4 → (j ≡ n → ⊥) → is_used v ≡ true → watches (node_in v) (watch_at ws j).value ≡ true
      → is_second n v ws ≡ true
  pub none : ((j : ℕ) → j < 4 → (j ≡ n → ⊥) → watches (node_in v) (watch_at ws j).value ≡ false) → is_second n v ws ≡ false
  pub unused : is_used v ≡ false → is_second n v ws ≡ false

abbrev pub SecondNode : Type 0
SecondNode = (n v : ℕ) (ws : List Watch) → SecondOf n v ws

-- "Two used entries for one node: 06040043, after the value check. Bits 24 to 31 set: 06090030.": a write of four bytes to entry n
abbrev pub WritesRefused : Type 0
WritesRefused =
    (has : Conditions) (n : ℕ) (payload : List ℕ) → n < 4 → has.stopped ≡ false → length payload ≡ 4
    → refusal has (write 0x1016 (suc n) payload)
    ≡ cond (ltb 0xFFFFFF (little_endian payload)) 0x06090030
    (cond (is_second n (little_endian payload) has.held.watches) 0x06040043 0)
