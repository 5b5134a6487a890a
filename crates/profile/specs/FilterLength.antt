-- Document 02, Item 2: what the filter length changes, and what it leaves. First document 01's rule with its fixed 3, as it was defined
-- before the request; then what is claimed of 2003.
-- Assumes nothing.
use Rattle.std.specs.Prelude.{◌≡◌, Bool, true, false, not, cond, ◌||◌, ◌&&◌, List, [], ◌∷◌, ℕ, ◌+◌, ◌≤◌, ◌<◌, eqb, ltb, leb}
use Rattle.std.specs.Bool.{beq}
use Rattle.profile.specs.declared.Node.{Node}
use Rattle.profile.specs.Bits.{flip, gather}
use Rattle.profile.specs.Bytes.{little_endian, bytes, line_bit}
use Rattle.profile.specs.Nodes.{operational, with_settings}
use Rattle.profile.specs.Calls.{Plain, read, write, sample, command, raise, clear, drive, heartbeat, pass, on_sample}
use Rattle.profile.specs.Calls.{Call, direct, receive, transmit, request, elapsed, Reply}
use Rattle.profile.specs.Refusals.{accepted}
use Rattle.profile.specs.Server.{asked}
use Rattle.profile.specs.InputLine.{InputLine, settle, reads, line_event}
use Rattle.profile.specs.Machines.{Kind, node_alone, input_line, output_line, analogue_input, analogue_output, mapping, watch, Machine}
use Rattle.profile.specs.Machines.{known, step}
use Rattle.profile.specs.Heard.{Machines, fresh_machines, fold, heard_as, number_of}
use Rattle.profile.specs.Replies.{sample_reply, channel_events, refuse_to, reply}
use Rattle.profile.specs.Lists.{each, after}

-- ---- document 01's rule, as it was

-- "Filter on and s differs, c rises by 1; at 3, f becomes s and c 0."
unfoldable pub sample_line01 : Bool → InputLine → InputLine
sample_line01 s m =
    cond (not m.filter) (settle s 0 m)
    (cond (beq s m.settled) (settle m.settled 0 m)
    (cond (leb 3 (m.count + 1)) (settle s 0 m)
    (settle m.settled (m.count + 1) m)))

unfoldable pub edge01 : Bool → InputLine → Bool
edge01 s m =
    flip m.settled (sample_line01 s m).settled
    && (m.any_change || cond (reads (sample_line01 s m)) m.low_to_high m.high_to_low)

unfoldable pub line_event01 : Node → Bool → InputLine → Bool
line_event01 n s m = operational n && n.digital && edge01 s m

-- a machine and a plain call: a sample moves an input line by this rule, all else is as it is now
abbrev pub step_line01 : ℕ → Plain → Machine input_line → Machine input_line
step_line01 i c m =
    on_sample (step input_line i c m)
    (λ digital analogue. cond (accepted (known input_line m) c)
    (record { node = m.node; own = sample_line01 (line_bit digital i) m.own }) m) c

abbrev pub step01 : (k : Kind) → ℕ → Plain → Machine k → Machine k
step01 node_alone i c m = step node_alone i c m
step01 input_line i c m = step_line01 i c m
step01 output_line i c m = step output_line i c m
step01 analogue_input i c m = step analogue_input i c m
step01 analogue_output i c m = step analogue_output i c m
step01 mapping i c m = step mapping i c m
step01 watch i c m = step watch i c m

-- the machines after a list, and what they answer
abbrev pub after01 : Machines → List Call → Machines
after01 ms [] = ms
after01 ms (c ∷ cs) = after01 (λ k i. fold (step01 k i) (ms k i) (heard_as ms c)) cs

abbrev pub line_events01 : Machines → List ℕ → ℕ → Bool
line_events01 ms digital i = line_event01 (ms input_line i).node (line_bit digital i) (ms input_line i).own

abbrev pub reply01 : Machines → Call → Reply
reply01 ms (direct c) =
    on_sample (reply ms (direct c))
    (λ digital analogue. cond (eqb (number_of ms (direct c)) 0)
    (sample_reply (gather 16 (channel_events ms analogue)) (bytes 16 (line_events01 ms digital)))
    (refuse_to (number_of ms (direct c)) (direct c))) c
reply01 ms (receive message frame) = reply ms (receive message frame)
reply01 ms (transmit message frame) = reply ms (transmit message frame)
reply01 ms (request frame r) = reply ms (request frame r)
reply01 ms (elapsed t) = reply ms (elapsed t)

-- ---- with the length left at 3 every answer to every list is what it was

-- f at the index of a read, g at the index and the data of a write, true at any other plain call
abbrev pub on_plain : (ℕ → Bool) → (ℕ → List ℕ → Bool) → Plain → Bool
on_plain f g (read index sub) = f index
on_plain f g (write index sub payload) = g index payload
on_plain f g (sample digital analogue events) = true
on_plain f g (command code to) = true
on_plain f g (raise cause) = true
on_plain f g (clear cause) = true
on_plain f g (drive lines channels) = true
on_plain f g (heartbeat node) = true
on_plain f g (pass t) = true

-- f at the index of a read, g at the index and the data of a write, true at any other call; at a request by the plain call that it is
abbrev pub on_access : (ℕ → Bool) → (ℕ → List ℕ → Bool) → Call → Bool
on_access f g (direct (read index sub)) = f index
on_access f g (direct (write index sub payload)) = g index payload
on_access f g (direct (sample digital analogue events)) = true
on_access f g (direct (command code to)) = true
on_access f g (direct (raise cause)) = true
on_access f g (direct (clear cause)) = true
on_access f g (direct (drive lines channels)) = true
on_access f g (direct (heartbeat node)) = true
on_access f g (direct (pass t)) = true
on_access f g (receive message frame) = true
on_access f g (transmit message frame) = true
on_access f g (request frame r) = each (on_plain f g) (asked frame)
on_access f g (elapsed t) = true

-- a call that leaves the length at 3: it writes nothing but 3 to 2003
abbrev pub leaves_three : Call → Bool
leaves_three c = on_access (λ index. true) (λ index payload. not (eqb index 0x2003) || eqb (little_endian payload) 3) c

-- a call that does not name 2003, which no device had
abbrev pub without2003 : Call → Bool
without2003 c = on_access (λ index. not (eqb index 0x2003)) (λ index payload. not (eqb index 0x2003)) c

pub record AsBefore (number : ℕ) (cs : List Call) : Type 0 where
  pub machines : (k : Kind) (i : ℕ) → after number cs k i ≡ after01 (fresh_machines number) cs k i
  pub answers : (c : Call) → without2003 c ≡ true → reply (after number cs) c ≡ reply01 (after01 (fresh_machines number) cs) c

-- ---- a count is below the length of the last sample

-- the length that stood at the last accepted sample: n before the call c, and m the machine that hears it
abbrev pub sampled_with : ℕ → Plain → Machine input_line → ℕ
sampled_with n c m = on_sample n (λ digital analogue. cond (accepted (known input_line m) c) m.node.length n) c

-- the same after a list of plain calls, or 1 while the count is 0
abbrev pub last_length : ℕ → Machine input_line → ℕ → List Plain → ℕ
last_length i m n [] = n
last_length i m n (c ∷ cs) =
    last_length i (step input_line i c m) (cond (eqb (step input_line i c m).own.count 0) 1 (sampled_with n c m)) cs

-- the largest length that stood since the count was last 0: n before a call, and m the machine after it
abbrev pub largest : ℕ → Machine input_line → ℕ
largest n m = cond (eqb m.own.count 0 || ltb n m.node.length) m.node.length n

-- the same after a list of plain calls
abbrev pub largest_since : ℕ → Machine input_line → ℕ → List Plain → ℕ
largest_since i m n [] = n
largest_since i m n (c ∷ cs) = largest_since i (step input_line i c m) (largest n (step input_line i c m)) cs

-- ---- a write of 2003

-- "Writing it is device-wide for the machines and keeps every count": every machine carries the new length, and nothing else of it moves
abbrev pub with_length : (k : Kind) → ℕ → Machine k → Machine k
with_length k v m =
    record { node = with_settings m.node.behaviour m.node.digital m.node.analogue v m.node; own = m.own }

-- ---- a sample

-- "a line settles at the first differing sample whose count reaches or passes the new length", whatever the count was: a line that carries
-- the node n hears the sample s, and whether it is an event
pub record LengthObeyed (n : Node) (s : Bool) (m left : InputLine) : Type 0 where
  pub settles : m.filter ≡ true → beq s m.settled ≡ false → n.length ≤ m.count + 1 → left ≡ settle s 0 m
  pub counts : m.filter ≡ true → beq s m.settled ≡ false → m.count + 1 < n.length
      → left ≡ settle m.settled (m.count + 1) m
  pub agrees : beq s m.settled ≡ true → left ≡ settle m.settled 0 m
  pub unfiltered : m.filter ≡ false → left ≡ settle s 0 m
  pub event : line_event n s m ≡ operational n && n.digital
      && (flip m.settled left.settled && (m.any_change || cond (reads left) m.low_to_high m.high_to_low))

-- ---- the resets

-- "129 reset node (a fresh device, same node number), 130 reset communication (.. all else kept)": the length after the one, and the other
pub record LengthReset (k : Kind) (m fresh kept : Machine k) : Type 0 where
  pub node : fresh.node.length ≡ 3
  pub communication : kept.node.length ≡ m.node.length
