-- Document 02, Item 2: a line's count after any list, and that with the length left at 3 every list is as document 01 has it.
-- Assumes nothing.
use mathlib.Core.Path.{◌≡◌, refl, ap, ◌∙◌, sym}
use mathlib.Core.Bool.{Bool, true, false, not, cond, ◌||◌, ◌&&◌, beq, false≢true}
use mathlib.Core.List.{List, [], ◌∷◌}
use Prim.Native.Nat.{ℕ, ◌+◌, ◌≤◌, ◌<◌, max}
use native.Mathlib.Omega.{arith}
use lib.Dec.{eqb, ltb, leb}
use lib.ListN.{length, take, drop}
use borrow.Author.Tests.{eqb-true, ltb-true, ltb-false, leb-false}
use Rattle.profile.specs.declared.Node.{Node}
use Rattle.profile.specs.declared.Home.TheVariants.{Device}
use Rattle.profile.specs.Bits.{gather}
use Rattle.profile.specs.Bytes.{little_endian, line_bit}
use Rattle.profile.specs.Nodes.{operational, addressed}
use Rattle.profile.specs.Entries.{setting, object_of, entry_of, home_of}
use Rattle.profile.specs.MappedEntries.{received, index_of, sub_of, mappable, moves, moved, total}
use Rattle.profile.specs.Calls.{Plain, read, write, sample, command, raise, clear, drive, heartbeat, pass, on_sample}
use Rattle.profile.specs.Calls.{Call, direct, receive, transmit, request, elapsed}
use Rattle.profile.specs.Refusals.{accepted}
use Rattle.profile.specs.Server.{asked}
use Rattle.profile.specs.NodeAlone.{device_wide, next_node}
use Rattle.profile.specs.InputLine.{InputLine, fresh_input_line, sample_line, edge, line_event, write_input_line}
use Rattle.profile.specs.Watch.{is_due}
use Rattle.profile.specs.Machines.{Kind, node_alone, input_line, output_line, analogue_input, analogue_output, mapping, Machine}
use Rattle.profile.specs.Machines.{fresh_machine, call_names, hears, next_own, next, known, hear, step, watch}
use Rattle.profile.specs.Heard.{Machines, fresh_machines, fold, number_of, in_force, frame_writes, served}
use Rattle.profile.specs.Heard.{heard_as, step_all, spoken}
use Rattle.profile.specs.Replies.{sample_reply, line_events, channel_events, answer, answer_to, refuse_to, reply}
use Rattle.profile.specs.Lists.{after, each}
use Rattle.profile.specs.FilterLength.{sample_line01, edge01, line_event01, step_line01, step01, after01, line_events01, reply01}
use Rattle.profile.specs.FilterLength.{on_plain, on_access, leaves_three, AsBefore, sampled_with, last_length, largest, largest_since}
use Rattle.profile.proofs.HomeLaws.{window_holds}
use Rattle.profile.proofs.ListLaws.{bytes_cong}
use Rattle.profile.proofs.BoolLaws.{both, picked}
use Rattle.profile.proofs.MappedLaws.{moving}
use Rattle.profile.proofs.ReplyLaws.{heard_cong}
use Rattle.profile.proofs.ListTheorem.{ran, after_spoken, after_ran}
use Rattle.profile.proofs.NodesAgree.{step_node}
use Rattle.profile.proofs.StepLaws.{cond_same, step_holds, made}
use Rattle.profile.proofs.EntryTests.{at_holds}
use Rattle.profile.proofs.LengthLaws.{step_length, Bounded, step_bounded, fold_holds}

-- ---- the count after any list

-- the count after a plain call, where n was above the one before it: below l, and below n or the length
record Counted (n l : ℕ) (left : Machine input_line) : Type 0 where
  last : left.own.count < l
  now : left.own.count < max n left.node.length

line_count : (length : ℕ) (s : Bool) (o : InputLine) → 1 ≤ length → (sample_line length s o).count < length
unfolding sample_line
line_count length s o h =
    picked Below (not o.filter) _ _ (λ e. h) (λ e. picked Below (beq s o.settled) _ _ (λ e. h)
    (λ e. picked Below (leb length (o.count + 1)) _ _ (λ e. h) (λ e. leb-false length (o.count + 1) e)))
  where
    Below : InputLine → Type 0
    Below x = x.count < length

module _ (i n : ℕ) (m : Machine input_line) (b : Bounded m.node.length) (h : m.own.count < n) where
  abbrev Low : Machine input_line → Type 0
  Low x = x.own.count < n

  -- no other call raises a count
  other : (c : Plain) → Low (next input_line i c m) → Counted n n (step input_line i c m)
  other c p =
      let low : Low (step input_line i c m) = step_holds Low i c m h (λ e t. p) in
      record { last = low; now = omega arith }

  -- a sample s, accepted or refused
  sampled : (s t : Bool) → Counted n (cond t m.node.length n)
      (cond t (made input_line m.node (sample_line m.node.length s m.own)) m)
  sampled s true =
      let low = line_count m.node.length s m.own b.0 in
      record { last = low; now = omega arith }
  sampled s false = record { last = h; now = omega arith }

  step_count : (c : Plain)
      → Counted n (on_sample n (λ digital analogue. cond (accepted (known input_line m) c) m.node.length n) c) (step input_line i c m)
  unfolding step hears device_wide call_names hear next next_node next_own write_input_line
  step_count (read index sub) = other (read index sub) (rw cond_same h)
  step_count (write index sub payload) =
      other (write index sub payload) (window_holds (λ o. o.count < n) _ m.own h (λ row w s. h) (home_of index sub))
  step_count (sample digital analogue events) =
      sampled (line_bit digital i) (accepted (known input_line m) (sample digital analogue events))
  step_count (command code to) =
      other (command code to)
      (picked (λ (o : InputLine). o.count < n) (addressed to m.node && eqb code 129) fresh_input_line _
      (λ e. omega arith) (λ e. rw cond_same h))
  step_count (raise cause) = other (raise cause) h
  step_count (clear cause) = other (clear cause) h
  step_count (drive lines channels) = other (drive lines channels) h
  step_count (heartbeat node) = other (heartbeat node) h
  step_count (pass t) = other (pass t) h

-- the largest length since the count was 0 is above it too
largest_above : (n : ℕ) (m : Machine input_line) → 1 ≤ m.node.length → m.own.count < max n m.node.length
    → m.own.count < largest n m
largest_above n m h k = by (eqb m.own.count 0) (ltb n m.node.length) refl refl
  where
    by : (t u : Bool) → eqb m.own.count 0 ≡ t → ltb n m.node.length ≡ u → m.own.count < cond (t || u) m.node.length n
    by true u e f = omega (arith, eqb-true m.own.count 0 e)
    by false true e f = omega (arith, ltb-true n m.node.length f)
    by false false e f = omega (arith, ltb-false n m.node.length f)

-- a count of 0 is below 1
or_one : (c l : ℕ) → c < l → c < cond (eqb c 0) 1 l
or_one c l h = picked (λ x. c < x) (eqb c 0) 1 l (λ e. omega (arith, eqb-true c 0 e)) (λ e. h)

module _ (i : ℕ) where
  below_last : (cs : List Plain) (m : Machine input_line) (n : ℕ) → Bounded m.node.length → m.own.count < n
      → (fold (step input_line i) m cs).own.count < last_length i m n cs
  below_last [] m n b h = h
  below_last (c ∷ cs) m n b h =
      let left = step input_line i c m in
      below_last cs left _ (step_bounded input_line i c m b) (or_one left.own.count (sampled_with n c m) (step_count i n m b h c).last)

  below_since : (cs : List Plain) (m : Machine input_line) (n : ℕ) → Bounded m.node.length → m.own.count < n
      → (fold (step input_line i) m cs).own.count < largest_since i m n cs
  below_since [] m n b h = h
  below_since (c ∷ cs) m n b h =
      let bounded = step_bounded input_line i c m b in
      below_since cs (step input_line i c m) _ bounded (largest_above n (step input_line i c m) bounded.0 (step_count i n m b h c).now)

  -- a length and a count of a byte
  abbrev InByte : Machine input_line → Type 0
  InByte m = Bounded m.node.length × (m.own.count < 255)

  step_in_byte : (c : Plain) (m : Machine input_line) → InByte m → InByte (step input_line i c m)
  step_in_byte c m p =
      let bounded = step_bounded input_line i c m p.0 in
      (bounded, omega (arith, (step_count i 255 m p.0 p.1 c).now))

-- after any list a line's count is 0, or below the length that stood at the last accepted sample
pub count_below : (number i : ℕ) (cs : List Call)
    → (after number cs input_line i).own.count < last_length i (fresh_machine input_line number) 1 (spoken (fresh_machines number) cs)
count_below number i cs =
    rw (after_spoken number cs input_line i)
    (below_last i (spoken (fresh_machines number) cs) (fresh_machine input_line number) 1 (omega arith) (omega arith))

-- and below the largest length that stood since it was 0
pub below_largest : (number i : ℕ) (cs : List Call)
    → (after number cs input_line i).own.count < largest_since i (fresh_machine input_line number) 3 (spoken (fresh_machines number) cs)
below_largest number i cs =
    rw (after_spoken number cs input_line i)
    (below_since i (spoken (fresh_machines number) cs) (fresh_machine input_line number) 3 (omega arith) (omega arith))

-- so a byte holds it and one more
pub count_in_a_byte : (number i : ℕ) (cs : List Call) → (after number cs input_line i).own.count < 255
count_in_a_byte number i cs =
    rw (after_spoken number cs input_line i)
    (fold_holds (InByte i) (step input_line i) (step_in_byte i) (spoken (fresh_machines number) cs) (fresh_machine input_line number)
    (omega arith)).1

-- ---- with the length left at 3 every answer to every list is what it was

-- a machine, and the one that goes by document 01's rule
record Alike (k : Kind) (a b : Machine k) : Type 0 where
  same : a ≡ b
  three : a.node.length ≡ 3

line_step : (i : ℕ) (c : Plain) (m : Machine input_line) → m.node.length ≡ 3 → step input_line i c m ≡ step_line01 i c m
unfolding step hears device_wide call_names hear next next_node next_own sample_line sample_line01
line_step i (read index sub) m h = refl
line_step i (write index sub payload) m h = refl
line_step i (sample digital analogue events) m h =
    ap (λ (l : ℕ). cond (accepted (known input_line m) (sample digital analogue events))
    (made input_line m.node (sample_line l (line_bit digital i) m.own)) m) h
line_step i (command code to) m h = refl
line_step i (raise cause) m h = refl
line_step i (clear cause) m h = refl
line_step i (drive lines channels) m h = refl
line_step i (heartbeat node) m h = refl
line_step i (pass t) m h = refl

step_before : (k : Kind) (i : ℕ) (c : Plain) (m : Machine k) → m.node.length ≡ 3 → step k i c m ≡ step01 k i c m
step_before node_alone i c m h = refl
step_before input_line i c m h = line_step i c m h
step_before output_line i c m h = refl
step_before analogue_input i c m h = refl
step_before analogue_output i c m h = refl
step_before mapping i c m h = refl
step_before watch i c m h = refl

step_three : (k : Kind) (i : ℕ) (c : Plain) (m : Machine k) → leaves_three (direct c) ≡ true → m.node.length ≡ 3
    → (step k i c m).node.length ≡ 3
step_three k i c m leaves h =
    rw (step_node k i c m)
    (step_length (λ l. l ≡ 3) refl c m.node h
    (λ t index sub payload e l. eqb-true (little_endian payload) 3 (rw (e, l.index_is) at leaves)))

-- plain calls that leave the length at 3
abbrev Leave : List Plain → Type 0
Leave [] = Unit {0}
Leave (c ∷ cs) = (leaves_three (direct c) ≡ true) × Leave cs

fold_alike : (k : Kind) (i : ℕ) (cs : List Plain) → Leave cs → (a b : Machine k) → Alike k a b
    → Alike k (fold (step k i) a cs) (fold (step01 k i) b cs)
fold_alike k i [] l a b p = p
fold_alike k i (c ∷ cs) l a b p =
    fold_alike k i cs l.1 (step k i c a) (step01 k i c b)
    (record { same = step_before k i c a p.three ∙ ap (step01 k i c) p.same; three = step_three k i c a l.0 p.three })

-- no mapping moves 2003
unmapped : (m sub : ℕ) → mappable m (home_of 0x2003 sub) ≡ false
unfolding entry_of object_of
unmapped m sub = at_holds (λ e. mappable m e.home ≡ false) sub (setting 0 1 1 255 (Device 0x2003)) refl refl refl

moving_leaves : (m v x : ℕ) → moves m v ≡ true → not (eqb (index_of v) 0x2003) || eqb x 3 ≡ true
moving_leaves m v x h = by (eqb (index_of v) 0x2003) refl
  where
    by : (t : Bool) → eqb (index_of v) 0x2003 ≡ t → not t || eqb x 3 ≡ true
    by true e =
        let mapped = ap (λ (x : ℕ). mappable m (home_of x (sub_of v))) (eqb-true (index_of v) 0x2003 e) in
        absurd (false≢true (sym (unmapped m (sub_of v)) ∙ sym mapped ∙ (moving m v h).mapped))
    by false e = refl

frame_leaves : (m : ℕ) (vs frame : List ℕ) → Leave (frame_writes m vs frame)
frame_leaves m [] frame = tt
frame_leaves m (v ∷ vs) frame =
    let k = moved m v in
    picked Leave (moves m v) _ (frame_writes m vs frame)
    (λ e. (moving_leaves m v (little_endian (take k frame)) e, frame_leaves m vs (drop k frame))) (λ e. frame_leaves m vs frame)

-- a plain call is asked what the call of it is asked
plain_asked : (f : ℕ → Bool) (g : ℕ → List ℕ → Bool) (c : Plain) → on_plain f g c ≡ on_access f g (direct c)
plain_asked f g (read index sub) = refl
plain_asked f g (write index sub payload) = refl
plain_asked f g (sample digital analogue events) = refl
plain_asked f g (command code to) = refl
plain_asked f g (raise cause) = refl
plain_asked f g (clear cause) = refl
plain_asked f g (drive lines channels) = refl
plain_asked f g (heartbeat node) = refl
plain_asked f g (pass t) = refl

asked_leaves : (cs : List Plain)
    → each (on_plain (λ index. true) (λ index payload. not (eqb index 0x2003) || eqb (little_endian payload) 3)) cs ≡ true → Leave cs
asked_leaves [] h = tt
asked_leaves (c ∷ cs) h =
    let q = both (on_plain (λ index. true) (λ index payload. not (eqb index 0x2003) || eqb (little_endian payload) 3) c) _ h in (
      sym (plain_asked (λ index. true) (λ index payload. not (eqb index 0x2003) || eqb (little_endian payload) 3) c) ∙ q.0,
      asked_leaves cs q.1,
    )

heard_leaves : (ms : Machines) (c : Call) → leaves_three c ≡ true → Leave (heard_as ms c)
heard_leaves ms (direct c) h = (h, tt)
heard_leaves ms (receive message frame) h =
    let m = received message in
    let vs = in_force ms m in
    picked Leave (operational (ms node_alone 0).node && leb (total m vs) (length frame)) (frame_writes m vs frame) []
    (λ e. frame_leaves m vs frame) (λ e. tt)
heard_leaves ms (transmit message frame) h = tt
heard_leaves ms (request frame buffer) h =
    picked Leave (served (ms node_alone 0).node frame buffer) (asked frame) [] (λ e. asked_leaves (asked frame) h) (λ e. tt)
heard_leaves ms (elapsed t) h = (refl, picked Leave (is_due t (ms watch 0).own) _ _ (λ e. (refl, tt)) (λ e. tt))

-- two families, over a list of calls
run_alike : (cs : List Call) → each leaves_three cs ≡ true → (a b : Machines) → ((k : Kind) (i : ℕ) → Alike k (a k i) (b k i))
    → (k : Kind) (i : ℕ) → Alike k (ran a cs k i) (after01 b cs k i)
run_alike [] h a b p = p
run_alike (c ∷ cs) h a b p =
    let q = both (leaves_three c) (each leaves_three cs) h in
    let heard = heard_cong a b (record { at = λ k i l. (p k i).same }) c in
    run_alike cs q.1 (step_all c a) (λ k i. fold (step01 k i) (b k i) (heard_as b c))
    (λ k i. rw (sym heard) (fold_alike k i (heard_as a c) (heard_leaves a c q.0) (a k i) (b k i) (p k i)))

event_before : (n : Node) (s : Bool) (o : InputLine) → n.length ≡ 3 → line_event n s o ≡ line_event01 n s o
unfolding line_event line_event01 edge edge01 sample_line sample_line01
event_before n s o h = ap (λ (l : ℕ). operational n && n.digital && edge l s o) h

reply_before : (ms : Machines) → ((i : ℕ) → (ms input_line i).node.length ≡ 3) → (c : Plain) → reply ms (direct c) ≡ reply01 ms (direct c)
unfolding reply answer_to answer
reply_before ms h (read index sub) = refl
reply_before ms h (write index sub payload) = refl
reply_before ms h (sample digital analogue events) =
    let number = number_of ms (direct (sample digital analogue events)) in
    ap (λ (x : List ℕ). cond (eqb number 0) (sample_reply (gather 16 (channel_events ms analogue)) x)
    (refuse_to number (direct (sample digital analogue events))))
    (bytes_cong 16 (line_events ms digital) (line_events01 ms digital)
    (λ i l. event_before (ms input_line i).node (line_bit digital i) (ms input_line i).own (h i)))
reply_before ms h (command code to) = refl
reply_before ms h (raise cause) = refl
reply_before ms h (clear cause) = refl
reply_before ms h (drive lines channels) = refl
reply_before ms h (heartbeat node) = refl
reply_before ms h (pass t) = refl

answer_before : (ms : Machines) → ((i : ℕ) → (ms input_line i).node.length ≡ 3) → (c : Call) → reply ms c ≡ reply01 ms c
answer_before ms h (direct c) = reply_before ms h c
answer_before ms h (receive message frame) = refl
answer_before ms h (transmit message frame) = refl
answer_before ms h (request frame buffer) = refl
answer_before ms h (elapsed t) = refl

-- where nothing but 3 is written to 2003, every machine and every answer is what document 01's rule makes it
pub length_left : (number : ℕ) (cs : List Call) → each leaves_three cs ≡ true → AsBefore number cs
length_left number cs h =
    record {
      machines = λ k i. (alike k i).same;
      answers = λ c l.
          answer_before (after number cs) (λ i. (alike input_line i).three) c
          ∙ ap (λ (ms : Machines). reply01 ms c) (λ t k i. (alike k i).same t);
    }
  where
    alike : (k : Kind) (i : ℕ) → Alike k (after number cs k i) (after01 (fresh_machines number) cs k i)
    alike k i =
        rw (after_ran number cs k i)
        (run_alike cs h (fresh_machines number) (fresh_machines number) (λ k i. record { same = refl; three = refl }) k i)
