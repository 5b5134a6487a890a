-- Document 02, Item 1: what a received frame does, and what a transmitted one holds. One proof serves all eight mappings.
-- Assumes nothing.
use mathlib.Core.Path.{◌≡◌, refl, ap, ◌∙◌, sym}
use mathlib.Core.Bool.{Bool, true, false, cond, ◌&&◌, false≢true}
use mathlib.Core.List.{List, [], ◌∷◌, ◌++◌}
use Prim.Native.Nat.{ℕ, zero, suc, ◌+◌, ◌/◌, ◌<◌, ◌≤◌}
use native.Mathlib.Nat.{zero-add, not-suc-le-zero, le_of_suc-le-suc}
use native.Mathlib.Omega.{arith}
use lib.Dec.{ltb, leb}
use lib.ListN.{length, get_or, take, drop, length-append, length-drop}
use lib.Seq.{length-take-le, take_at, drop-append-add, drop-drop}
use borrow.Author.Tests.{leb-true, le-ltb, le-leb}
use Rattle.profile.specs.Entries.{Entry}
use Rattle.profile.specs.declared.Message.{Message}
use Rattle.profile.specs.declared.Message.TheVariants.{First, Second, Third, Fourth}
use Rattle.profile.specs.declared.State.{State}
use Rattle.profile.specs.declared.State.TheVariants.{PreOperational, Operational, Stopped}
use Rattle.profile.specs.Bytes.{little_endian, bytes_of}
use Rattle.profile.specs.Nodes.{is_stopped, is_operational, stopped, operational}
use Rattle.profile.specs.Entries.{home_of, any, not_allowed, above_range, below_range}
use Rattle.profile.specs.MappedEntries.{received, receives, index_of, sub_of, mapped_entry, moves, moved, total}
use Rattle.profile.specs.Calls.{Plain, read, write, Call, direct, receive, transmit, Reply}
use Rattle.profile.specs.Refusals.{Conditions, read_refusal, write_refusal, refusal}
use Rattle.profile.specs.NodeAlone.{writes_setting, device_wide}
use Rattle.profile.specs.Machines.{node_alone}
use Rattle.profile.specs.Heard.{Machines, step_each, conditions, number_of, in_force, frame_writes, receive_writes, heard_as, step_all}
use Rattle.profile.specs.Replies.{read_value, read_reply, answer, frame_of, sends, answer_to, reply}
use Rattle.profile.specs.Lists.{after}
use Rattle.profile.proofs.BoolLaws.{both, picked}
use Rattle.profile.proofs.MappedLaws.{moving, moving_present, moved_none}
use Rattle.profile.proofs.NodesAgree.{node_by, bare, step_node}
use Rattle.profile.proofs.MappingLaws.{mapping_sound, Receivable, moving_receivable}

-- ---- frames of bytes

-- each element is a byte: without it a value could pass the highest value of an entry
abbrev pub Bytes : List ℕ → Type 0
Bytes [] = Unit {0}
Bytes (b ∷ bs) = (b < 256) × Bytes bs

bytes_take : (n : ℕ) (bs : List ℕ) → Bytes bs → Bytes (take n bs)
bytes_take zero bs p = tt
bytes_take (suc n) [] p = tt
bytes_take (suc n) (b ∷ bs) p = (p.0, bytes_take n bs p.1)

bytes_drop : (n : ℕ) (bs : List ℕ) → Bytes bs → Bytes (drop n bs)
bytes_drop zero bs p = p
bytes_drop (suc n) [] p = tt
bytes_drop (suc n) (b ∷ bs) p = bytes_drop n bs p.1

-- four bytes hold no more than the highest value
four_small : (bs : List ℕ) → Bytes bs → length bs ≤ 4 → little_endian bs ≤ any
four_small [] p h = omega arith
four_small (a ∷ []) p h = omega arith
four_small (a ∷ b ∷ []) p h = omega arith
four_small (a ∷ b ∷ c ∷ []) p h = omega arith
four_small (a ∷ b ∷ c ∷ d ∷ []) p h = omega arith
four_small (a ∷ b ∷ c ∷ d ∷ e ∷ bs) p h = absurd (omega arith)

-- ---- a write of an entry that a receive mapping may name

not_below : (n : ℕ) → ltb n n ≡ false
not_below n = le-ltb n n (omega arith)

entry_taken : (has : Conditions) (e : Entry) (payload : List ℕ) → Receivable e e.home → has.stopped ≡ false
    → length payload ≡ e.size → Bytes payload → write_refusal has e payload ≡ 0
unfolding write_refusal not_allowed above_range below_range
entry_taken has e payload r running z p =
    let v = little_endian payload in
    let most : v ≤ any = four_small payload p (rw z r.small) in
    rw (
      running,
      r.there,
      r.writable,
      z,
      not_below e.size,
      r.lowest_is,
      r.highest_is,
      le-ltb v 0 (omega arith),
      le-ltb any v most,
      r.short_is,
      r.unheld has.held v,
    )

-- ---- each write of a frame

-- each call of the list is accepted at its moment
abbrev pub AllAccepted : Machines → List Plain → Type 0
AllAccepted ms [] = Unit {0}
AllAccepted ms (c ∷ cs) = (refusal (conditions ms c) c ≡ 0) × AllAccepted (step_each (c ∷ []) ms) cs

running_node : (s : State) → is_operational s ≡ true → is_stopped s ≡ false
running_node PreOperational h = refl
running_node Operational h = refl
running_node Stopped h = absurd (false≢true h)

-- a write of such an entry leaves the node
write_node_lem : (ms : Machines) (index sub : ℕ) (payload : List ℕ) → writes_setting (home_of index sub) ≡ false
    → (step_each (write index sub payload ∷ []) ms node_alone 0).node ≡ (ms node_alone 0).node
unfolding device_wide
write_node_lem ms index sub payload h =
    let n = (ms node_alone 0).node in
    step_node node_alone 0 (write index sub payload) (ms node_alone 0)
    ∙ ap (λ (b : Bool). cond b (node_by (bare n) (write index sub payload) n) n) h

each_accepted : (m : ℕ) → receives m ≡ true → (vs frame : List ℕ) (ms : Machines) → operational (ms node_alone 0).node ≡ true
    → total m vs ≤ length frame → Bytes frame → AllAccepted ms (frame_writes m vs frame)
unfolding refusal
each_accepted m r [] frame ms n h p = tt
each_accepted m r (v ∷ vs) frame ms n h p =
    let k = moved m v in
    let payload = take k frame in
    let c = write (index_of v) (sub_of v) payload in
    picked (AllAccepted ms) (moves m v) (c ∷ frame_writes m vs (drop k frame)) (frame_writes m vs frame)
    (λ e.
    let q = moving_receivable m v r e in (
      entry_taken (conditions ms c) (mapped_entry v) payload q (running_node (ms node_alone 0).node.state n)
          (length-take-le k frame (omega arith) ∙ (moving m v e).size_is) (bytes_take k frame p),
      each_accepted m r vs (drop k frame) (step_each (c ∷ []) ms)
          (ap operational (write_node_lem ms (index_of v) (sub_of v) payload q.quiet) ∙ n)
          (rw length-drop (omega arith)) (bytes_drop k frame p),
    ))
    (λ e. each_accepted m r vs frame ms n (omega arith) p)

received_receives : (message : Message) → receives (received message) ≡ true
received_receives First = refl
received_receives Second = refl
received_receives Third = refl
received_receives Fourth = refl

-- "Receiving acts as a plain write of each entry in order, for the machines too": each of these writes is accepted, at its moment.
-- "A frame shorter than its mapping, or for a node not operational, is accepted and does nothing": it has none
pub frame_accepted : (ms : Machines) (message : Message) (frame : List ℕ) → Bytes frame
    → AllAccepted ms (heard_as ms (receive message frame))
frame_accepted ms message frame p =
    let m = received message in
    let n = operational (ms node_alone 0).node in
    let long = leb (total m (in_force ms m)) (length frame) in
    picked (AllAccepted ms) (n && long) (frame_writes m (in_force ms m) frame) []
    (λ e.
    let q = both n long e in
    each_accepted m (received_receives message) (in_force ms m) frame ms q.0
    (leb-true (total m (in_force ms m)) (length frame) q.1) p)
    (λ e. tt)

-- "Receiving acts as a plain write of each entry in order, for the machines too": the machines take their steps at the frame's plain
-- writes. Where an entry that moves is the first in force, "operational" and not "shorter than its mapping", the first of them is the write
-- of that entry with the frame's first bytes; the others are those of the other entries with the rest of the frame
pub record InOrder (ms : Machines) (message : Message) (frame : List ℕ) : Type 0 where
  pub does : step_all (receive message frame) ms ≡ step_each (receive_writes ms (received message) frame) ms
  pub first : (v : ℕ) (vs : List ℕ) → in_force ms (received message) ≡ v ∷ vs → moves (received message) v ≡ true
      → operational (ms node_alone 0).node ≡ true → total (received message) (v ∷ vs) ≤ length frame
      → receive_writes ms (received message) frame
      ≡ write (index_of v) (sub_of v) (take (moved (received message) v) frame)
      ∷ frame_writes (received message) vs (drop (moved (received message) v) frame)

pub frame_order : (ms : Machines) (message : Message) (frame : List ℕ) → InOrder ms message frame
frame_order ms message frame =
    record {
      does = refl;
      first = λ v vs e t n h. rw (n, e, le-leb (total (received message) (v ∷ vs)) (length frame) h, t);
    }

-- ---- a transmitted frame

pub bytes_of_length : (n v : ℕ) → length (bytes_of n v) ≡ n
bytes_of_length zero v = refl
bytes_of_length (suc n) v = ap suc (bytes_of_length n (v / 256))

-- the bytes of the entry in front, and the frame after them
module _ (ms : Machines) (m v : ℕ) (vs rest : List ℕ) where
  abbrev front : List ℕ
  front = bytes_of (moved m v) (read_value ms (mapped_entry v).home)

  abbrev behind : List ℕ
  behind = frame_of ms m vs (drop (moved m v) rest)

  front_long : length front ≡ moved m v
  front_long = bytes_of_length (moved m v) (read_value ms (mapped_entry v).home)

  front_bytes : moves m v ≡ true → take (moved m v) (frame_of ms m (v ∷ vs) rest) ≡ front
  front_bytes e = rw e (take_at front behind (moved m v) front_long)

  after_front : (n : ℕ) → drop (moved m v + n) (frame_of ms m (v ∷ vs) rest) ≡ drop n behind
  after_front n =
      picked (λ (f : List ℕ). drop (moved m v + n) f ≡ drop n behind) (moves m v) (front ++ behind) (frame_of ms m vs rest)
      (λ e. ap (λ (x : ℕ). drop (x + n) (front ++ behind)) (sym front_long) ∙ drop-append-add front behind n)
      (λ e. rw (moved_none m v e, zero-add n))

-- "each entry is written into the rest of the frame after the one before"
placed : (ms : Machines) (m : ℕ) (vs rest : List ℕ) (j : ℕ) → j < length vs → moves m (get_or vs j 0) ≡ true
    → take (moved m (get_or vs j 0)) (drop (total m (take j vs)) (frame_of ms m vs rest))
    ≡ bytes_of (moved m (get_or vs j 0)) (read_value ms (mapped_entry (get_or vs j 0)).home)
placed ms m [] rest j h e = absurd (not-suc-le-zero h)
placed ms m (v ∷ vs) rest zero h e = front_bytes ms m v vs rest e
placed ms m (v ∷ vs) rest (suc j) h e =
    ap (take (moved m (get_or vs j 0))) (after_front ms m v vs rest (total m (take j vs)))
    ∙ placed ms m vs (drop (moved m v) rest) j (le_of_suc-le-suc h) e

-- the reply to a plain read of an entry that moves, in a node that is not stopped
read_answers : (ms : Machines) (m v : ℕ) → moves m v ≡ true → stopped (ms node_alone 0).node ≡ false
    → reply ms (direct (read (index_of v) (sub_of v))) ≡ read_reply (read_value ms (mapped_entry v).home) (moved m v)
unfolding reply number_of refusal read_refusal answer_to answer
read_answers ms m v e s = rw (s, (moving_present m v e).there, (moving m v e).size_is)

-- a plain read's reply r, and the frame from the place of the entry v on: it is accepted, of the entry's length, and the same bytes
pub record ReadThere (m v : ℕ) (r : Reply) (from : List ℕ) : Type 0 where
  pub accepted : r.number ≡ 0
  pub size_is : r.size ≡ moved m v
  pub bytes_are : take r.size from ≡ bytes_of r.size r.value

-- what "each entry is written into the rest of the frame after the one before" writes is what a plain read of the entry answers at that
-- moment; "One proof serves all eight mappings."
pub transmitted_reads : (ms : Machines) (m : ℕ) (vs rest : List ℕ) (j : ℕ) → j < length vs → moves m (get_or vs j 0) ≡ true
    → stopped (ms node_alone 0).node ≡ false
    → ReadThere m (get_or vs j 0) (reply ms (direct (read (index_of (get_or vs j 0)) (sub_of (get_or vs j 0)))))
    (drop (total m (take j vs)) (frame_of ms m vs rest))
transmitted_reads ms m vs rest j h e s =
    rw (read_answers ms m (get_or vs j 0) e s) (record { accepted = refl; size_is = refl; bytes_are = placed ms m vs rest j h e })

-- "bytes beyond stay"
pub transmitted_beyond : (ms : Machines) (m : ℕ) (vs rest : List ℕ) → drop (total m vs) (frame_of ms m vs rest) ≡ drop (total m vs) rest
transmitted_beyond ms m [] rest = refl
transmitted_beyond ms m (v ∷ vs) rest =
    after_front ms m v vs rest (total m vs) ∙ transmitted_beyond ms m vs (drop (moved m v) rest)
    ∙ drop-drop (total m vs) (moved m v) rest

-- "Transmit lends eight bytes": the frame is as long as it was
pub transmitted_length : (ms : Machines) (m : ℕ) (vs rest : List ℕ) → total m vs ≤ length rest
    → length (frame_of ms m vs rest) ≡ length rest
transmitted_length ms m [] rest h = refl
transmitted_length ms m (v ∷ vs) rest h =
    picked (λ (f : List ℕ). length f ≡ length rest) (moves m v) (front ms m v vs rest ++ behind ms m v vs rest) (frame_of ms m vs rest)
    (λ e.
    let left = transmitted_length ms m vs (drop (moved m v) rest) (rw length-drop (omega arith)) in
    rw (length-append, left, length-drop, bytes_of_length) (omega arith))
    (λ e. transmitted_length ms m vs rest (omega arith))

-- "Transmit lends eight bytes .. and the answer is the number of bytes written": it changes nothing else, and no machine hears it
pub transmit_heard_by_none : (ms : Machines) (message : Message) (frame : List ℕ) → step_all (transmit message frame) ms ≡ ms
transmit_heard_by_none ms message frame = refl

-- "0, none touched, unless operational": after any list a transmit in an operational node is never silent for the sum of its mapping
pub always_sends : (number : ℕ) (cs : List Call) (m : ℕ) → sends (after number cs) m ≡ operational (after number cs node_alone 0).node
always_sends number cs m =
    rw (le-leb (total m (in_force (after number cs) m)) 8 (mapping_sound number cs m).fits)
    (and_true (operational (after number cs node_alone 0).node))
  where
    and_true : (b : Bool) → b && true ≡ b
    and_true true = refl
    and_true false = refl
