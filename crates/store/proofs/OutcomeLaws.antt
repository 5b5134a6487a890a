-- From what the code of a call knows at each return to the promise of the call.
-- Assumes nothing.
use mathlib.Core.Path.{◌≡◌, refl, ap, ap₂, ◌∙◌, sym}
use mathlib.Core.Bool.{Bool, true, false, cond, ◌&&◌}
use mathlib.Core.List.{List, ◌++◌}
use Prim.Native.Nat.{ℕ, ◌<◌, ◌≤◌}
use native.Mathlib.Omega.{arith}
use lib.Dec.{eqb}
use lib.ListN.{length}
use lib.IntN.{ℤ}
use borrow.Author.Tests.{eq-eqb, ne_eqb}
use Rattle.profile.specs.declared.Cause.{Cause}
use Rattle.profile.specs.declared.Home.{Home}
use Rattle.profile.specs.Bytes.{little_endian, bytes}
use Rattle.profile.specs.InputLine.{sample_line, edge, line_event}
use Rattle.profile.specs.OutputLine.{move_output_line}
use Rattle.profile.specs.AnalogueOutput.{move_analogue_output}
use Rattle.profile.specs.AnalogueInput.{channel_event}
use Rattle.windows.specs.declared.Row.{Row}
use Rattle.windows.specs.View.{row_at}
use Rattle.lines.specs.View.{input_at}
use Rattle.windows.specs.Promises.{Loaded}
use Rattle.lines.specs.Promises as line
use Rattle.analogue_inputs.specs.Promises as input
use Rattle.analogue_inputs.specs.Promises.{met}
use Rattle.analogue_outputs.specs.Promises as output
use Rattle.profile.specs.Nodes.{stopped, operational, fault, raise_node, clear_node, addressed, obey_node, command_node}
use Rattle.profile.specs.Entries.{entry_of, home_of, at_mapping}
use Rattle.profile.specs.Calls.{Plain, read, write, sample, command, raise, clear, drive, direct, Reply}
use Rattle.profile.specs.Refusals.{Check, first, entry_checks, access_checks, value_checks, held_checks, read_refusal, write_refusal}
use Rattle.profile.specs.Refusals.{refusal, accepted}
use Rattle.profile.specs.Machines.{Kind, node_alone, input_line, output_line, analogue_input, analogue_output, mapping, watch, count, Own}
use Rattle.profile.specs.Machines.{move_own, command_own, clear_own, hears, known}
use Rattle.profile.specs.Entries.{reads_sources}
use Rattle.profile.specs.Heard.{fresh_machines, conditions, number_of, step_all}
use Rattle.profile.specs.Replies.{read_value, plain, read_reply, sample_reply, drive_reply, line_events, answer, answer_to, refuse, refuse_to}
use Rattle.profile.specs.Replies.{reply}
use Rattle.profile.specs.Outcome.{Same, Outcome}
use Rattle.profile.proofs.ListLaws.{bytes_cong}
use Rattle.profile.proofs.NodesAgree.{known_of}
use Rattle.profile.proofs.RefusalLaws.{none_holds, first_skip, first_stop, access_sound}
use Rattle.profile.proofs.StepLaws.{Takes, refused_step, write_step, read_step, sample_step, command_step, raise_step, clear_step}
use Rattle.profile.proofs.StepLaws.{drive_step}
use Rattle.store.specs.declared.Store.{Store}
use Rattle.store.specs.View.{Parts, own_of, machines, parts_of}
use Rattle.store.specs.Promises.{moved, wrote, has_read, held_by}
use Rattle.store.proofs.MachineLaws.{by_kind, same_machine, sources_read, OutputsKept, MappingsKept, WatchKept}

-- ---- refused and accepted calls

-- the number of a plain call
abbrev numbered : Parts → Plain → ℕ
numbered d c = refusal (conditions (machines d) c) c

-- what all machines together decide on a plain call, each that hears it decides
decides : (d : Parts) (c : Plain) (t : Bool) → eqb (numbered d c) 0 ≡ t → (k : Kind) (i : ℕ) → hears k i c ≡ true
    → accepted (known k (machines d k i)) c ≡ t
decides d c t e k i h = ap (λ (x : ℕ). eqb x 0) (known_of (machines d) c k i refl h) ∙ e

-- a refused call hands back the device, and the reply of a refusal
pub refused_outcome : (d : Parts) (c : Plain) (n : ℕ) → n ≡ refusal (conditions (machines d) c) c → (n ≡ 0 → ⊥)
    → Outcome (machines d) (direct c) (refuse n c) (machines d)
unfolding reply number_of answer_to refuse_to
refused_outcome d c n e ne =
    let f : eqb (numbered d c) 0 ≡ false = ap (λ (x : ℕ). eqb x 0) (sym e) ∙ ne_eqb n 0 ne in
    record {
      machines = record { at = λ k i h. sym (refused_step k i c (machines d k i) (decides d c false f k i)) };
      replied = ap (λ (x : ℕ). refuse x c) e ∙ ap (λ (b : Bool). cond b (answer (machines d) c) (refuse (numbered d c) c)) (sym f);
    }

-- an accepted call: every machine stepped, and the reply of the machines
pub accepted_outcome : (d r : Parts) (c : Plain) (a : Reply) → refusal (conditions (machines d) c) c ≡ 0
    → (((k : Kind) (i : ℕ) → Takes k i c (machines d k i)) → Same (machines r) (step_all (direct c) (machines d)))
    → a ≡ answer (machines d) c → Outcome (machines d) (direct c) a (machines r)
unfolding reply number_of answer_to refuse_to
accepted_outcome d r c a e same q =
    let t : eqb (numbered d c) 0 ≡ true = eq-eqb (numbered d c) 0 e in
    record {
      machines = same (decides d c true t);
      replied = q ∙ ap (λ (b : Bool). cond b (answer (machines d) c) (refuse (numbered d c) c)) (sym t);
    }

-- ---- raise and clear

pub raise_outcome : (d r : Parts) (cause : Cause) → Same (machines r) (moved (raise_node cause d.node) false d)
    → Outcome (machines d) (direct (raise cause)) (plain 0) (machines r)
unfolding refusal answer
raise_outcome d r cause s =
    accepted_outcome d r (raise cause) (plain 0) refl
    (λ t. record { at = λ k i h. s.at k i h ∙ sym (raise_step k i cause (machines d k i)) }) refl

pub clear_outcome : (d r : Parts) (cause : Cause) → Same (machines r) (moved (clear_node cause d.node) false d)
    → Outcome (machines d) (direct (clear cause)) (plain 0) (machines r)
unfolding refusal answer
clear_outcome d r cause s =
    accepted_outcome d r (clear cause) (plain 0) refl
    (λ t. record { at = λ k i h. s.at k i h ∙ sym (clear_step k i cause (machines d k i)) }) refl

-- ---- reads and writes

pub read_outcome : (d r : Parts) (index sub value size : ℕ) → first (entry_checks (stopped d.node) (entry_of index sub)) ≡ 0
    → value ≡ read_value (machines d) (home_of index sub) → size ≡ (entry_of index sub).size → Same (machines r) (has_read (home_of index sub) d)
    → Outcome (machines d) (direct (read index sub)) (read_reply value size) (machines r)
unfolding refusal read_refusal answer
read_outcome d r index sub value size e v z s =
    accepted_outcome d r (read index sub) (read_reply value size) e
    (λ t. record { at = λ k i h. s.at k i h ∙ sym (read_step k i index sub (home_of index sub) (machines d k i) refl (t k i)) })
    (ap₂ read_reply v z)

-- the source bits after an accepted read
module _ (d r : Parts) (e : Home) (node : r.node ≡ d.node) (words : r.words ≡ d.words) (outputs : OutputsKept d r)
    (mappings : MappingsKept d r) (watched : WatchKept d r) where
  pub read_cleared : reads_sources e ≡ true → (s : ℕ) → input.SourcesTaken d.inputs s r.inputs → Same (machines r) (has_read e d)
  read_cleared h s taken =
      record {
        at = λ k i l.
            (sources_read d r s node words taken outputs mappings watched).at k i l
            ∙ ap (λ (b : Bool). record { node = d.node; own = cond b (clear_own k (own_of d k i)) (own_of d k i) }) (sym h);
      }

-- the rows of the array and those of the conditions
held_same : (d : Store) (e : Home) (v : ℕ) → held_by d.deltas e v
    ≡ held_checks (record { mapping = (parts_of d).mappings (at_mapping 0 (λ j s. j) e); watches = (parts_of d).watches }) e v
held_same d e v = grind arith

-- the rows of a write before its value, and on its value
abbrev access_rows : Parts → ℕ → ℕ → List ℕ → List Check
access_rows d index sub payload = access_checks (stopped d.node) (entry_of index sub) (length payload)

abbrev value_rows : Store → ℕ → ℕ → List ℕ → List Check
value_rows d index sub payload =
    value_checks (entry_of index sub) (little_endian payload) ++ held_by d.deltas (home_of index sub) (little_endian payload)

module _ (d : Store) (index sub : ℕ) (payload : List ℕ) where
  -- the table of a write is these rows
  table_is : refusal (conditions (machines (parts_of d)) (write index sub payload)) (write index sub payload)
      ≡ first (access_rows (parts_of d) index sub payload ++ value_rows d index sub payload)
  unfolding refusal write_refusal
  table_is =
      ap (λ (rows : List Check). first (access_rows (parts_of d) index sub payload ++ (value_checks (entry_of index sub) (little_endian payload)
      ++ rows))) (sym (held_same d (home_of index sub) (little_endian payload)))

  value_decides : first (access_rows (parts_of d) index sub payload) ≡ 0
      → first (access_rows (parts_of d) index sub payload ++ value_rows d index sub payload) ≡ first (value_rows d index sub payload)
  value_decides a =
      first_skip (access_rows (parts_of d) index sub payload) (value_rows d index sub payload)
      (none_holds (access_rows (parts_of d) index sub payload)
      (access_sound (stopped (parts_of d).node) (entry_of index sub) (length payload)) a)

  pub write_outcome : (r : Parts) → first (access_rows (parts_of d) index sub payload) ≡ 0 → first (value_rows d index sub payload) ≡ 0
      → Same (machines r) (wrote (home_of index sub) (little_endian payload) (parts_of d))
      → Outcome (machines (parts_of d)) (direct (write index sub payload)) (plain 0) (machines r)
  unfolding answer
  write_outcome r a v s =
      accepted_outcome (parts_of d) r (write index sub payload) (plain 0) (table_is ∙ value_decides a ∙ v)
      (λ t. record {
        at = λ k i h. s.at k i h ∙ sym (write_step k i index sub payload (home_of index sub) (machines (parts_of d) k i) refl (t k i));
      })
      refl

  -- a write refused by its access or size, and one refused by its value
  positive : (n : ℕ) → (n ≡ 0 → ⊥) → 1 ≤ n
  positive n ne = omega arith

  pub access_refused : (n : ℕ) → n ≡ first (access_rows (parts_of d) index sub payload) → (n ≡ 0 → ⊥)
      → Outcome (machines (parts_of d)) (direct (write index sub payload)) (plain n) (machines (parts_of d))
  unfolding refuse
  access_refused n e ne =
      refused_outcome (parts_of d) (write index sub payload) n
      (e ∙ sym (table_is ∙ first_stop (access_rows (parts_of d) index sub payload) (value_rows d index sub payload)
      (rw e at (positive n ne)))) ne

  pub value_refused : (n : ℕ) → first (access_rows (parts_of d) index sub payload) ≡ 0 → n ≡ first (value_rows d index sub payload)
      → (n ≡ 0 → ⊥) → Outcome (machines (parts_of d)) (direct (write index sub payload)) (plain n) (machines (parts_of d))
  unfolding refuse
  value_refused n a e ne = refused_outcome (parts_of d) (write index sub payload) n (e ∙ sym (table_is ∙ value_decides a)) ne

-- ---- commands

-- fault that lasts, or its absence that lasts, moves no output
move_still : (b : Bool) (k : Kind) (o : Own k) → move_own b b k o ≡ o
unfolding move_output_line move_analogue_output
move_still b node_alone o = refl
move_still b input_line o = refl
move_still true output_line o = refl
move_still false output_line o = refl
move_still b analogue_input o = refl
move_still true analogue_output o = refl
move_still false analogue_output o = refl
move_still b mapping o = refl
move_still b watch o = refl

module _ (d r : Parts) (code to : ℕ) (taken : refusal (conditions (machines d) (command code to)) (command code to) ≡ 0) where
  commanded : ((k : Kind) (i : ℕ) → i < count k
      → machines r k i ≡ record { node = command_node code to d.node; own = command_own code to k d.node (own_of d k i) })
      → Outcome (machines d) (direct (command code to)) (plain 0) (machines r)
  unfolding answer
  commanded at =
      accepted_outcome d r (command code to) (plain 0) taken
      (λ t. record { at = λ k i h. at k i h ∙ sym (command_step k i code to (machines d k i) (t k i)) }) refl

  -- for this node, and no reset
  pub obeyed_outcome : addressed to d.node ≡ true → (code ≡ 129 → ⊥)
      → Same (machines r) (moved (obey_node code d.node) (eqb code 130) d)
      → Outcome (machines d) (direct (command code to)) (plain 0) (machines r)
  obeyed_outcome h ne s = commanded (λ k i l. s.at k i l ∙ rw (h, ne_eqb code 129 ne))

  -- reset node
  pub reset_outcome : addressed to d.node ≡ true → code ≡ 129 → Same (machines r) (fresh_machines d.node.number)
      → Outcome (machines d) (direct (command code to)) (plain 0) (machines r)
  unfolding obey_node
  reset_outcome h e s = commanded (λ k i l. s.at k i l ∙ rw (h, e))

-- for another node
pub other_outcome : (d : Parts) (code to : ℕ) → refusal (conditions (machines d) (command code to)) (command code to) ≡ 0
    → addressed to d.node ≡ false → Outcome (machines d) (direct (command code to)) (plain 0) (machines d)
other_outcome d code to taken h = commanded d d code to taken
    (λ k i l. rw h (same_machine refl (sym (move_still (fault d.node) k (own_of d k i)))))

-- ---- samples and drives

-- what is known once the buffers have their lengths
pub record Sampling (d r : Parts) (digital : List ℕ) (analogue : List ℤ) (shown : List ℕ) (events : ℕ) : Type 0 where
  pub node : r.node ≡ d.node
  pub outputs : OutputsKept d r
  pub mappings : MappingsKept d r
  pub watched : WatchKept d r
  pub row : Row
  pub edges : Row
  pub reported : Row
  pub loaded : Loaded digital row
  pub lines : line.Sampled d.words d.node.length row edges r.words
  pub gated : (i : ℕ) → row_at reported i ≡ (operational d.node && d.node.digital) && row_at edges i
  pub stored : shown ≡ bytes 16 (row_at reported)
  pub channels : input.AllSampled (operational d.node && d.node.analogue) analogue d.inputs events r.inputs

module _ {d r : Parts} {digital : List ℕ} {analogue : List ℤ} {shown : List ℕ} {n : ℕ} (s : Sampling d r digital analogue shown n) where
  reported_is : (i : ℕ) → i < 128 → row_at s.reported i ≡ line_events (machines d) digital i
  unfolding line_event
  reported_is i h =
      s.gated i
      ∙ ap (λ (b : Bool). (operational d.node && d.node.digital) && b)
      (s.lines.edges i h ∙ ap (λ (b : Bool). edge d.node.length b (input_at d.words i)) (s.loaded.at i h))

  sampled_machines : (events : List ℕ) → ((k : Kind) (i : ℕ) → Takes k i (sample digital analogue events) (machines d k i))
      → Same (machines r) (step_all (direct (sample digital analogue events)) (machines d))
  unfolding channel_event met
  sampled_machines events t =
      by_kind (machines r) (step_all (direct (sample digital analogue events)) (machines d))
      (same_machine s.node refl ∙ sym (sample_step node_alone 0 digital analogue events (machines d node_alone 0) (t node_alone 0)))
      (λ i h. same_machine s.node
      (s.lines.inputs i h ∙ ap (λ (b : Bool). sample_line d.node.length b (input_at d.words i)) (s.loaded.at i h))
      ∙ sym (sample_step input_line i digital analogue events (machines d input_line i) (t input_line i)))
      (λ i h. same_machine s.node (s.lines.outputs i h) ∙ sym
      (sample_step output_line i digital analogue events (machines d output_line i) (t output_line i)))
      (λ i h. same_machine s.node (s.channels.channels i h)
      ∙ sym (sample_step analogue_input i digital analogue events (machines d analogue_input i) (t analogue_input i)))
      (λ i h. same_machine s.node (s.outputs i h)
      ∙ sym (sample_step analogue_output i digital analogue events (machines d analogue_output i) (t analogue_output i)))
      (λ i h. same_machine s.node (s.mappings i h)
      ∙ sym (sample_step mapping i digital analogue events (machines d mapping i) (t mapping i)))
      (same_machine s.node s.watched ∙ sym (sample_step watch 0 digital analogue events (machines d watch 0) (t watch 0)))

  pub sample_outcome : (events : List ℕ) → refusal (conditions (machines d) (sample digital analogue events))
      (sample digital analogue events) ≡ 0
      → Outcome (machines d) (direct (sample digital analogue events)) (sample_reply n shown) (machines r)
  unfolding answer channel_event met
  sample_outcome events e =
      accepted_outcome d r (sample digital analogue events) (sample_reply n shown) e (sampled_machines events)
      (ap₂ sample_reply s.channels.events_are
      (s.stored ∙ bytes_cong 16 (row_at s.reported) (line_events (machines d) digital) reported_is))

pub drive_outcome : (d : Parts) (lines out : List ℕ) (channels numbers : List ℤ) → refusal
    (conditions (machines d) (drive lines channels)) (drive lines channels) ≡ 0
    → line.Driven d.words out → output.Driven (λ n. (d.outputs n).driven) numbers
    → Outcome (machines d) (direct (drive lines channels)) (drive_reply out numbers) (machines d)
unfolding answer
drive_outcome d lines out channels numbers e l c =
    accepted_outcome d d (drive lines channels) (drive_reply out numbers) e
    (λ t. record { at = λ k i h. sym (drive_step k i lines channels (machines d k i)) })
    (ap₂ drive_reply l.bytes c.numbers)
