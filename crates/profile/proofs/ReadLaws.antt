-- Document 02, Item 3: what an accepted read answers fits the bytes that it tells, where what the machines hold fits their entries.
-- Assumes nothing.
use mathlib.Core.Path.{◌≡◌, ◌∙◌, sym}
use mathlib.Core.Bool.{Bool, true, false, cond, ◌||◌}
use Prim.Native.Nat.{ℕ, ◌+◌, ◌^◌, ◌≤◌, ◌<◌}
use native.Mathlib.Nat.{lt_of_lt_of_le}
use native.Mathlib.Omega.{arith}
use lib.Dec.{eqb}
use mir.Syntax.{w16, w32}
use mir.Val.{of_z}
use borrow.Author.Tests.{eqb-true, ltb-true, leb-true, not-false}
use Rattle.profile.specs.declared.Node.{Node}
use Rattle.profile.specs.declared.AnalogueInput.{AnalogueInput}
use Rattle.profile.specs.declared.AnalogueOutput.{AnalogueOutput}
use Rattle.profile.specs.Entries.{Entry}
use Rattle.profile.specs.declared.Home.{Home}
use Rattle.profile.specs.declared.Home.TheVariants.{Constant, Window, InputChannel, OutputChannel, Sources, Device, MappingEntry, WatchEntry}
use Rattle.profile.specs.Bits.{bit}
use Rattle.profile.specs.Nodes.{stopped}
use Rattle.profile.specs.Entries.{entry_of, home_of, first_line}
use Rattle.profile.specs.NodeAlone.{read_node}
use Rattle.profile.specs.AnalogueInput.{input_size, read_analogue_input}
use Rattle.profile.specs.AnalogueOutput.{output_size, read_analogue_output}
use Rattle.profile.specs.Mapping.{read_mapping}
use Rattle.profile.specs.WatchEntries.{watch_at}
use Rattle.profile.specs.Calls.{read, direct}
use Rattle.profile.specs.Refusals.{first, entry_checks, read_refusal, refusal}
use Rattle.profile.specs.Machines.{node_alone, analogue_input, analogue_output, mapping, watch}
use Rattle.profile.specs.Heard.{Machines, number_of}
use Rattle.profile.specs.ServerClaims.{ReadsFit}
use Rattle.profile.specs.Replies.{row_bit, read_value, read_reply, answer, answer_to, reply}
use Rattle.profile.proofs.BoolLaws.{picked}
use Rattle.profile.proofs.BitLaws.{gather_small}
use Rattle.profile.proofs.EntryRanges.{InRange, in_range, mapping_size}
use Rattle.profile.proofs.SizeLaws.{fitting, entry_sized}
use Rattle.profile.proofs.RefusalLaws.{none_holds, access_sound}
use Rattle.profile.proofs.ReplyLaws.{reply_number}

-- ---- the value at each home

-- a bit as a number
pub one_bit : (b : Bool) → bit b < 2
one_bit true = omega arith
one_bit false = omega arith

-- entries of two bytes, of one, and of four, as those of the analogue channels
sizes : (a b : Bool) (x y z : ℕ) → x < 256 ^ 2 → y < 256 → z < 256 ^ 4 → cond a x (cond b y z) < 256 ^ cond a 2 (cond b 1 4)
sizes true b x y z p q r = p
sizes false true x y z p q r = q
sizes false false x y z p q r = r

-- what the machines hold fits the bytes of their entries
pub record HeldInput (o : AnalogueInput) : Type 0 where
  pub last : of_z w16 o.last < 256 ^ 2
  pub selection : o.selection < 256
  pub upper : of_z w32 o.upper < 256 ^ 4
  pub lower : of_z w32 o.lower < 256 ^ 4
  pub delta : o.delta < 256 ^ 4
  pub negative : o.negative < 256 ^ 4
  pub positive : o.positive < 256 ^ 4

pub record HeldOutput (o : AnalogueOutput) : Type 0 where
  pub kept : of_z w16 o.kept < 256 ^ 2
  pub error : of_z w32 o.error < 256 ^ 4

pub record HeldNode (n : Node) : Type 0 where
  pub behaviour : n.behaviour < 256
  pub filtering : n.length < 256

pub record Held (ms : Machines) : Type 0 where
  pub node : HeldNode (ms node_alone 0).node
  pub inputs : (n : ℕ) → HeldInput (ms analogue_input n).own
  pub outputs : (n : ℕ) → HeldOutput (ms analogue_output n).own
  pub mappings : (m sub : ℕ) → m < 8 → sub ≤ 8 → read_mapping sub (ms mapping m).own < 256 ^ mapping_size sub
  pub watches : (n : ℕ) → n < 4 → (watch_at (ms watch 0).own n).value < 256 ^ 4

input_fits : (o : AnalogueInput) (index : ℕ) → HeldInput o → read_analogue_input index o < 256 ^ input_size index
unfolding read_analogue_input
input_fits o index h =
    sizes (eqb index 0x6401) (eqb index 0x6421) (of_z w16 o.last) o.selection _ h.last h.selection
    (picked Four (eqb index 0x6424) _ _ (λ e. h.upper) (λ e. picked Four (eqb index 0x6425) _ _ (λ e. h.lower)
    (λ e. picked Four (eqb index 0x6426) _ _ (λ e. h.delta) (λ e. picked Four (eqb index 0x6427) _ _ (λ e. h.negative)
    (λ e. h.positive)))))
  where
    Four : ℕ → Type 0
    Four x = x < 256 ^ 4

output_fits : (o : AnalogueOutput) (index : ℕ) → HeldOutput o → read_analogue_output index o < 256 ^ output_size index
unfolding read_analogue_output
output_fits o index h =
    sizes (eqb index 0x6411) (eqb index 0x6443) (of_z w16 o.kept) (bit o.mode) (of_z w32 o.error) h.kept
    (omega (arith, one_bit o.mode)) h.error

node_fits : (n : Node) (index : ℕ) → HeldNode n → read_node index n < 256
unfolding read_node
node_fits n index h =
    picked Byte (eqb index 0x1001) _ _ (λ e. omega (arith, one_bit (n.internal || n.lost), one_bit n.lost))
    (λ e. picked Byte (eqb index 0x1029) _ _ (λ e. h.behaviour) (λ e. picked Byte (eqb index 0x2003) _ _ (λ e. h.filtering)
    (λ e. picked Byte (eqb index 0x6005) _ _ (λ e. omega (arith, one_bit n.digital)) (λ e. omega (arith, one_bit n.analogue)))))
  where
    Byte : ℕ → Type 0
    Byte x = x < 256

module _ (ms : Machines) (held : Held ms) where
  value_fits : (e : Entry) (home : Home) → InRange e home → fitting e home ≡ true → read_value ms home < 256 ^ e.size
  unfolding read_value
  value_fits e (Constant v) r f = ltb-true v (256 ^ e.size) f
  value_fits e (Window row w s) r f =
      lt_of_lt_of_le (gather_small w (λ b. row_bit row ms (first_line w s + b))) (leb-true (2 ^ w) (256 ^ e.size) f)
  value_fits e (InputChannel index n) r f = rw r.1 (input_fits (ms analogue_input n).own index (held.inputs n))
  value_fits e (OutputChannel index n) r f = rw r.1 (output_fits (ms analogue_output n).own index (held.outputs n))
  value_fits e Sources r f = rw (eqb-true e.size 4 f) (omega (arith, gather_small 16 (λ n. (ms analogue_input n).own.source)))
  value_fits e (Device index) r f = rw r (node_fits (ms node_alone 0).node index held.node)
  value_fits e (MappingEntry m sub) r f = rw r.2 (held.mappings m sub r.0 r.1)
  value_fits e (WatchEntry n) r f = rw r.1 (held.watches n r.0)

-- ---- the reply

-- an accepted read is of an entry that is there
read_there : (stopped : Bool) (e : Entry) → first (entry_checks stopped e) ≡ 0 → e.absent ≡ 0
read_there stopped e z =
    let sound = access_sound stopped e 0 in
    let none = none_holds (entry_checks stopped e) (sound.0, (sound.1.0, tt)) z in
    eqb-true e.absent 0 (not-false (eqb e.absent 0) none.1.0)

-- what an accepted read answers
pub read_replies : (ms : Machines) (index sub : ℕ) → number_of ms (direct (read index sub)) ≡ 0
    → reply ms (direct (read index sub)) ≡ read_reply (read_value ms (home_of index sub)) (entry_of index sub).size
unfolding reply answer_to answer
read_replies ms index sub z = rw z

-- so it has one byte to four
pub read_sized : (ms : Machines) (index sub : ℕ) → number_of ms (direct (read index sub)) ≡ 0
    → (1 ≤ (reply ms (direct (read index sub))).size) × ((reply ms (direct (read index sub))).size ≤ 4)
unfolding number_of refusal read_refusal
read_sized ms index sub z =
    let sized = entry_sized index sub in
    rw (read_replies ms index sub z) (sized.least (read_there (stopped (ms node_alone 0).node) (entry_of index sub) z), sized.most)

-- "A read answers the entry's bytes as an unsigned number and their count": the number fits the bytes that are counted, one to four
pub reads_fit : (ms : Machines) → Held ms → ReadsFit ms
reads_fit ms held index sub accepted =
    let z : number_of ms (direct (read index sub)) ≡ 0 = sym (reply_number ms (direct (read index sub))) ∙ accepted in
    let sized = read_sized ms index sub z in
    let small = value_fits ms held (entry_of index sub) (home_of index sub) (in_range index sub) (entry_sized index sub).fits in
    record { least = sized.0; most = sized.1; fits = rw (read_replies ms index sub z) small }
