-- Document 02, Item 2: what a write of 2003 does, and what any other call does to the length.
-- Assumes nothing.
use mathlib.Core.Path.{◌≡◌, refl, ap}
use mathlib.Core.Bool.{Bool, true, false, not, cond, ◌||◌, ◌&&◌, beq, false≢true}
use mathlib.Core.List.{List, [], ◌∷◌}
use Prim.Native.Nat.{ℕ, ◌+◌, ◌≤◌, ◌<◌}
use native.Mathlib.Nat.{add-zero}
use native.Mathlib.Omega.{arith}
use lib.Dec.{eqb, ltb}
use lib.IntN.{ℤ}
use lib.ListN.{length}
use borrow.Author.Tests.{eqb-true, ltb-false, le-ltb, le-leb, lt-leb}
use Rattle.profile.specs.declared.Node.{Node}
use Rattle.profile.specs.declared.Cause.TheVariants.{Internal, Lost}
use Rattle.profile.specs.Entries.{Entry}
use Rattle.profile.specs.declared.Home.{Home}
use Rattle.profile.specs.declared.Home.TheVariants.{Constant, Window, InputChannel, OutputChannel, Sources, Device, MappingEntry, WatchEntry}
use Rattle.profile.specs.Bytes.{little_endian, line_bit}
use Rattle.profile.specs.Nodes.{stopped, fresh_node, raise_node, clear_node, addressed, obey_node}
use Rattle.profile.specs.Entries.{object_of, entry_of, home_of, not_allowed, above_range, below_range, at_device}
use Rattle.profile.specs.Calls.{Plain, read, write, sample, command, raise, clear, drive, heartbeat, pass, Call, direct}
use Rattle.profile.specs.Refusals.{Conditions, write_refusal, is_command, command_refusal, refusal, sample_refusal, accepted}
use Rattle.profile.specs.NodeAlone.{device_wide, write_node, next_node}
use Rattle.profile.specs.InputLine.{InputLine, settle, sample_line, edge, line_event}
use Rattle.profile.specs.Machines.{Kind, node_alone, input_line, Machine, known, step}
use Rattle.profile.specs.Heard.{fresh_machines, fold, conditions, number_of, spoken}
use Rattle.profile.specs.Lists.{after}
use Rattle.profile.specs.FilterLength.{with_length, LengthObeyed, LengthReset}
use Rattle.profile.proofs.BoolLaws.{both, neither, picked}
use Rattle.profile.proofs.NodesAgree.{bare, node_by, node_step, step_node, after_node}
use Rattle.profile.proofs.RefusalLaws.{write_passed}
use Rattle.profile.proofs.EntryTests.{entry_passes}
use Rattle.profile.proofs.StepLaws.{cond_same, setting_owns, write_step, sample_step, command_step}

-- ---- a write of 2003

length_home : home_of 0x2003 0 ≡ Device 0x2003
unfolding entry_of object_of
length_home = refl

-- the number of such a write, by the tests of its value
length_refusal : (has : Conditions) (v : ℕ) → has.stopped ≡ false
    → refusal has (write 0x2003 0 (v ∷ [])) ≡ cond (ltb v 1 || ltb 255 v) 0x06090030 0
unfolding refusal write_refusal entry_of object_of not_allowed above_range below_range
length_refusal has v s = rw (s, add-zero v) refl

-- "zero meets 06090030"
pub zero_refused : (number : ℕ) (cs : List Call) → stopped (after number cs node_alone 0).node ≡ false
    → number_of (after number cs) (direct (write 0x2003 0 (0 ∷ []))) ≡ 0x06090030
unfolding number_of
zero_refused number cs s = length_refusal (conditions (after number cs) (write 0x2003 0 (0 ∷ []))) 0 s

length_taken : (has : Conditions) (v : ℕ) → 1 ≤ v → v < 256 → has.stopped ≡ false → accepted has (write 0x2003 0 (v ∷ [])) ≡ true
length_taken has v least most running = rw (length_refusal has v running, le-ltb v 1 least, le-ltb 255 v (omega arith))

-- "keeps every count": it gives every machine the new length, and nothing else of it moves
pub length_written : (k : Kind) (i v : ℕ) (m : Machine k) → 1 ≤ v → v < 256 → stopped m.node ≡ false
    → step k i (write 0x2003 0 (v ∷ [])) m ≡ with_length k v m
length_written k i v m least most running =
    rw (
      write_step k i 0x2003 0 (v ∷ []) (Device 0x2003) m length_home (λ h. length_taken (known k m) v least most running),
      add-zero v,
    )
    (λ t. record { node = (with_length k v m).node; own = setting_owns k 0x2003 v i m.node m.own t })

-- ---- a sample after such a write

agreeing : (s f : Bool) → beq s f ≡ true → s ≡ f
agreeing true true e = refl
agreeing true false e = absurd (false≢true e)
agreeing false true e = absurd (false≢true e)
agreeing false false e = refl

-- the rule's three tests, where the filter is on and the sample differs
third : {A : Type 0} (on same reached t : Bool) (a b x y : A) → on ≡ true → same ≡ false → reached ≡ t
    → cond (not on) a (cond same b (cond reached x y)) ≡ cond t x y
third on same reached t a b x y p q r = rw (p, q, r)

line_obeys : (n : Node) (s : Bool) (m : InputLine) → LengthObeyed n s m (sample_line n.length s m)
unfolding sample_line line_event edge
line_obeys n s m =
    record {
      settles = λ f d h. third m.filter (beq s m.settled) _ true _ _ _ _ f d (le-leb n.length (m.count + 1) h);
      counts = λ f d h. third m.filter (beq s m.settled) _ false _ _ _ _ f d (lt-leb n.length (m.count + 1) h);
      agrees = λ e. rw (e, agreeing s m.settled e) (cond_same (not m.filter) (settle m.settled 0 m));
      unfiltered = λ f. rw f refl;
      event = refl;
    }

sample_taken : (has : Conditions) (digital : List ℕ) (analogue : List ℤ) (events : List ℕ) → length digital ≡ 16 → length analogue ≡ 16
    → length events ≡ 16 → accepted has (sample digital analogue events) ≡ true
unfolding refusal sample_refusal
sample_taken has digital analogue events d a e = rw (d, a, e)

-- at every sample a line goes by the length that it carries then, whatever calls came before
pub sample_obeyed : (i : ℕ) (m : Machine input_line) (digital : List ℕ) (analogue : List ℤ) (events : List ℕ) → length digital ≡ 16
    → length analogue ≡ 16 → length events ≡ 16
    → LengthObeyed m.node (line_bit digital i) m.own (step input_line i (sample digital analogue events) m).own
sample_obeyed i m digital analogue events d a e =
    rw (sample_step input_line i digital analogue events m (λ h. sample_taken (known input_line m) digital analogue events d a e))
    (line_obeys m.node (line_bit digital i) m.own)

-- so by a new length from the next sample on, and not at the write
pub length_obeyed : (i v : ℕ) (m : Machine input_line) (digital : List ℕ) (analogue : List ℤ) (events : List ℕ) → 1 ≤ v → v < 256
    → stopped m.node ≡ false → length digital ≡ 16 → length analogue ≡ 16 → length events ≡ 16
    → LengthObeyed (with_length input_line v m).node (line_bit digital i) m.own
    (step input_line i (sample digital analogue events) (step input_line i (write 0x2003 0 (v ∷ [])) m)).own
length_obeyed i v m digital analogue events least most running d a e =
    rw (length_written input_line i v m least most running) (sample_obeyed i (with_length input_line v m) digital analogue events d a e)

-- ---- the two resets

command_taken : (has : Conditions) (code to : ℕ) → to < 128 → is_command code ≡ true → accepted has (command code to) ≡ true
unfolding refusal command_refusal
command_taken has code to h c = rw (le-ltb 127 to (omega arith), c)

-- reset node sets 3 again, reset communication keeps the length
pub length_reset : (k : Kind) (i to : ℕ) (m : Machine k) → to < 128 → addressed to m.node ≡ true
    → LengthReset k m (step k i (command 129 to) m) (step k i (command 130 to) m)
unfolding obey_node
length_reset k i to m h here =
    record {
      node =
          rw (command_step k i 129 to m (λ x. command_taken (known k m) 129 to h refl))
          (ap (λ (b : Bool). (cond b (obey_node 129 m.node) m.node).length) here);
      communication =
          rw (command_step k i 130 to m (λ x. command_taken (known k m) 130 to h refl))
          (ap (λ (b : Bool). (cond b (obey_node 130 m.node) m.node).length) here);
    }

-- ---- which entry's write gives the length

-- that of 2003, of the values 1 to 255
pub record LengthEntry (index : ℕ) (e : Entry) : Type 0 where
  pub index_is : eqb index 0x2003 ≡ true
  pub lowest_is : e.lowest ≡ 1
  pub highest_is : e.highest ≡ 255

-- as a test of an entry at its home
abbrev tested : ℕ → Entry → Home → Bool
tested index e h =
    at_device true (λ x. not (eqb x 0x2003) || (eqb index 0x2003 && (eqb e.lowest 1 && eqb e.highest 255))) h

abbrev passes : ℕ → Entry → Bool
passes index e = tested index e e.home

-- ---- what a plain call does to the length

module _ (P : ℕ → Type 0) (index v : ℕ) (e : Entry) (n : Node) (kept : P n.length) (given : LengthEntry index e → P v) where
  device_length : (x : Bool) → not x || (eqb index 0x2003 && (eqb e.lowest 1 && eqb e.highest 255)) ≡ true
      → P (cond x v n.length)
  device_length true t =
      let a = both (eqb index 0x2003) (eqb e.lowest 1 && eqb e.highest 255) t in
      let b = both (eqb e.lowest 1) (eqb e.highest 255) a.1 in
      given (record { index_is = a.0; lowest_is = eqb-true e.lowest 1 b.0; highest_is = eqb-true e.highest 255 b.1 })
  device_length false t = kept

  home_length : (h : Home) → tested index e h ≡ true → P (write_node h v n).length
  home_length (Constant c) t = kept
  home_length (Window row w s) t = kept
  home_length (InputChannel j c) t = kept
  home_length (OutputChannel j c) t = kept
  home_length Sources t = kept
  home_length (Device x) t = device_length (eqb x 0x2003) t
  home_length (MappingEntry m sub) t = kept
  home_length (WatchEntry c) t = kept

-- a call that writes the length writes one that has the property
abbrev pub Gives : (ℕ → Type 0) → Plain → Type 0
Gives P c =
    (index sub : ℕ) (payload : List ℕ) → c ≡ write index sub payload → LengthEntry index (entry_of index sub) → P (little_endian payload)

-- a property of the default length, and of each that an accepted write gives, stays at every plain call
module _ (P : ℕ → Type 0) (fresh : P 3) where
  abbrev Has : Node → Type 0
  Has n = P n.length

  either : (t : Bool) (x y : Node) → Has x → Has y → Has (cond t x y)
  either t x y p q = picked Has t x y (λ e. p) (λ e. q)

  obeyed_length : (code : ℕ) (n : Node) → Has n → Has (obey_node code n)
  unfolding obey_node
  obeyed_length code n p =
      either (eqb code 1) _ _ p (either (eqb code 2) _ _ p (either (eqb code 128) _ _ p
      (either (eqb code 129) _ _ fresh (either (eqb code 130) _ _ p p))))

  next_length : (c : Plain) (n : Node) → Has n → Gives P c → Has (next_node c n)
  unfolding next_node raise_node clear_node
  next_length (read index sub) n p w = p
  next_length (write index sub payload) n p w =
      home_length P index (little_endian payload) (entry_of index sub) n p (w index sub payload refl) (home_of index sub)
      (entry_passes passes index sub refl refl (λ row c h. (refl, refl)) refl)
  next_length (sample digital analogue events) n p w = p
  next_length (command code to) n p w = either (addressed to n) _ n (obeyed_length code n p) p
  next_length (raise Internal) n p w = p
  next_length (raise Lost) n p w = either n.lost n _ p p
  next_length (clear Internal) n p w = p
  next_length (clear Lost) n p w = p
  next_length (drive lines channels) n p w = p
  next_length (heartbeat node) n p w = p
  next_length (pass t) n p w = p

  pub step_length : (c : Plain) (n : Node) → P n.length → (accepted (bare n) c ≡ true → Gives P c) → P (node_step c n).length
  step_length c n p w =
      picked Has (device_wide c) (node_by (bare n) c n) n
      (λ e. picked Has (accepted (bare n) c) (next_node c n) n (λ t. next_length c n p (w t)) (λ e. p)) (λ e. p)

-- ---- the length after any list

-- "one byte, 1 to 255"
abbrev pub Bounded : ℕ → Type 0
Bounded l = (1 ≤ l) × (l < 256)

written_bounded : (has : Conditions) (index sub : ℕ) (payload : List ℕ) → accepted has (write index sub payload) ≡ true
    → LengthEntry index (entry_of index sub) → Bounded (little_endian payload)
unfolding not_allowed
written_bounded has index sub payload t l =
    let v = little_endian payload in
    let passed = rw (l.lowest_is, l.highest_is) at (write_passed has index sub payload t).value.allowed in
    let within = neither (ltb v 1) (ltb 255 v) passed in
    (ltb-false v 1 within.0, omega (arith, ltb-false 255 v within.1))

node_bounded : (c : Plain) (n : Node) → Bounded n.length → Bounded (node_step c n).length
node_bounded c n b =
    step_length Bounded (omega arith) c n b
    (λ t index sub payload e l. written_bounded (bare n) index sub payload (rw e at t) l)

-- so in every machine
pub step_bounded : (k : Kind) (i : ℕ) (c : Plain) (m : Machine k) → Bounded m.node.length → Bounded (step k i c m).node.length
step_bounded k i c m b = rw (step_node k i c m) (node_bounded c m.node b)

-- what every plain call keeps, every list keeps
pub fold_holds : {S : Type 0} (P : S → Type 0) (f : Plain → S → S) → ((c : Plain) (s : S) → P s → P (f c s)) → (cs : List Plain) (s : S)
    → P s → P (fold f s cs)
fold_holds P f keeps [] s p = p
fold_holds P f keeps (c ∷ cs) s p = fold_holds P f keeps cs (f c s) (keeps c s p)

-- "one byte, 1 to 255": so is the length in every machine after any list
pub length_bounded : (number : ℕ) (cs : List Call) (k : Kind) (i : ℕ)
    → (1 ≤ (after number cs k i).node.length) × ((after number cs k i).node.length < 256)
length_bounded number cs k i =
    rw (after_node number cs k i)
    (fold_holds (λ (n : Node). Bounded n.length) node_step node_bounded (spoken (fresh_machines number) cs) (fresh_node number)
    (omega arith))
