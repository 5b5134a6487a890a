-- From the promises of the lines and the channels to every machine of the device.
-- Assumes nothing.
use mathlib.Core.Path.{◌≡◌, refl, ap, ap₂, ◌∙◌, sym}
use mathlib.Core.Bool.{Bool, false, not, cond, ◌||◌, ◌&&◌, or-false}
use mathlib.Core.List.{List}
use Prim.Native.Nat.{ℕ, zero, suc, ◌<◌}
use native.Mathlib.Omega.{arith}
use lib.Dec.{eqb, ltb, leb}
use Rattle.std.proofs.lemmas.Grind.{common_steps}
use Rattle.profile.specs.declared.Node.{Node}
use Rattle.profile.specs.declared.Home.{Home}
use Rattle.profile.specs.declared.Home.TheVariants.{Window, InputChannel, OutputChannel, Sources, Device, MappingEntry, WatchEntry}
use Rattle.profile.specs.Bits.{bit_at}
use Rattle.profile.specs.Nodes.{fresh_node, fault}
use Rattle.profile.specs.Entries.{inside, bit_of}
use Rattle.profile.specs.InputLine.{write_input_line}
use Rattle.profile.specs.OutputLine.{write_output_line, move_output_line}
use Rattle.profile.specs.AnalogueInput.{fresh_analogue_input, write_analogue_input}
use Rattle.profile.specs.AnalogueOutput.{fresh_analogue_output, write_analogue_output, move_analogue_output}
use Rattle.profile.specs.Machines.{Kind, node_alone, input_line, output_line, analogue_input, analogue_output, mapping, watch, count, Own}
use Rattle.profile.specs.Machines.{Machine, entry_names, clear_own}
use Rattle.profile.specs.Entries.{reads_sources}
use Rattle.profile.specs.NodeAlone.{write_node}
use Rattle.profile.specs.MappedEntries.{empty_mapping}
use Rattle.profile.specs.Mapping.{write_mapping}
use Rattle.profile.specs.WatchEntries.{empty_watches}
use Rattle.profile.specs.Watch.{write_watch}
use Rattle.profile.specs.Heard.{Machines, fresh_machines}
use Rattle.profile.proofs.BitLaws.{bit_zero}
use Rattle.profile.proofs.StepLaws.{cond_same, setting_names, setting_owns}
use Rattle.profile.specs.Outcome.{Same}
use Rattle.windows.specs.View.{row_at}
use Rattle.lines.specs.View.{input_at, output_at}
use Rattle.lines.specs.Promises as line
use Rattle.analogue_inputs.specs.Promises as input
use Rattle.analogue_outputs.specs.Promises as output
use Rattle.store.specs.View.{Parts, own_of, machines}
use Rattle.store.specs.Promises.{moved, wrote, has_read}

-- two families are the same where they are so at each kind
pub by_kind : (a b : Machines) → a node_alone 0 ≡ b node_alone 0
    → ((i : ℕ) → i < 128 → a input_line i ≡ b input_line i) → ((i : ℕ) → i < 128 → a output_line i ≡ b output_line i)
    → ((i : ℕ) → i < 16 → a analogue_input i ≡ b analogue_input i) → ((i : ℕ) → i < 8 → a analogue_output i ≡ b analogue_output i)
    → ((i : ℕ) → i < 8 → a mapping i ≡ b mapping i) → a watch 0 ≡ b watch 0 → Same a b
by_kind a b n p q r s m w = record { at = at }
  where
    at : (k : Kind) (i : ℕ) → i < count k → a k i ≡ b k i
    at node_alone zero h = n
    at node_alone (suc i) h = absurd (omega arith)
    at input_line i h = p i h
    at output_line i h = q i h
    at analogue_input i h = r i h
    at analogue_output i h = s i h
    at mapping i h = m i h
    at watch zero h = w
    at watch (suc i) h = absurd (omega arith)

-- a machine from its node and its own part
pub same_machine : {k : Kind} {n m : Node} {o p : Own k} → n ≡ m → o ≡ p → ◌≡◌ {A = Machine k} (record { node = n; own = o })
    (record { node = m; own = p })
same_machine e f = λ t. record { node = e t; own = f t }

-- every machine is fresh
pub fresh_machines_lem : (d : Parts) (number : ℕ) → d.node ≡ fresh_node number → line.Fresh d.words
    → ((i : ℕ) → i < 16 → d.inputs i ≡ fresh_analogue_input) → ((i : ℕ) → i < 8 → d.outputs i ≡ fresh_analogue_output)
    → ((i : ℕ) → i < 8 → d.mappings i ≡ empty_mapping) → d.watches ≡ empty_watches → Same (machines d) (fresh_machines number)
fresh_machines_lem d number n l is os ms ws =
    by_kind (machines d) (fresh_machines number) (same_machine n refl) (λ i h. same_machine n (l.inputs i h))
    (λ i h. same_machine n (l.outputs i h))
    (λ i h. same_machine n (is i h))
    (λ i h. same_machine n (os i h))
    (λ i h. same_machine n (ms i h)) (same_machine n ws)

-- the inputs stayed, and the outputs, the mappings, and the watch
abbrev pub InputsKept : Parts → Parts → Type 0
InputsKept d r = (i : ℕ) → i < 16 → r.inputs i ≡ d.inputs i

abbrev pub OutputsKept : Parts → Parts → Type 0
OutputsKept d r = (i : ℕ) → i < 8 → r.outputs i ≡ d.outputs i

abbrev pub MappingsKept : Parts → Parts → Type 0
MappingsKept d r = (i : ℕ) → i < 8 → r.mappings i ≡ d.mappings i

abbrev pub WatchKept : Parts → Parts → Type 0
WatchKept d r = r.watches ≡ d.watches

-- lines, channels, mappings and the watch stayed
pub owns_same : (d r : Parts) → r.words ≡ d.words → InputsKept d r → OutputsKept d r → MappingsKept d r → WatchKept d r
    → (k : Kind) (i : ℕ) → i < count k → own_of r k i ≡ own_of d k i
owns_same d r ls is os ms ws node_alone i h = refl
owns_same d r ls is os ms ws input_line i h = ap (λ (ws : List ℕ). input_at ws i) ls
owns_same d r ls is os ms ws output_line i h = ap (λ (ws : List ℕ). output_at ws i) ls
owns_same d r ls is os ms ws analogue_input i h = is i h
owns_same d r ls is os ms ws analogue_output i h = os i h
owns_same d r ls is os ms ws mapping i h = ms i h
owns_same d r ls is os ms ws watch i h = ws

-- the node changed, and with it fault: `before` and `after` are what the code found
pub node_moved : (d r : Parts) (n : Node) (reset before after : Bool) → before ≡ fault d.node → after ≡ fault n → r.node ≡ n
    → line.Moved before after d.words r.words → InputsKept d r → output.AllMoved before after d.outputs r.outputs
    → ((i : ℕ) → i < 8 → r.mappings i ≡ cond reset empty_mapping (d.mappings i)) → r.watches ≡ cond reset empty_watches d.watches
    → Same (machines r) (moved n reset d)
node_moved d r n reset before after b a e l is os ms ws =
    by_kind (machines r) (moved n reset d) (same_machine e (sym (cond_same reset tt)))
    (λ i h. same_machine e (l.inputs i h ∙ sym (cond_same reset (input_at d.words i))))
    (λ i h. same_machine e (l.outputs i h ∙ ap₂ (λ (x y : Bool). move_output_line x y (output_at d.words i)) b a
    ∙ ap (move_output_line (fault d.node) (fault n)) (sym (cond_same reset (output_at d.words i)))))
    (λ i h. same_machine e (is i h ∙ sym (cond_same reset (d.inputs i))))
    (λ i h. same_machine e (os.channels i h ∙ ap₂ (λ (x y : Bool). move_analogue_output x y (d.outputs i)) b a
    ∙ ap (move_analogue_output (fault d.node) (fault n)) (sym (cond_same reset (d.outputs i)))))
    (λ i h. same_machine e (ms i h)) (same_machine e ws)

-- ---- writes

choice : {k : Kind} (b : Bool) (n : Node) (o p : Own k) → ◌≡◌ {A = Machine k} (record { node = n; own = cond b o p })
    (cond b (record { node = n; own = o }) (record { node = n; own = p }))
choice b n o p = grind arith

module _ (d r : Parts) (node : r.node ≡ d.node) where
  pub window_wrote : (row w s v : ℕ) → line.Written (fault d.node) d.words row w s v r.words
      → InputsKept d r → OutputsKept d r → MappingsKept d r → WatchKept d r → Same (machines r) (wrote (Window row w s) v d)
  window_wrote row w s v l is os ms ws =
      by_kind (machines r) (wrote (Window row w s) v d) (same_machine node refl)
      (λ i h. same_machine node (l.inputs i h) ∙ choice (ltb row 6 && inside w s i) d.node
      (write_input_line row (bit_at v (bit_of w s i)) (input_at d.words i)) (input_at d.words i))
      (λ i h. same_machine node (l.outputs i h) ∙ choice (leb 6 row && inside w s i) d.node
      (write_output_line (fault d.node) row (bit_at v (bit_of w s i)) (output_at d.words i)) (output_at d.words i))
      (λ i h. same_machine node (is i h))
      (λ i h. same_machine node (os i h))
      (λ i h. same_machine node (ms i h)) (same_machine node ws)

module _ (d r : Parts) (node : r.node ≡ d.node) (lines : r.words ≡ d.words) where
  pub input_wrote : (index n v : ℕ) → input.InputWritten index n v d.inputs r.inputs → OutputsKept d r → MappingsKept d r → WatchKept d r
      → Same (machines r) (wrote (InputChannel index n) v d)
  input_wrote index n v is os ms ws =
      by_kind (machines r) (wrote (InputChannel index n) v d) (same_machine node refl)
      (λ i l. same_machine node (ap (λ (ws : List ℕ). input_at ws i) lines))
      (λ i l. same_machine node (ap (λ (ws : List ℕ). output_at ws i) lines))
      (λ i l. same_machine node (is.channels i l) ∙ choice (eqb i n) d.node (write_analogue_input index v (d.inputs i)) (d.inputs i))
      (λ i l. same_machine node (os i l))
      (λ i l. same_machine node (ms i l)) (same_machine node ws)

  pub output_wrote : (index n v : ℕ) → output.OutputWritten (fault d.node) index n v d.outputs r.outputs → InputsKept d r
      → MappingsKept d r → WatchKept d r → Same (machines r) (wrote (OutputChannel index n) v d)
  output_wrote index n v os is ms ws =
      by_kind (machines r) (wrote (OutputChannel index n) v d) (same_machine node refl)
      (λ i l. same_machine node (ap (λ (ws : List ℕ). input_at ws i) lines))
      (λ i l. same_machine node (ap (λ (ws : List ℕ). output_at ws i) lines))
      (λ i l. same_machine node (is i l))
      (λ i l. same_machine node (os.channels i l)
      ∙ choice (eqb i n) d.node (write_analogue_output (fault d.node) index v (d.outputs i)) (d.outputs i))
      (λ i l. same_machine node (ms i l)) (same_machine node ws)

  pub mapping_wrote : (m sub v : ℕ) → InputsKept d r → OutputsKept d r → WatchKept d r
      → ((i : ℕ) → i < 8 → r.mappings i ≡ cond (eqb i m) (write_mapping sub v (d.mappings i)) (d.mappings i))
      → Same (machines r) (wrote (MappingEntry m sub) v d)
  mapping_wrote m sub v is os ws ms =
      by_kind (machines r) (wrote (MappingEntry m sub) v d) (same_machine node refl)
      (λ i l. same_machine node (ap (λ (ws : List ℕ). input_at ws i) lines))
      (λ i l. same_machine node (ap (λ (ws : List ℕ). output_at ws i) lines))
      (λ i l. same_machine node (is i l))
      (λ i l. same_machine node (os i l))
      (λ i l. same_machine node (ms i l) ∙ choice (eqb i m) d.node (write_mapping sub v (d.mappings i)) (d.mappings i))
      (same_machine node ws)

  pub watch_wrote : (n v : ℕ) → InputsKept d r → OutputsKept d r → MappingsKept d r → r.watches ≡ write_watch n v d.watches
      → Same (machines r) (wrote (WatchEntry n) v d)
  watch_wrote n v is os ms ws =
      by_kind (machines r) (wrote (WatchEntry n) v d) (same_machine node refl)
      (λ i l. same_machine node (ap (λ (ws : List ℕ). input_at ws i) lines))
      (λ i l. same_machine node (ap (λ (ws : List ℕ). output_at ws i) lines))
      (λ i l. same_machine node (is i l))
      (λ i l. same_machine node (os i l))
      (λ i l. same_machine node (ms i l))
      (same_machine node ws)

setting_by : (index v : ℕ) (n : Node) (k : Kind) (o : Own k) (t : Bool) → eqb index 0x1001 ≡ t
    → ◌≡◌ {A = Machine k} (record { node = write_node (Device index) v n; own = o })
    (cond (not t) (record { node = write_node (Device index) v n; own = o }) (record { node = n; own = o }))
setting_by index v n k o t e = grind (arith, common_steps)

-- 1029:1, 2003:0, 6005 or 6423
pub setting_wrote : (d r : Parts) (index v : ℕ) → r.node ≡ write_node (Device index) v d.node
    → r.words ≡ d.words → InputsKept d r → OutputsKept d r → MappingsKept d r → WatchKept d r
    → Same (machines r) (wrote (Device index) v d)
setting_wrote d r index v n ls is os ms ws =
    record {
      at = λ k i h.
          same_machine n (owns_same d r ls is os ms ws k i h)
          ∙ setting_by index v d.node k (own_of d k i) (eqb index 0x1001) refl
          ∙ ap (λ (b : Bool). cond b (record { node = write_node (Device index) v d.node; own = own_of d k i }) (machines d k i))
          (sym (ap (λ (x : Bool). not (eqb index 0x1001) || x) (setting_names k index i) ∙ or-false (not (eqb index 0x1001))))
          ∙ ap (λ (o : Own k). cond (not (eqb index 0x1001) || entry_names (Device index) k i)
          (record { node = write_node (Device index) v d.node; own = o }) (machines d k i))
          (sym (setting_owns k index v i d.node (own_of d k i)));
    }

-- ---- reads

-- any entry but 6422:1 leaves every machine
pub read_same : (d : Parts) (e : Home) → reads_sources e ≡ false → Same (machines d) (has_read e d)
read_same d e h = record { at = λ k i l. same_machine refl (ap (λ (b : Bool). cond b (clear_own k (own_of d k i)) (own_of d k i)) (sym h)) }

-- 6422:1 clears the source bits
pub sources_read : (d r : Parts) (sources : ℕ) → r.node ≡ d.node → r.words ≡ d.words → input.SourcesTaken d.inputs sources
    r.inputs
    → OutputsKept d r → MappingsKept d r → WatchKept d r → Same (machines r) (has_read Sources d)
sources_read d r sources n ls is os ms ws =
    by_kind (machines r) (has_read Sources d) (same_machine n refl)
    (λ i l. same_machine n (ap (λ (ws : List ℕ). input_at ws i) ls)) (λ i l. same_machine n (ap (λ (ws : List ℕ). output_at ws i) ls))
    (λ i l. same_machine n (is.channels i l)) (λ i l. same_machine n (os i l)) (λ i l. same_machine n (ms i l)) (same_machine n ws)

-- ---- samples

-- a row with no line set
pub zero_row : (i : ℕ) → row_at (record { low = 0; high = 0 }) i ≡ false
unfolding row_at
zero_row i = grind (arith, bit_zero)
