-- What the parts of a call make of the arrays, as steps of the machines.
-- Assumes nothing.
use mathlib.Core.Path.{◌≡◌, refl, sym, ap, subst, ◌∙◌}
use mathlib.Core.Bool.{Bool, true, false, cond}
use mathlib.Core.List.{List, [], ◌∷◌}
use Prim.Native.Nat.{ℕ, ◌<◌}
use native.Mathlib.Omega.{arith}
use lib.ListN.{get_or, replicate}
use lib.IntN.{ℤ, pos}
use Rattle.profile.specs.declared.Node.{Node}
use Rattle.profile.specs.declared.Home.{Home}
use Rattle.profile.specs.declared.Home.TheVariants.{Constant, Window, InputChannel, OutputChannel, Sources, MappingEntry, WatchEntry}
use Rattle.profile.specs.declared.Home.TheVariants as home
use Rattle.profile.specs.Bits.{bit_at, gather}
use Rattle.profile.specs.Nodes.{fault}
use Rattle.profile.specs.AnalogueInput.{fresh_analogue_input}
use Rattle.profile.specs.AnalogueOutput.{fresh_analogue_output, move_analogue_output}
use Rattle.profile.specs.Entries.{reads_sources}
use Rattle.profile.specs.NodeAlone.{write_node}
use Rattle.profile.specs.Replies.{read_value}
use Rattle.profile.specs.MappedEntries.{empty_mapping}
use Rattle.profile.specs.WatchEntries.{Watch, empty_watches}
use Rattle.profile.specs.Watch.{write_watch}
use Rattle.lines.specs.Promises as line
use Rattle.lines.proofs.ColumnLaws.{end, ◌▸◌, all_at}
use Rattle.channels.specs.View.{input_at, output_at, sources_of}
use Rattle.analogue_inputs.specs.Promises.{InputStored}
use Rattle.analogue_outputs.specs.Promises.{OutputStored}
use Rattle.analogue_inputs.proofs.SourceLaws.{sources_taken}
use Rattle.store.specs.declared.Store.{Store}
use Rattle.store.specs.View.{node_at, node_octets, node_flags, with_node, with_octets, parts_of, machines_of, Sized}
use Rattle.mappings.specs.View.{mapping_at, MappingStored}
use Rattle.store.specs.Promises.{FreshLeft, Stepped, Entered, moved, wrote, has_read, SourcesRead}
use Rattle.channels.specs.View.{Zeroed}
use Rattle.channels.proofs.StoreLaws.{zeroed_both}
use Rattle.mappings.proofs.ViewLaws.{emptied_all}
use Rattle.watches.specs.View.{watches_of, WatchesLeft}
use Rattle.watches.proofs.ViewLaws.{watches_emptied, watches_kept}
use Rattle.store.proofs.MachineLaws.{fresh_machines_lem, node_moved, window_wrote, input_wrote, output_wrote, mapping_wrote}
use Rattle.store.proofs.MachineLaws.{by_kind, same_machine, watch_wrote, setting_wrote, read_same}
use Rattle.store.proofs.OutcomeLaws.{read_cleared}
use Rattle.store.proofs.WatchOutcome.{with_watches}
use Rattle.store.proofs.KeepLaws.{node_kept, inputs_kept, outputs_kept, node_stored, node_octets_lem, node_flags_lem, node_normal}
use Rattle.store.proofs.KeepLaws.{mappings_kept, same_state}

-- ---- fresh arrays

abbrev fresh_octets : ℕ → List ℕ
fresh_octets number = number ∷ 127 ∷ 0 ∷ 7 ∷ 7 ∷ 7 ∷ 7 ∷ 7 ∷ 7 ∷ 7 ∷ 7 ∷ 7 ∷ 7 ∷ 7 ∷ 7 ∷ 7 ∷ 7 ∷ 7 ∷ 7 ∷ 0 ∷ 0 ∷ 3 ∷ []

abbrev fresh_flags : List Bool
fresh_flags = false ∷ false ∷ true ∷ false ∷ true ∷ true ∷ true ∷ true ∷ true ∷ true ∷ true ∷ true ∷ []

abbrev fresh_store : ℕ → List ℕ → Store
fresh_store number words =
    record {
      octets = fresh_octets number;
      flags = fresh_flags;
      words = words;
      limits = replicate 32 (pos 0);
      deltas = replicate 128 0;
      values = replicate 56 (pos 0);
    }

fresh_input : (number : ℕ) (words : List ℕ) (i : ℕ) → i < 16 → (parts_of (fresh_store number words)).inputs i ≡ fresh_analogue_input
unfolding bit_at
fresh_input number words i h =
    all_at {P = λ i. (parts_of (fresh_store number words)).inputs i ≡ fresh_analogue_input} {k = 0}
    (refl ▸ refl ▸ refl ▸ refl ▸ refl ▸ refl ▸ refl ▸ refl ▸ refl ▸ refl ▸ refl ▸ refl ▸ refl ▸ refl ▸ refl ▸ refl ▸ end) i (omega arith) h

fresh_output : (number : ℕ) (words : List ℕ) (i : ℕ) → i < 8 → (parts_of (fresh_store number words)).outputs i ≡ fresh_analogue_output
fresh_output number words i h =
    all_at {P = λ i. (parts_of (fresh_store number words)).outputs i ≡ fresh_analogue_output} {k = 0}
    (refl ▸ refl ▸ refl ▸ refl ▸ refl ▸ refl ▸ refl ▸ refl ▸ end) i (omega arith) h

fresh_mapping : (number : ℕ) (words : List ℕ) (i : ℕ) → i < 8 → (parts_of (fresh_store number words)).mappings i ≡ empty_mapping
fresh_mapping number words i h =
    all_at {P = λ i. (parts_of (fresh_store number words)).mappings i ≡ empty_mapping} {k = 0}
    (refl ▸ refl ▸ refl ▸ refl ▸ refl ▸ refl ▸ refl ▸ refl ▸ end) i (omega arith) h

pub fresh_left : (number : ℕ) (words : List ℕ) → line.Fresh words → FreshLeft number (fresh_store number words)
fresh_left number words f =
    record {
      machines = fresh_machines_lem (parts_of (fresh_store number words)) number refl f (fresh_input number words) (fresh_output number words)
          (fresh_mapping number words) refl;
      normal = record { state = refl };
    }

module _ (d : Store) where
  -- ---- the node stored, and every output moved

  inputs_past : (n : Node) (deltas : List ℕ) (values : List ℤ) → ((k : ℕ) → k < 48 → get_or deltas k 0 ≡ get_or d.deltas k 0)
      → ((k : ℕ) → k < 32 → get_or values k (pos 0) ≡ get_or d.values k (pos 0)) → (i : ℕ) → i < 16
      → input_at (node_octets d.octets n) d.limits deltas values i ≡ input_at d.octets d.limits d.deltas d.values i
  inputs_past n deltas values =
      inputs_kept d.octets (node_octets d.octets n) d.limits d.deltas deltas d.values values (node_octets_lem d.octets n)

  outputs_past : (n : Node) (i : ℕ) → i < 8 → output_at (node_flags d.flags n) d.values i ≡ output_at d.flags d.values i
  outputs_past n = outputs_kept d.flags (node_flags d.flags n) d.values d.values (node_flags_lem d.flags n) (λ k h. refl)

  -- the mappings stayed or became empty, some of them before the node was stored
  entered_by : {n : Node} {left : Store} (between deltas : List ℕ) (reset : Bool)
      → ((k : ℕ) → k < 48 → get_or deltas k 0 ≡ get_or d.deltas k 0)
      → ((i : ℕ) → i < 8 → mapping_at deltas i ≡ cond reset empty_mapping (mapping_at d.deltas i))
      → watches_of deltas ≡ cond reset empty_watches (watches_of d.deltas)
      → Entered n (record d { deltas = between }) left → Stepped d (record left { deltas = deltas }) (moved n reset (parts_of d))
  entered_by {n} {left} between deltas reset low ms ws e =
      let r = record (with_node n d) { words = left.words; deltas = deltas; values = left.values } in
      let c = e.channels in
      let P : Store → Type 0 = λ x. Stepped d x (moved n reset (parts_of d)) in
      subst P (sym (ap (λ (x : Store). record x { deltas = deltas }) e.stored))
      (record {
        machines =
            node_moved (parts_of d) (parts_of r) n reset _ _ refl refl (node_stored d.octets d.flags n e.sized.octets e.sized.flags)
            e.lines (inputs_past n deltas left.values low c.values_kept.low)
            (record { channels = λ i h. c.moved.channels i h ∙ ap (move_analogue_output _ _) (outputs_past n i h) }) ms ws;
        normal = λ old. record { state = node_normal d.octets d.flags n e.sized.octets e.sized.flags };
      })

  pub entered : {n : Node} {left : Store} → Entered n d left → Stepped d left (moved n false (parts_of d))
  entered {n} {left} e =
      subst (λ (x : List ℕ). Stepped d (record left { deltas = x }) (moved n false (parts_of d)))
      (sym (ap (λ (x : Store). x.deltas) e.stored)) (entered_by d.deltas d.deltas false (λ k h. refl) (λ i h. refl) refl e)

  -- every mapping and the watch became empty, some of them after it
  pub entered_reset : {n : Node} {left : Store} {between deltas : List ℕ} → Zeroed 48 84 d.deltas between
      → Entered n (record d { deltas = between }) left → Zeroed 84 128 left.deltas deltas
      → Stepped d (record left { deltas = deltas }) (moved n true (parts_of d))
  entered_reset {n} {left} {between} {deltas} p e q =
      let z = zeroed_both (omega arith) (omega arith) p (rw (ap (λ (x : Store). x.deltas) e.stored) at q) in
      entered_by between deltas true z.kept.low (emptied_all (omega arith) z) (watches_emptied (omega arith) z) e

  -- ---- the node written

  pub setting_stepped : (n : Node) (index v : ℕ) (left : Store) → left ≡ with_node n d → Sized d
      → n ≡ write_node (home.Device index) v (node_at d.octets d.flags) → Stepped d left (wrote (home.Device index) v (parts_of d))
  setting_stepped n index v left e s is =
      rw e (record {
        machines =
            setting_wrote (parts_of d) (parts_of (with_node n d)) index v
            (node_stored d.octets d.flags n s.octets s.flags ∙ is) refl
            (inputs_past n d.deltas d.values (λ k h. refl) (λ k h. refl)) (outputs_past n) (λ i h. refl) refl;
        normal = λ old. record { state = node_normal d.octets d.flags n s.octets s.flags };
      })

  -- ---- a write to a window, an input or an output

  pub window_stepped : (words : List ℕ) (row w s v : ℕ) → line.Written (fault (node_at d.octets d.flags)) d.words row w s v words
      → Stepped d (record d { words = words }) (wrote (Window row w s) v (parts_of d))
  window_stepped words row w s v l =
      let r = record d { words = words } in
      record {
        machines = window_wrote (parts_of d) (parts_of r) refl row w s v l (λ i h. refl) (λ i h. refl) (λ i h. refl) refl;
        normal = same_state d r refl;
      }

  pub input_stepped : (octets : List ℕ) (limits : List ℤ) (deltas : List ℕ) (index n v : ℕ)
      → InputStored index n v (input_at d.octets d.limits d.deltas d.values) (input_at octets limits deltas d.values) d.octets octets
      d.deltas deltas
      → Stepped d (record d { octets = octets; limits = limits; deltas = deltas }) (wrote (InputChannel index n) v (parts_of d))
  input_stepped octets limits deltas index n v s =
      let r = record d { octets = octets; limits = limits; deltas = deltas } in
      record {
        machines =
            input_wrote (parts_of d) (parts_of r)
            (node_kept d.octets octets d.flags d.flags s.octets_kept.low (s.octets_kept.high 21 (omega arith)) (λ k h. refl)) refl
            index n v s.written (λ i h. refl) (mappings_kept d.deltas deltas (λ k h l. s.deltas_kept.high k h))
            (watches_kept d.deltas deltas (λ k h l. s.deltas_kept.high k (omega arith)));
        normal = same_state d r (s.octets_kept.low 1 (omega arith));
      }

  pub output_stepped : (flags : List Bool) (values : List ℤ) (index n v : ℕ)
      → OutputStored (fault (node_at d.octets d.flags)) index n v (output_at d.flags d.values) (output_at flags values) d.flags flags
      d.values values
      → Stepped d (record d { flags = flags; values = values }) (wrote (OutputChannel index n) v (parts_of d))
  output_stepped flags values index n v s =
      let r = record d { flags = flags; values = values } in
      record {
        machines =
            output_wrote (parts_of d) (parts_of r)
            (node_kept d.octets d.octets d.flags flags (λ k h. refl) refl (λ k h. s.flags_kept.low k h)) refl index n v s.written
            (inputs_kept d.octets d.octets d.limits d.deltas d.deltas d.values values (λ k h l. refl) (λ k h. refl)
            (λ k h. s.values_kept.low k h))
            (λ i h. refl) refl;
        normal = same_state d r refl;
      }

  pub mapping_stepped : (deltas : List ℕ) (m sub v : ℕ) → MappingStored m sub v d.deltas deltas
      → Stepped d (record d { deltas = deltas }) (wrote (MappingEntry m sub) v (parts_of d))
  mapping_stepped deltas m sub v s =
      let r = record d { deltas = deltas } in
      record {
        machines =
            mapping_wrote (parts_of d) (parts_of r) refl refl m sub v
            (inputs_kept d.octets d.octets d.limits d.deltas deltas d.values d.values (λ k h l. refl) s.deltas_kept.low (λ k h. refl))
            (λ i h. refl) (watches_kept d.deltas deltas (λ k h l. s.deltas_kept.high k h)) s.mappings;
        normal = same_state d r refl;
      }

  -- ---- the watch

  module _ (deltas : List ℕ) (ws : List Watch) (s : WatchesLeft ws d.deltas deltas) where
    inputs_left : (i : ℕ) → i < 16 → (parts_of (record d { deltas = deltas })).inputs i ≡ (parts_of d).inputs i
    inputs_left =
        inputs_kept d.octets d.octets d.limits d.deltas deltas d.values d.values (λ k h l. refl)
        (λ k h. s.deltas_kept.low k (omega arith)) (λ k h. refl)

    mappings_left : (i : ℕ) → i < 8 → mapping_at deltas i ≡ mapping_at d.deltas i
    mappings_left = mappings_kept d.deltas deltas (λ k h l. s.deltas_kept.low k l)

    pub watch_left : Stepped d (record d { deltas = deltas }) (with_watches ws (parts_of d))
    watch_left =
        let r = record d { deltas = deltas } in
        record {
          machines =
              by_kind (machines_of r) (with_watches ws (parts_of d)) refl (λ i h. refl) (λ i h. refl)
              (λ i h. same_machine refl (inputs_left i h)) (λ i h. refl) (λ i h. same_machine refl (mappings_left i h))
              (same_machine refl s.watches);
          normal = same_state d r refl;
        }

  pub watch_stepped : (deltas : List ℕ) (n v : ℕ) → WatchesLeft (write_watch n v (watches_of d.deltas)) d.deltas deltas
      → Stepped d (record d { deltas = deltas }) (wrote (WatchEntry n) v (parts_of d))
  watch_stepped deltas n v s =
      let r = record d { deltas = deltas } in
      record {
        machines =
            watch_wrote (parts_of d) (parts_of r) refl refl n v (inputs_left deltas _ s) (λ i h. refl) (mappings_left deltas _ s) s.watches;
        normal = same_state d r refl;
      }

  -- ---- a read

  -- the value read of 6422:1 are the source bits
  sources_in : (e : Home) (v : ℕ) → v ≡ read_value (machines_of d) e → reads_sources e ≡ true
      → v ≡ gather 16 (bit_at (sources_of d.octets))
  unfolding read_value
  sources_in e v q h = grind arith

  module _ (octets : List ℕ) (e : Home) (v : ℕ) (ev : v ≡ read_value (machines_of d) e) (s : SourcesRead e d.octets octets) where
    read_by : (b : Bool) → reads_sources e ≡ b → Stepped d (with_octets octets d) (has_read e (parts_of d))
    read_by true h =
        let c = s.cleared h in
        record {
          machines =
              read_cleared (parts_of d) (parts_of (with_octets octets d)) e
              (node_kept d.octets octets d.flags d.flags (λ k l. c.octets_kept.low k (omega (arith, l)))
              (c.octets_kept.high 21 (omega arith)) (λ k l. refl)) refl (λ k l. refl)
              (λ k l. refl) refl h v
              (sources_taken d.octets octets d.limits d.deltas d.values d.values v (sources_in e v ev h) c);
          normal = same_state d (with_octets octets d) (c.octets_kept.low 1 (omega arith));
        }
    read_by false h =
        record {
          machines = rw (s.kept h) (read_same (parts_of d) e h);
          normal = same_state d (with_octets octets d) (ap (λ (o : List ℕ). get_or o 1 0) (s.kept h));
        }

    pub read_stepped : Stepped d (with_octets octets d) (has_read e (parts_of d))
    read_stepped = read_by (reads_sources e) refl
