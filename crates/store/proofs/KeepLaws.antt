-- What stays of the node and the channels where a part of the arrays changes, the node stored, and the promise of a call from its parts.
-- Assumes nothing.
use mathlib.Core.Path.{◌≡◌, refl, sym, ap, ◌∙◌}
use mathlib.Core.Bool.{Bool, false, false≢true}
use mathlib.Core.List.{List}
use Prim.Native.Nat.{ℕ, ◌+◌, ◌≤◌, ◌<◌}
use native.Mathlib.Omega.{arith}
use lib.ListN.{length, get_or}
use Rattle.std.proofs.lemmas.Grind.{common_steps}
use lib.IntN.{ℤ, pos}
use Rattle.profile.specs.declared.State.{State}
use Rattle.profile.specs.declared.Node.{Node}
use Rattle.profile.specs.Bits.{bit_at}
use Rattle.profile.specs.Calls.{Call, Reply}
use Rattle.profile.specs.Outcome.{Outcome}
use Rattle.channels.specs.View.{input_at, output_at}
use Rattle.profile.proofs.ListLaws.{list_from_cong}
use Rattle.mappings.specs.View.{place_of, mapping_at}
use Rattle.channels.proofs.StoreLaws.{sources_kept}
use Rattle.store.specs.declared.Store.{Store}
use Rattle.store.specs.View.{state_of, state_number, node_at, node_octets, node_flags, machines_of, Normal}
use Rattle.store.specs.Promises.{elsewhere, Ensured}

-- ---- what stays

module _ (octets octets' : List ℕ) (flags flags' : List Bool) where
  pub node_kept : ((k : ℕ) → k < 3 → get_or octets' k 0 ≡ get_or octets k 0) → get_or octets' 21 0 ≡ get_or octets 21 0
      → ((k : ℕ) → k < 4 → get_or flags' k false ≡ get_or flags k false) → node_at octets' flags' ≡ node_at octets flags
  node_kept o last f =
      λ t. record {
        number = o 0 (omega arith) t;
        state = state_of (o 1 (omega arith) t);
        internal = f 0 (omega arith) t;
        lost = f 1 (omega arith) t;
        behaviour = o 2 (omega arith) t;
        digital = f 2 (omega arith) t;
        analogue = f 3 (omega arith) t;
        length = last t;
      }

pub inputs_kept : (octets octets' : List ℕ) (limits : List ℤ) (deltas deltas' : List ℕ) (values values' : List ℤ)
    → ((k : ℕ) → 3 ≤ k → k < 21 → get_or octets' k 0 ≡ get_or octets k 0) → ((k : ℕ) → k < 48 → get_or deltas' k 0 ≡ get_or deltas k 0)
    → ((k : ℕ) → k < 32 → get_or values' k (pos 0) ≡ get_or values k (pos 0))
    → (i : ℕ) → i < 16 → input_at octets' limits deltas' values' i ≡ input_at octets limits deltas values i
inputs_kept octets octets' limits deltas deltas' values values' o d v i h =
    λ t. record {
      upper = get_or limits i (pos 0);
      lower = get_or limits (16 + i) (pos 0);
      delta = d i (omega arith) t;
      negative = d (16 + i) (omega arith) t;
      positive = d (32 + i) (omega arith) t;
      last = v i (omega arith) t;
      reference = v (16 + i) (omega arith) t;
      selection = o (3 + i) (omega arith) (omega arith) t;
      source = bit_at (sources_kept octets octets' (λ k l m. o k (omega arith) m) t) i;
    }

pub outputs_kept : (flags flags' : List Bool) (values values' : List ℤ) → ((k : ℕ) → 4 ≤ k → get_or flags' k false ≡ get_or flags k false)
    → ((k : ℕ) → 32 ≤ k → get_or values' k (pos 0) ≡ get_or values k (pos 0)) → (i : ℕ) → i < 8
    → output_at flags' values' i ≡ output_at flags values i
outputs_kept flags flags' values values' f v i h =
    λ t. record {
      mode = f (4 + i) (omega arith) t;
      error = v (32 + i) (omega arith) t;
      kept = v (40 + i) (omega arith) t;
      driven = v (48 + i) (omega arith) t;
    }

pub mappings_kept : (deltas deltas' : List ℕ) → ((k : ℕ) → 48 ≤ k → k < 120 → get_or deltas' k 0 ≡ get_or deltas k 0) → (i : ℕ)
    → i < 8 → mapping_at deltas' i ≡ mapping_at deltas i
mappings_kept deltas deltas' d i h =
    λ t. record {
      count = d (place_of i 0) (omega arith) (omega arith) t;
      entries = list_from_cong 8 0 (λ j. get_or deltas' (place_of i (1 + j)) 0) (λ j. get_or deltas (place_of i (1 + j)) 0)
          (λ j l. d (place_of i (1 + j)) (omega arith) (omega arith)) t;
    }

-- ---- the node stored

state_back : (s : State) → state_of (state_number s) ≡ s
state_back s = grind arith

pub node_octets_lem : (octets : List ℕ) (n : Node) (k : ℕ) → 3 ≤ k → k < 21 → get_or (node_octets octets n) k 0 ≡ get_or octets k 0
node_octets_lem octets n k from to = grind (arith, common_steps)

pub node_flags_lem : (flags : List Bool) (n : Node) (k : ℕ) → 4 ≤ k → get_or (node_flags flags n) k false ≡ get_or flags k false
node_flags_lem flags n k from = grind (arith, common_steps)

module _ (octets : List ℕ) (flags : List Bool) (n : Node) (lo : length octets ≡ 22) (lf : length flags ≡ 12) where
  state_stored : get_or (node_octets octets n) 1 0 ≡ state_number n.state
  state_stored = grind (arith, common_steps)

  pub node_stored : node_at (node_octets octets n) (node_flags flags n) ≡ n
  node_stored =
      let number : get_or (node_octets octets n) 0 0 ≡ n.number = grind (arith, common_steps) in
      let internal : get_or (node_flags flags n) 0 false ≡ n.internal = grind (arith, common_steps) in
      let lost : get_or (node_flags flags n) 1 false ≡ n.lost = grind (arith, common_steps) in
      let behaviour : get_or (node_octets octets n) 2 0 ≡ n.behaviour = grind (arith, common_steps) in
      let digital : get_or (node_flags flags n) 2 false ≡ n.digital = grind (arith, common_steps) in
      let analogue : get_or (node_flags flags n) 3 false ≡ n.analogue = grind (arith, common_steps) in
      let long : get_or (node_octets octets n) 21 0 ≡ n.length = grind (arith, common_steps) in
      λ t. record {
        number = number t;
        state = (ap state_of state_stored ∙ state_back n.state) t;
        internal = internal t;
        lost = lost t;
        behaviour = behaviour t;
        digital = digital t;
        analogue = analogue t;
        length = long t;
      }

  pub node_normal : state_number (state_of (get_or (node_octets octets n) 1 0)) ≡ get_or (node_octets octets n) 1 0
  node_normal = rw state_stored (ap state_number (state_back n.state))

-- ---- the promise of a call

-- where the device is left as it was
pub left_alone : (d : Store) (c : Call) (r : Reply) → Outcome (machines_of d) c r (machines_of d) → Ensured d c r d
left_alone d c r o = record { outcome = o; untouched = λ ne. refl; passed_by = λ e. refl; normal = λ n. n }

-- an accepted call, no command for another node
pub taken : (d e : Store) (c : Call) (r : Reply) → r.number ≡ 0 → elsewhere (node_at d.octets d.flags) c ≡ false
    → (Normal d → Normal e) → Outcome (machines_of d) c r (machines_of e) → Ensured d c r e
taken d e c r z here n o =
    record { outcome = o; untouched = λ ne. absurd (ne z); passed_by = λ t. absurd (false≢true (sym here ∙ t)); normal = n }

-- the state's byte stayed
pub same_state : (d e : Store) → get_or e.octets 1 0 ≡ get_or d.octets 1 0 → Normal d → Normal e
same_state d e q n = record { state = ap (λ (x : ℕ). state_number (state_of x)) q ∙ n.state ∙ sym q }
