-- The machines are the whole device: two devices with the same machines, whose state's byte is the number of a state, are equal. So the
-- promise of a call leaves nothing open.
-- Assumes nothing.
use mathlib.Core.Path.{◌≡◌, refl, ap, ◌∙◌, sym}
use mathlib.Core.Bool.{Bool, true, false, not}
use mathlib.Core.List.{List}
use Prim.Native.Nat.{ℕ, ◌+◌, ◌-◌, ◌*◌, ◌^◌, ◌≤◌, ◌<◌}
use native.Mathlib.Omega.{arith}
use lib.Dec.{ltb}
use lib.ListN.{length, get_or}
use lib.IntN.{pos}
use lib.Seq.{ext_get_or}
use mir.Syntax.{w8}
use mir.Val.{Fits}
use borrow.Author.Tests.{ltb-true, ltb-false}
use Rattle.profile.specs.declared.Node.{Node}
use Rattle.profile.specs.declared.AnalogueInput.{AnalogueInput}
use Rattle.profile.specs.declared.AnalogueOutput.{AnalogueOutput}
use Rattle.profile.specs.Nodes.{addressed}
use Rattle.profile.specs.Calls.{command, Call, direct, Reply}
use Rattle.profile.specs.Machines.{node_alone, input_line, output_line, analogue_input, analogue_output, mapping, watch, Machine}
use Rattle.profile.specs.Outcome.{Same}
use Rattle.profile.proofs.BitLaws.{same_bits}
use Rattle.lines.proofs.ColumnLaws.{end, ◌▸◌, all_at}
use Rattle.lines.proofs.DeterminedLaws.{same_words_lem}
use Rattle.channels.specs.View.{sources_of}
use Rattle.mappings.specs.View.{mapping_at}
use Rattle.mappings.proofs.ViewLaws.{same_mappings}
use Rattle.watches.specs.View.{watches_of}
use Rattle.watches.proofs.ViewLaws.{same_watches}
use Rattle.store.specs.View.{state_number, node_at, parts_of}
use Rattle.device.specs.declared.Device.{Device}
use Rattle.device.specs.View.{machines_of, Normal}
use Rattle.device.specs.Promises.{Allowed, Ensured}

-- two columns, one after the other
module _ {A : Type 0} (xs ys : List A) (d : A) (n m : ℕ) where
  split_by : (k : ℕ) (t : Bool) → ltb k n ≡ t → ((j : ℕ) → j < n → get_or xs j d ≡ get_or ys j d)
      → ((i : ℕ) → i < m → get_or xs (n + i) d ≡ get_or ys (n + i) d) → k < n + m → get_or xs k d ≡ get_or ys k d
  split_by k true e low high h = low k (ltb-true k n e)
  split_by k false e low high h =
      let past : n ≤ k = ltb-false k n e in
      let q : n + (k - n) ≡ k = omega arith in
      rw q at (high (k - n) (omega arith))

  pub split : ((j : ℕ) → j < n → get_or xs j d ≡ get_or ys j d) → ((i : ℕ) → i < m → get_or xs (n + i) d ≡ get_or ys (n + i) d)
      → (k : ℕ) → k < n + m → get_or xs k d ≡ get_or ys k d
  split low high k h = split_by k (ltb k n) refl low high h

-- an array, by its elements
same_array : {A : Type 0} (d : A) (n : ℕ) (xs ys : List A) → length xs ≡ n → length ys ≡ n →
    ((k : ℕ) → k < n → get_or xs k d ≡ get_or ys k d) → xs ≡ ys
same_array d n xs ys p q h = ext_get_or d xs ys (p ∙ sym q) (λ i l. h i (rw p at l))

-- two bytes, by the number that they are
two_small : {x y : ℕ} → Fits w8 x → Fits w8 y → x + 256 * y < 2 ^ 16
two_small f g = omega (arith, f.fits, g.fits)

same_low : (x y u v : ℕ) → Fits w8 x → Fits w8 u → x + 256 * y ≡ u + 256 * v → x ≡ u
same_low x y u v f g e = omega (arith, f.fits, g.fits, e)

same_high : (x y u v : ℕ) → Fits w8 x → Fits w8 u → x + 256 * y ≡ u + 256 * v → y ≡ v
same_high x y u v f g e = omega (arith, f.fits, g.fits, e)

module _ (a b : Device) (p : Allowed a) (q : Allowed b) (u : Normal a) (v : Normal b) (s : Same (machines_of a) (machines_of b)) where
  node : (parts_of a.store).node ≡ (parts_of b.store).node
  node = ap (λ (m : Machine node_alone). m.node) (s.at node_alone 0 (omega arith))

  input : (i : ℕ) → i < 16 → (parts_of a.store).inputs i ≡ (parts_of b.store).inputs i
  input i h = ap (λ (m : Machine analogue_input). m.own) (s.at analogue_input i h)

  output : (i : ℕ) → i < 8 → (parts_of a.store).outputs i ≡ (parts_of b.store).outputs i
  output i h = ap (λ (m : Machine analogue_output). m.own) (s.at analogue_output i h)

  map : (i : ℕ) → i < 8 → mapping_at a.store.deltas i ≡ mapping_at b.store.deltas i
  map i h = ap (λ (m : Machine mapping). m.own) (s.at mapping i h)

  watched : watches_of a.store.deltas ≡ watches_of b.store.deltas
  watched = ap (λ (m : Machine watch). m.own) (s.at watch 0 (omega arith))

  state : get_or a.store.octets 1 0 ≡ get_or b.store.octets 1 0
  state = sym u.state ∙ ap (λ (n : Node). state_number n.state) node ∙ v.state

  -- the two bytes of the source bits
  sources : sources_of a.store.octets ≡ sources_of b.store.octets
  sources =
      same_bits 16 (sources_of a.store.octets) (sources_of b.store.octets)
      (two_small (p.each_octet 19) (p.each_octet 20)) (two_small (q.each_octet 19) (q.each_octet 20))
      (λ i h. ap (λ (m : AnalogueInput). m.source) (input i h))

  octets : a.store.octets ≡ b.store.octets
  octets =
      same_array 0 22 a.store.octets b.store.octets p.sized.octets q.sized.octets
      (split a.store.octets b.store.octets 0 19 3
      (split a.store.octets b.store.octets 0 3 16
      (λ k h. all_at {P = λ k. get_or a.store.octets k 0 ≡ get_or b.store.octets k 0} {k = 0}
      (ap (λ (n : Node). n.number) node ▸ state ▸ ap (λ (n : Node). n.behaviour) node ▸ end) k (omega arith) h)
      (λ i h. ap (λ (m : AnalogueInput). m.selection) (input i h)))
      (λ i h. all_at {P = λ i. get_or a.store.octets (19 + i) 0 ≡ get_or b.store.octets (19 + i) 0} {k = 0}
      (same_low _ _ _ _ (p.each_octet 19) (q.each_octet 19) sources ▸ same_high _ _ _ _ (p.each_octet 19)
      (q.each_octet 19) sources ▸ ap (λ (n : Node). n.length) node ▸ end)
      i (omega arith) h))

  flags : a.store.flags ≡ b.store.flags
  flags =
      same_array false 12 a.store.flags b.store.flags p.sized.flags q.sized.flags
      (split a.store.flags b.store.flags false 4 8
      (λ k h. all_at {P = λ k. get_or a.store.flags k false ≡ get_or b.store.flags k false} {k = 0}
      (ap (λ (n : Node). n.internal) node ▸ ap (λ (n : Node). n.lost) node ▸ ap (λ (n : Node). n.digital) node ▸ ap
      (λ (n : Node). n.analogue) node ▸ end)
      k (omega arith) h)
      (λ i h. ap (λ (m : AnalogueOutput). m.mode) (output i h)))

  words : a.store.words ≡ b.store.words
  words =
      same_words_lem a.store.words b.store.words (record { count = p.sized.words; each = p.each_word })
      (record { count = q.sized.words; each = q.each_word })
      (λ i h. ap (λ (m : Machine input_line). m.own) (s.at input_line i h))
      (λ i h. ap (λ (m : Machine output_line). m.own) (s.at output_line i h))

  limits : a.store.limits ≡ b.store.limits
  limits =
      same_array (pos 0) 32 a.store.limits b.store.limits p.sized.limits q.sized.limits
      (split a.store.limits b.store.limits (pos 0) 16 16 (λ i h. ap (λ (m : AnalogueInput). m.upper) (input i h))
      (λ i h. ap (λ (m : AnalogueInput). m.lower) (input i h)))

  deltas : a.store.deltas ≡ b.store.deltas
  deltas =
      same_array 0 128 a.store.deltas b.store.deltas p.sized.deltas q.sized.deltas
      (split a.store.deltas b.store.deltas 0 120 8
      (split a.store.deltas b.store.deltas 0 48 72
      (split a.store.deltas b.store.deltas 0 32 16
      (split a.store.deltas b.store.deltas 0 16 16 (λ i h. ap (λ (m : AnalogueInput). m.delta) (input i h))
      (λ i h. ap (λ (m : AnalogueInput). m.negative) (input i h)))
      (λ i h. ap (λ (m : AnalogueInput). m.positive) (input i h)))
      (same_mappings a.store.deltas b.store.deltas map))
      (same_watches a.store.deltas b.store.deltas watched))

  values : a.store.values ≡ b.store.values
  values =
      same_array (pos 0) 56 a.store.values b.store.values p.sized.values q.sized.values
      (split a.store.values b.store.values (pos 0) 48 8
      (split a.store.values b.store.values (pos 0) 40 8
      (split a.store.values b.store.values (pos 0) 32 8
      (split a.store.values b.store.values (pos 0) 16 16 (λ i h. ap (λ (m : AnalogueInput). m.last) (input i h))
      (λ i h. ap (λ (m : AnalogueInput). m.reference) (input i h)))
      (λ i h. ap (λ (m : AnalogueOutput). m.error) (output i h)))
      (λ i h. ap (λ (m : AnalogueOutput). m.kept) (output i h)))
      (λ i h. ap (λ (m : AnalogueOutput). m.driven) (output i h)))

  pub determined : a ≡ b
  determined =
      λ t. record {
        store = record { octets = octets t; flags = flags t; words = words t; limits = limits t; deltas = deltas t; values = values t };
      }

-- ---- corollaries

-- a device is its arrays
same_device : (a b : Device) → a.store ≡ b.store → a ≡ b
same_device a b e = λ t. record { store = e t }

-- a refused call leaves the very device that it got
pub refused_very_device : (d r : Device) (c : Call) (a : Reply) → Ensured d c a r → (a.number ≡ 0 → ⊥) → r ≡ d
refused_very_device d r c a o ne = same_device r d (o.untouched ne)

-- so does a command for another node
pub passed_by_very_device : (d r : Device) (code to : ℕ) (a : Reply) → Ensured d (direct (command code to)) a r
    → addressed to (node_at d.store.octets d.store.flags) ≡ false → r ≡ d
passed_by_very_device d r code to a o e = same_device r d (o.passed_by (ap not e))

-- the device after a call and the whole reply are functions of the device before and the call
pub one_outcome : (d r s : Device) (c : Call) (a b : Reply) → Normal d → Allowed r → Allowed s → Ensured d c a r → Ensured d c b s →
    (a ≡ b) × (r ≡ s)
one_outcome d r s c a b n p q o u = (
  o.outcome.replied ∙ sym u.outcome.replied,
  determined r s p q (o.normal n) (u.normal n)
      (record { at = λ k i h. o.outcome.machines.at k i h ∙ sym (u.outcome.machines.at k i h) }),
)
