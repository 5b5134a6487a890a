-- The entries of a mapping one after the other: the plain writes of a received frame, and the bytes of a transmitted one.
-- Assumes nothing.
use mathlib.Core.Path.{◌≡◌, refl, ap, ◌∙◌, sym, subst}
use mathlib.Core.Bool.{Bool, true, false, cond}
use mathlib.Core.List.{List, [], ◌∷◌, ◌++◌}
use Prim.Native.Nat.{ℕ, suc, ◌+◌, ◌-◌, ◌/◌, ◌%◌, ◌≤◌, ◌<◌}
use native.Mathlib.Omega.{arith}
use lib.Dec.{eqb}
use lib.ListN.{length, get_or, take, drop}
use Rattle.std.specs.List.{between}
use Rattle.std.proofs.lemmas.Grind.{common_steps}
use Rattle.std.proofs.lemmas.Slice.{first_rest}
use Rattle.profile.specs.declared.Message.{Message}
use Rattle.profile.specs.Bytes.{bytes_of}
use Rattle.profile.specs.MappedEntries.{transmitted, index_of, sub_of, mapped_entry, moves, moved, total}
use Rattle.profile.specs.Calls.{Plain, write, transmit}
use Rattle.profile.specs.Refusals.{transmit_refusal}
use Rattle.profile.specs.Heard.{Machines, number_of, in_force, frame_writes, step_each}
use Rattle.profile.specs.Machines.{step}
use Rattle.profile.specs.Replies.{read_value, frame_of, sends, count_reply, unchanged, answer_to, refuse_to, reply}
use Rattle.profile.proofs.AnswerLaws.{nonzero}
use Rattle.profile.proofs.ListTheorem.{fold_append, same_trans}
use Rattle.profile.proofs.MappedLaws.{moved_none}
use Rattle.profile.proofs.ReplyLaws.{each_same}
use Rattle.store.specs.declared.Store.{Store}
use Rattle.store.specs.View.{machines_of}
use Rattle.messages.specs.View.{Heard, entry_writes}

-- what holds of an entry that moves and of one that does not
by_moves : (m v : ℕ) (P : Bool → ℕ → Type 0) → P true (moved m v) → P false 0 → P (moves m v) (moved m v)
by_moves m v P p q = by (moves m v) refl
  where
    by : (t : Bool) → moves m v ≡ t → P t (moved m v)
    by true e = p
    by false e = subst (P false) (sym (moved_none m v e)) q

-- a received frame
writes_more : (m v : ℕ) (vs frame : List ℕ)
    → frame_writes m (v ∷ vs) frame ≡ entry_writes m v (take (moved m v) frame) ++ frame_writes m vs (drop (moved m v) frame)
writes_more m v vs frame =
    by_moves m v
    (λ b n. cond b (write (index_of v) (sub_of v) (take n frame) ∷ frame_writes m vs (drop n frame)) (frame_writes m vs frame)
    ≡ cond b (write (index_of v) (sub_of v) (take n frame) ∷ []) [] ++ frame_writes m vs (drop n frame))
    refl refl

heard_both : {d e f : Store} (cs ds : List Plain) → Heard d cs e → Heard e ds f → Heard d (cs ++ ds) f
heard_both {d} {e} {f} cs ds p q =
    record {
      machines =
          same_trans q.machines
          (same_trans (each_same (machines_of e) (step_each cs (machines_of d)) p.machines ds)
          (record { at = λ k i h. sym (fold_append (step k i) cs ds (machines_of d k i)) }));
      normal = λ n. q.normal (p.normal n);
    }

pub heard_none : (d : Store) (m : ℕ) (vs frame : List ℕ) → length vs < 1 → Heard d (frame_writes m vs frame) d
heard_none d m [] frame h = record { machines = record { at = λ k i l. refl }; normal = λ n. n }
heard_none d m (v ∷ vs) frame h = absurd (omega arith)

pub heard_more : {d e f : Store} (m : ℕ) (vs frame bytes rest : List ℕ) → 1 ≤ length vs
    → bytes ≡ take (moved m (get_or vs 0 0)) frame → rest ≡ drop (moved m (get_or vs 0 0)) frame
    → Heard d (entry_writes m (get_or vs 0 0) bytes) e → Heard e (frame_writes m (between 1 (length vs) vs) rest) f
    → Heard d (frame_writes m vs frame) f
heard_more m vs frame bytes rest some p q first others =
    rw (first_rest vs 0 some, writes_more m (get_or vs 0 0) (between 1 (length vs) vs) frame, sym p, sym q)
    (heard_both (entry_writes m (get_or vs 0 0) bytes) _ first others)

-- a transmitted frame
put_more : (ms : Machines) (m v : ℕ) (vs frame : List ℕ)
    → frame_of ms m (v ∷ vs) frame ≡ bytes_of (moved m v) (read_value ms (mapped_entry v).home) ++ frame_of ms m vs (drop (moved m v) frame)
put_more ms m v vs frame =
    by_moves m v
    (λ b n. cond b (bytes_of n (read_value ms (mapped_entry v).home) ++ frame_of ms m vs (drop n frame)) (frame_of ms m vs frame)
    ≡ bytes_of n (read_value ms (mapped_entry v).home) ++ frame_of ms m vs (drop n frame))
    refl refl

pub filled_more : (d : Store) (m : ℕ) (vs frame : List ℕ) → 1 ≤ length vs
    → frame_of (machines_of d) m vs frame
    ≡ bytes_of (moved m (get_or vs 0 0)) (read_value (machines_of d) (mapped_entry (get_or vs 0 0)).home)
    ++ frame_of (machines_of d) m (between 1 (length vs) vs) (drop (moved m (get_or vs 0 0)) frame)
filled_more d m vs frame some =
    ap (λ l. frame_of (machines_of d) m l frame) (first_rest vs 0 some)
    ∙ put_more (machines_of d) m (get_or vs 0 0) (between 1 (length vs) vs) frame

-- the reply to a transmit
pub replied : (ms : Machines) (message : Message) (frame : List ℕ)
    → reply ms (transmit message frame)
    ≡ cond (eqb (transmit_refusal (length frame)) 0)
    (cond (sends ms (transmitted message))
    (count_reply (total (transmitted message) (in_force ms (transmitted message)))
    (frame_of ms (transmitted message) (in_force ms (transmitted message)) frame))
    (count_reply 0 frame))
    (unchanged (transmit_refusal (length frame)) frame [])
unfolding reply number_of answer_to refuse_to
replied ms message frame = refl

-- byte i of the n of a number
pub next_byte : (n i v : ℕ) → i < n → bytes_of (n - i) v ≡ v % 256 ∷ bytes_of (n - (i + 1)) (v / 256)
next_byte n i v h = let more : n - i ≡ suc (n - (i + 1)) = omega arith in ap (λ (k : ℕ). bytes_of k v) more

-- what the check is told at `write_each`, at `transmit` and at `put`
pub ruleset for_write_each = (heard_none, heard_more)

pub ruleset for_transmit = (replied, nonzero)

pub ruleset for_put = (next_byte, common_steps)
