-- Document 02, Item 5: an entry of 1016 at every plain call that is neither a heartbeat of its node nor a write of it nor a reset.
-- Assumes nothing.
use mathlib.Core.Path.{◌≡◌, refl, ap, ◌∙◌, sym}
use mathlib.Core.Bool.{Bool, true, false, not, cond, ◌||◌, ◌&&◌, false≢true}
use mathlib.Core.List.{List, [], ◌∷◌}
use Prim.Native.Nat.{ℕ}
use lib.Dec.{eqb}
use borrow.Author.Tests.{not-true}
use Rattle.profile.specs.declared.Node.{Node}
use Rattle.profile.specs.declared.Message.{Message}
use Rattle.profile.specs.Bytes.{little_endian}
use Rattle.profile.specs.Nodes.{addressed}
use Rattle.profile.specs.MappedEntries.{received}
use Rattle.profile.specs.WatchEntries.{Watch, watch_at, watches}
use Rattle.profile.specs.Watch.{take_heartbeat}
use Rattle.profile.specs.Calls.{Plain, read, write, sample, command, raise, clear, drive, heartbeat, pass}
use Rattle.profile.specs.Calls.{receive, request}
use Rattle.profile.specs.Server.{asked}
use Rattle.profile.specs.Machines.{watch, Machine, next_own, next, step}
use Rattle.profile.specs.Heard.{Machines, fold, heard_as, step_all}
use Rattle.profile.specs.Lists.{each}
use Rattle.profile.specs.WatchClaims.{touches}
use Rattle.profile.proofs.BoolLaws.{both}
use Rattle.profile.proofs.NodesAgree.{step_node}
use Rattle.profile.proofs.StepLaws.{cond_same, step_holds}
use Rattle.profile.proofs.WatchLaws.{heartbeat_entry, unnamed_entry, receive_passes, request_passes, node_number}

-- entry n, in the watch of a device with the node number
pub record Stands (number n : ℕ) (w : Watch) (x : Machine watch) : Type 0 where
  pub numbered : x.node.number ≡ number
  pub entry : watch_at x.own n ≡ w

-- "same node number", at any plain call
pub step_number : (number : ℕ) (c : Plain) (x : Machine watch) → x.node.number ≡ number → (step watch 0 c x).node.number ≡ number
step_number number c x e = ap (λ (m : Node). m.number) (step_node watch 0 c x) ∙ node_number c x.node ∙ e

-- "one from a node no entry names does nothing"
heartbeat_elsewhere : (from : ℕ) (w : Watch) → watches from w.value ≡ false → take_heartbeat from w ≡ w
unfolding take_heartbeat
heartbeat_elsewhere from w e = ap (λ (b : Bool). cond b (record { value = w.value; started = true; sum = 0 }) w) e

-- a command that is no reset, or for another node
no_reset : (number code to : ℕ) (m : Node) → m.number ≡ number → (eqb to 0 || eqb to number) && (eqb code 129 || eqb code 130) ≡ false
    → (addressed to m && eqb code 129 ≡ false) × (addressed to m && eqb code 130 ≡ false)
unfolding addressed
no_reset number code to m e h = rw e (by (eqb to 0 || eqb to number) (eqb code 129) (eqb code 130) h)
  where
    by : (a b c : Bool) → a && (b || c) ≡ false → (a && b ≡ false) × (a && c ≡ false)
    by true true c h = absurd (false≢true (sym h))
    by true false c h = (refl, h)
    by false b c h = (refl, refl)

module _ (number n : ℕ) (w : Watch) where
  abbrev Leaves : Plain → Bool
  Leaves c = not (touches number w.value n c)

  next_kept : (c : Plain) (x : Machine watch) → Leaves c ≡ true → Stands number n w x → watch_at (next watch 0 c x).own n ≡ w
  unfolding next next_own
  next_kept (read index sub) x h s = rw cond_same s.entry
  next_kept (write index sub payload) x h s =
      unnamed_entry index sub (little_endian payload) 0 x.node x.own n (not-true _ h) ∙ s.entry
  next_kept (sample digital analogue events) x h s = s.entry
  next_kept (command code to) x h s =
      let q = no_reset number code to x.node s.numbered (not-true _ h) in
      rw (q.0, q.1) s.entry
  next_kept (raise cause) x h s = s.entry
  next_kept (clear cause) x h s = s.entry
  next_kept (drive lines channels) x h s = s.entry
  next_kept (heartbeat from) x h s =
      heartbeat_entry from x.own n ∙ ap (take_heartbeat from) s.entry ∙ heartbeat_elsewhere from w (not-true (watches from w.value) h)
  next_kept (pass t) x h s = absurd (false≢true h)

  pub step_kept : (c : Plain) (x : Machine watch) → Leaves c ≡ true → Stands number n w x → Stands number n w (step watch 0 c x)
  step_kept c x h s =
      record {
        numbered = step_number number c x s.numbered;
        entry = step_holds (λ (y : Machine watch). watch_at y.own n ≡ w) 0 c x s.entry (λ e t. next_kept c x h s);
      }

  fold_kept : (cs : List Plain) (x : Machine watch) → each Leaves cs ≡ true → Stands number n w x
      → Stands number n w (fold (step watch 0) x cs)
  fold_kept [] x h s = s
  fold_kept (c ∷ cs) x h s =
      let q = both (Leaves c) (each Leaves cs) h in
      fold_kept cs (step watch 0 c x) q.1 (step_kept c x q.0 s)

  -- a received frame, and a request that asks for such a call
  pub receive_kept : (ms : Machines) (message : Message) (frame : List ℕ) → Stands number n w (ms watch 0)
      → Stands number n w (step_all (receive message frame) ms watch 0)
  receive_kept ms message frame s =
      fold_kept (heard_as ms (receive message frame)) (ms watch 0)
      (receive_passes Leaves (λ index sub payload e. rw e refl) ms (received message) frame) s

  pub request_kept : (ms : Machines) (frame reply : List ℕ) → each Leaves (asked frame) ≡ true → Stands number n w (ms watch 0)
      → Stands number n w (step_all (request frame reply) ms watch 0)
  request_kept ms frame reply h s =
      fold_kept (heard_as ms (request frame reply)) (ms watch 0) (request_passes Leaves ms frame reply h) s
