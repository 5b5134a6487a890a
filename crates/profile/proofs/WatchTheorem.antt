-- Document 02, Item 5: "After a heartbeat, whatever the other nodes send, the elapsed call that brings the sum to the time raises the loss
-- or finds it present, if no heartbeat of that node, write of that entry or reset came between."
-- Assumes nothing.
use mathlib.Core.Path.{◌≡◌, refl, ap, ◌∙◌, sym, subst}
use mathlib.Core.Bool.{Bool, true, false, not, cond, ◌&&◌}
use mathlib.Core.List.{List, [], ◌∷◌, ◌++◌, map}
use Prim.Native.Nat.{ℕ, ◌+◌, ◌≤◌, ◌<◌}
use native.Mathlib.Nat.{add-zero, zero-add, add_assoc}
use native.Mathlib.Omega.{arith}
use lib.Dec.{eqb, leb}
use borrow.Author.Tests.{not-true, le-leb, lt-leb}
use Rattle.profile.specs.declared.Node.{Node}
use Rattle.profile.specs.declared.Cause.TheVariants.{Lost}
use Rattle.profile.specs.Nodes.{raise_node}
use Rattle.profile.specs.WatchEntries.{Watch, waiting, watch_at, time_in, watches}
use Rattle.profile.specs.Watch.{take_heartbeat, expires, take_time, is_due}
use Rattle.profile.specs.Calls.{Plain, read, write, sample, command, raise, clear, drive, heartbeat, pass}
use Rattle.profile.specs.Calls.{Call, direct, receive, transmit, request, elapsed}
use Rattle.profile.specs.NodeAlone.{device_wide}
use Rattle.profile.specs.Server.{asked}
use Rattle.profile.specs.Machines.{Kind, watch, Machine, step}
use Rattle.profile.specs.Heard.{Machines, fold, heard_as, step_all}
use Rattle.profile.specs.Lists.{each, after}
use Rattle.profile.specs.WatchClaims.{entry_after, disturbs, touches, leaves_watch, time_of, time_over, NotYet, Expired, Watched, LossInTime}
use Rattle.profile.proofs.BoolLaws.{both, picked}
use Rattle.profile.proofs.ListTheorem.{ran}
use Rattle.profile.proofs.AppendLaws.{after_append, each_first, each_weaker}
use Rattle.profile.proofs.NodesAgree.{step_node}
use Rattle.profile.proofs.StepLaws.{of_heartbeat, of_pass, watch_hears, raise_step}
use Rattle.profile.proofs.LengthLaws.{fold_holds}
use Rattle.profile.proofs.WatchLaws.{some_at, some_not, heartbeat_entry, time_entry, watches_none, after_number}
use Rattle.profile.proofs.WatchLaws.{some_none, but_n, short_stays}
use Rattle.profile.proofs.WatchKept.{Stands, step_number, step_kept, receive_kept, request_kept}

-- the milliseconds of two lists together
time_append : (cs ds : List Call) → time_over (cs ++ ds) ≡ time_over cs + time_over ds
time_append [] ds = sym (zero-add (time_over ds))
time_append (c ∷ cs) ds = ap (λ x. time_of c + x) (time_append cs ds) ∙ sym (add_assoc (time_of c) (time_over cs) (time_over ds))

-- ---- an elapsed call

-- it adds its milliseconds in the watch; a raise leaves that
pub elapsed_own : (ms : Machines) (t : ℕ) → (step_all (elapsed t) ms watch 0).own ≡ map (take_time t) (ms watch 0).own
elapsed_own ms t =
    picked Adds (is_due t (ms watch 0).own) (raise Lost ∷ []) []
    (λ e. ap own (raise_step watch 0 Lost (step watch 0 (pass t) (ms watch 0))) ∙ passed) (λ e. passed)
  where
    own : Machine watch → List Watch
    own m = m.own

    Adds : List Plain → Type 0
    Adds cs = (fold (step watch 0) (step watch 0 (pass t) (ms watch 0)) cs).own ≡ map (take_time t) (ms watch 0).own

    passed : (step watch 0 (pass t) (ms watch 0)).own ≡ map (take_time t) (ms watch 0).own
    passed = ap own (watch_hears (of_pass t) (ms watch 0))

-- so entry n takes them
pub elapsed_stands : (number n : ℕ) (w : Watch) (ms : Machines) (t : ℕ) → Stands number n w (ms watch 0)
    → Stands number n (take_time t w) (step_all (elapsed t) ms watch 0)
elapsed_stands number n w ms t s =
    record {
      numbered = fold_holds (λ (x : Machine watch). x.node.number ≡ number) (step watch 0) (step_number number)
          (heard_as ms (elapsed t)) (ms watch 0) s.numbered;
      entry = ap (λ (ws : List Watch). watch_at ws n) (elapsed_own ms t) ∙ time_entry t (ms watch 0).own n ∙ ap (take_time t) s.entry;
    }

-- "raises communication loss in that very call", in every machine's node, and does nothing else to a node
elapsed_node : (ms : Machines) (t : ℕ) (k : Kind) (i : ℕ)
    → (step_all (elapsed t) ms k i).node ≡ cond (is_due t (ms watch 0).own) (raise_node Lost (ms k i).node) (ms k i).node
unfolding device_wide
elapsed_node ms t k i = by (is_due t (ms watch 0).own)
  where
    passed : (step k i (pass t) (ms k i)).node ≡ (ms k i).node
    passed = step_node k i (pass t) (ms k i)

    by : (b : Bool) → (fold (step k i) (step k i (pass t) (ms k i)) (cond b (raise Lost ∷ []) [])).node
        ≡ cond b (raise_node Lost (ms k i).node) (ms k i).node
    by true = ap (λ (m : Machine k). m.node) (raise_step k i Lost (step k i (pass t) (ms k i))) ∙ ap (raise_node Lost) passed
    by false = passed

-- "raises the loss or finds it present"
raised : (n : Node) → (raise_node Lost n).lost ≡ true
unfolding raise_node
raised n = picked (λ (x : Node). x.lost ≡ true) n.lost n _ (λ e. e) (λ e. refl)

-- ---- an entry that a heartbeat started, s milliseconds ago

abbrev started_at : ℕ → ℕ → Watch
started_at v s = record { value = v; started = true; sum = s }

-- it expires by t milliseconds more where they bring it to its time, and else adds them up
started_expires : (v s t : ℕ) → expires t (started_at v s) ≡ leb (time_in v) (s + t)
unfolding expires
started_expires v s t = refl

started_time : (v s t : ℕ) → take_time t (started_at v s) ≡ cond (leb (time_in v) (s + t)) (waiting v) (started_at v (s + t))
unfolding take_time expires
started_time v s t = refl

-- "a heartbeat sets its sum to 0"
heartbeat_starts : (node v : ℕ) (e : Watch) → e.value ≡ v → watches node v ≡ true → take_heartbeat node e ≡ started_at v 0
unfolding take_heartbeat
heartbeat_starts node v e q w =
    ap (λ (x : ℕ). cond (watches node x) (started_at x 0) e) q ∙ ap (λ (b : Bool). cond b (started_at v 0) e) w

-- ---- the next elapsed call

module _ (number n v s : ℕ) (heard : List Call) (t : ℕ) (o : Stands number n (started_at v s) (after number heard watch 0)) where
  abbrev entries : List Watch
  entries = (after number heard watch 0).own

  -- it expires as its sum comes to its time or not
  due_here : expires t (watch_at entries n) ≡ leb (time_in v) (s + t)
  due_here = ap (expires t) o.entry ∙ started_expires v s t

  -- "and waits for a first heartbeat again"
  next_entry : entry_after number (heard ++ elapsed t ∷ []) n ≡ cond (leb (time_in v) (s + t)) (waiting v) (started_at v (s + t))
  next_entry =
      ap (λ (ms : Machines). watch_at (ms watch 0).own n) (after_append number heard (elapsed t ∷ []))
      ∙ (elapsed_stands number n (started_at v s) (after number heard) t o).entry ∙ started_time v s t

  -- every machine's node, by whether one of the four expires
  next_node : (k : Kind) (i : ℕ) (b : Bool) → is_due t entries ≡ b → (after number (heard ++ elapsed t ∷ []) k i).node
      ≡ cond b (raise_node Lost (after number heard k i).node) (after number heard k i).node
  next_node k i b e =
      ap (λ (ms : Machines). (ms k i).node) (after_append number heard (elapsed t ∷ []))
      ∙ elapsed_node (after number heard) t k i
      ∙ ap (λ (b : Bool). cond b (raise_node Lost (after number heard k i).node) (after number heard k i).node) e

  not_yet_below : s + t < time_in v → NotYet number heard n t
  unfolding is_due
  not_yet_below h =
      let stays = due_here ∙ lt-leb (time_in v) (s + t) h in
      let other = λ (j : ℕ). not (eqb j n) && expires t (watch_at entries j) in
      record {
        below = rw (ap (λ (w : Watch). w.sum) o.entry, ap (λ (w : Watch). w.value) o.entry) h;
        raises_none = λ none k i.
            let others = some_none 4 other (λ j l. but_n j n _ (λ ne. short_stays t (watch_at entries j) (none j l ne))) in
            next_node k i false (some_not 4 (λ j. expires t (watch_at entries j)) n others stays);
      }

  expired_at : n < 4 → time_in v ≤ s + t → Expired number heard n v t
  unfolding is_due
  expired_at l h =
      let reached = le-leb (time_in v) (s + t) h in
      let due = some_at 4 (λ j. expires t (watch_at entries j)) n l (due_here ∙ reached) in
      record {
        lost = λ k i. ap (λ (m : Node). m.lost) (next_node k i true due) ∙ raised (after number heard k i).node;
        waits = next_entry ∙ ap (λ (b : Bool). cond b (waiting v) (started_at v (s + t))) reached;
      }

-- ---- "if no heartbeat of that node, write of that entry or reset came between"

module _ (number node n v : ℕ) (w : watches node v ≡ true) where
  abbrev On : ℕ → Machine watch → Type 0
  On s x = Stands number n (started_at v s) x

  -- the heartbeats of that node are those that the value names
  leaves : (c : Plain) → not (disturbs number node n c) ≡ true → not (touches number v n c) ≡ true
  leaves (read index sub) h = h
  leaves (write index sub payload) h = h
  leaves (sample digital analogue events) h = h
  leaves (command code to) h = h
  leaves (raise cause) h = h
  leaves (clear cause) h = h
  leaves (drive lines channels) h = h
  leaves (heartbeat from) h = ap not (watches_none node from v w (not-true (eqb from node) h))
  leaves (pass t) h = h

  -- milliseconds that do not bring it to its time
  time_kept : (t s : ℕ) (ms : Machines) → s + t < time_in v → On s (ms watch 0) → On (s + t) (step_all (elapsed t) ms watch 0)
  time_kept t s ms h o =
      let same = started_time v s t ∙ ap (λ (b : Bool). cond b (waiting v) (started_at v (s + t))) (lt-leb (time_in v) (s + t) h) in
      subst (λ (w : Watch). Stands number n w (step_all (elapsed t) ms watch 0)) same
      (elapsed_stands number n (started_at v s) ms t o)

  -- nor does any call that leaves it, but for the milliseconds
  call_kept : (c : Call) (s : ℕ) (ms : Machines) → leaves_watch number node n c ≡ true → s + time_of c < time_in v
      → On s (ms watch 0) → On (s + time_of c) (step_all c ms watch 0)
  call_kept (direct c) s ms l h o = rw (add-zero s) (step_kept number n (started_at v s) c (ms watch 0) (leaves c l) o)
  call_kept (receive message frame) s ms l h o = rw (add-zero s) (receive_kept number n (started_at v s) ms message frame o)
  call_kept (transmit message frame) s ms l h o = rw (add-zero s) o
  call_kept (request frame reply) s ms l h o =
      rw (add-zero s) (request_kept number n (started_at v s) ms frame reply (each_weaker leaves (asked frame) l) o)
  call_kept (elapsed t) s ms l h o = time_kept t s ms h o

  -- its sum is the time that they bring
  run_kept : (cs : List Call) (s : ℕ) (ms : Machines) → each (leaves_watch number node n) cs ≡ true → s + time_over cs < time_in v
      → On s (ms watch 0) → On (s + time_over cs) (ran ms cs watch 0)
  run_kept [] s ms l h o = rw (add-zero s) o
  run_kept (c ∷ cs) s ms l h o =
      let q = both (leaves_watch number node n c) (each (leaves_watch number node n) cs) l in
      rw (sym (add_assoc s (time_of c) (time_over cs)))
      (run_kept cs (s + time_of c) (step_all c ms) q.1 (omega arith) (call_kept c s ms q.0 (omega arith) o))

-- ---- "After a heartbeat"

module _ (number : ℕ) (before : List Call) (node n v : ℕ) (value_is : (entry_after number before n).value ≡ v)
    (w : watches node v ≡ true) where
  abbrev since : List Call → List Call
  since cs = before ++ direct (heartbeat node) ∷ cs

  abbrev Leave : List Call → Type 0
  Leave cs = each (leaves_watch number node n) cs ≡ true

  -- the heartbeat starts the entry, with the sum 0
  started : Stands number n (started_at v 0) (step_all (direct (heartbeat node)) (after number before) watch 0)
  started =
      let x = after number before watch 0 in
      record {
        numbered = step_number number (heartbeat node) x (after_number number before);
        entry =
            ap (λ (m : Machine watch). watch_at m.own n) (watch_hears (of_heartbeat node) x) ∙ heartbeat_entry node x.own n
            ∙ heartbeat_starts node v (entry_after number before n) value_is w;
      }

  -- whose sum after more calls is the time that they brought
  summed : (cs : List Call) → Leave cs → time_over cs < time_in v
      → Stands number n (started_at v (time_over cs)) (after number (since cs) watch 0)
  summed cs l h =
      let kept = run_kept number node n v w cs 0 (step_all (direct (heartbeat node)) (after number before)) l (omega arith) started in
      subst (λ (ms : Machines). Stands number n (started_at v (time_over cs)) (ms watch 0))
      (sym (after_append number before (direct (heartbeat node) ∷ cs))) (rw (zero-add (time_over cs)) at kept)

  -- while it is below the time no elapsed call raises the loss for it
  not_yet : (cs : List Call) (t : ℕ) → Leave cs → time_over cs + t < time_in v → NotYet number (since cs) n t
  not_yet cs t l h = not_yet_below number n v (time_over cs) (since cs) t (summed cs l (omega arith)) h

  watched : (between : List Call) → n < 4 → Leave between → time_over between < time_in v → Watched number before node n v between
  watched between four l h =
      record {
        summed = (summed between l h).entry;
        none_earlier = λ first rest t e.
            let split = ap time_over e ∙ time_append first (elapsed t ∷ rest) in
            not_yet first t (each_first (leaves_watch number node n) first (elapsed t ∷ rest) (rw e at l)) (omega arith);
        not_yet = λ t below. not_yet between t l below;
        expired = λ t reached. expired_at number n v (time_over between) (since between) t (summed between l h) four reached;
      }

-- "the elapsed call that brings the sum to the time raises the loss or finds it present", and none before it
pub loss_in_time : LossInTime
loss_in_time number before node n v between four value_is w l h = watched number before node n v value_is w between four l h
