-- Document 02, Item 5: what ends a watch, what alone starts one, an entry read and a write of it refused, and the values of 1016 in
-- numbers.
-- Assumes nothing.
use mathlib.Core.Path.{◌≡◌, refl, ap, ap₂, ◌∙◌, subst}
use mathlib.Core.Bool.{Bool, true, false, not, cond, ◌||◌, ◌&&◌, false≢true, and-false}
use mathlib.Core.List.{List, [], ◌∷◌, ◌++◌}
use Prim.Native.Nat.{ℕ, zero, suc, ◌+◌, ◌*◌, ◌<◌}
use native.Mathlib.Omega.{arith}
use lib.Dec.{eqb, leb}
use lib.Seq.{get_or-set_same}
use borrow.Author.Tests.{ne_eqb, le-ltb, le-leb, lt-leb}
use Rattle.profile.specs.declared.Home.TheVariants.{WatchEntry}
use Rattle.profile.specs.Bytes.{little_endian}
use Rattle.profile.specs.Nodes.{addressed}
use Rattle.profile.specs.Entries.{object_of, entry_of, home_of, not_allowed, above_range, below_range}
use Rattle.profile.specs.WatchEntries.{Watch, waiting, empty_watches, watch_at, node_in, time_in, is_used, watches, is_second}
use Rattle.profile.specs.Watch.{expires, take_time}
use Rattle.profile.specs.Calls.{Plain, write, command}
use Rattle.profile.specs.Calls.{Call, direct, receive, transmit, request, elapsed}
use Rattle.profile.specs.Refusals.{refusal, write_refusal, watch_checks, read_refusal}
use Rattle.profile.specs.Machines.{watch, Machine}
use Rattle.profile.specs.Machines.{command_own, step}
use Rattle.profile.specs.Heard.{Machines, number_of, step_all}
use Rattle.profile.specs.Lists.{each, after}
use Rattle.profile.specs.WatchClaims.{entry_after, Ends, WatchEnds, leaves_waiting, WaitsForHeartbeat}
use Rattle.profile.specs.WatchClaims.{ValuesAsSaid, WritesRefused, SecondNode, WatchAccessed}
use Rattle.profile.proofs.BoolLaws.{both}
use Rattle.profile.proofs.ListTheorem.{ran}
use Rattle.profile.proofs.AppendLaws.{after_append}
use Rattle.profile.proofs.NodesAgree.{accepted_by_all, known_of, nodes_agree}
use Rattle.profile.proofs.StepLaws.{Takes, write_step, command_step, refused_step}
use Rattle.profile.proofs.WatchLaws.{after_number, some_at, some_none, but_n}
use Rattle.profile.proofs.WatchKept.{Stands, step_kept, receive_kept, request_kept}
use Rattle.profile.proofs.WatchSound.{all_same, watch_sound}
use Rattle.profile.proofs.WatchTheorem.{elapsed_stands}
use Rattle.profile.specs.Replies.{read_value, read_reply}
use Rattle.profile.proofs.ReadLaws.{read_replies}

-- ---- the value of an entry, in numbers

pub values_as_said : ValuesAsSaid
unfolding is_used node_in time_in
values_as_said node time h l =
    record {
      node_is = node_is;
      time_is = time_is;
      used = λ least most some. used_is ∙ rw (ne_eqb time 0 (λ e. omega arith), le-leb 1 node least, le-leb node 127 most) refl;
      no_time = λ e. used_is ∙ rw e refl;
      no_node = λ e. used_is ∙ rw e (and-false (not (eqb time 0)));
      above_node = λ e. used_is ∙ rw (lt-leb node 127 e, and-false (leb 1 node)) (and-false (not (eqb time 0)));
    }
  where
    node_is : node_in (65536 * node + time) ≡ node
    node_is = omega arith

    time_is : time_in (65536 * node + time) ≡ time
    time_is = omega arith

    used_is : is_used (65536 * node + time) ≡ not (eqb time 0) && (leb 1 node && leb node 127)
    used_is = ap₂ (λ (n t : ℕ). not (eqb t 0) && (leb 1 n && leb n 127)) node_is time_is

pub second_node : SecondNode
unfolding is_second
second_node n v ws =
    record {
      another = λ j l ne u w.
          rw (u, some_at 4 (λ i. not (eqb i n) && watches (node_in v) (watch_at ws i).value) j l (rw (ne_eqb j n ne, w) refl)) refl;
      none = λ h.
          rw (some_none 4 (λ i. not (eqb i n) && watches (node_in v) (watch_at ws i).value)
          (λ j l. but_n j n (watches (node_in v) (watch_at ws j).value) (h j l))) (and-false (is_used v));
      unused = λ u. rw u refl;
    }

pub writes_refused : WritesRefused
unfolding refusal write_refusal entry_of object_of not_allowed above_range below_range watch_checks
writes_refused has zero payload h s l = rw (s, l, le-ltb (little_endian payload) 0 (omega arith)) refl
writes_refused has (suc zero) payload h s l = rw (s, l, le-ltb (little_endian payload) 0 (omega arith)) refl
writes_refused has (suc (suc zero)) payload h s l = rw (s, l, le-ltb (little_endian payload) 0 (omega arith)) refl
writes_refused has (suc (suc (suc zero))) payload h s l = rw (s, l, le-ltb (little_endian payload) 0 (omega arith)) refl
writes_refused has (suc (suc (suc (suc n)))) payload h s l = absurd (omega arith)

-- ---- "Writing an entry stops its watch; either reset empties all four."

-- a call that is accepted, at the watch
taken : (number : ℕ) (cs : List Call) (c : Plain) → number_of (after number cs) (direct c) ≡ 0 → Takes watch 0 c (after number cs watch 0)
unfolding number_of
taken number cs c z = accepted_by_all number cs c (ap (λ (x : ℕ). eqb x 0) z) watch 0

next_own_is : (number : ℕ) (cs : List Call) (c : Plain) (n : ℕ)
    → entry_after number (cs ++ direct c ∷ []) n ≡ watch_at (step watch 0 c (after number cs watch 0)).own n
next_own_is number cs c n = ap (λ (ms : Machines). watch_at (ms watch 0).own n) (after_append number cs (direct c ∷ []))

entry_home : (n : ℕ) → n < 4 → home_of 0x1016 (suc n) ≡ WatchEntry n
unfolding entry_of object_of
entry_home zero h = refl
entry_home (suc zero) h = refl
entry_home (suc (suc zero)) h = refl
entry_home (suc (suc (suc zero))) h = refl
entry_home (suc (suc (suc (suc n)))) h = absurd (omega arith)

module _ (number : ℕ) (cs : List Call) (n : ℕ) (h : n < 4) where
  abbrev x : Machine watch
  x = after number cs watch 0

  emptied : (code to : ℕ) → (eqb to 0 || eqb to number) && (eqb code 129 || eqb code 130) ≡ true
      → command_own code to watch x.node x.own ≡ empty_watches
  unfolding addressed
  emptied code to r = rw (after_number number cs) (by (eqb to 0 || eqb to number) (eqb code 129) (eqb code 130) r)
    where
      by : (a b c : Bool) → a && (b || c) ≡ true → cond (a && b) empty_watches (cond (a && c) empty_watches x.own) ≡ empty_watches
      by true true c r = refl
      by true false true r = refl
      by true false false r = absurd (false≢true r)
      by false b c r = absurd (false≢true r)

  ends : Ends number cs n
  ends =
      record {
        fresh = all_same 4 n (waiting 0);
        written = λ payload z.
            let c = write 0x1016 (suc n) payload in
            next_own_is number cs c n
            ∙ ap (λ (y : Machine watch). watch_at y.own n)
            (write_step watch 0 0x1016 (suc n) payload (WatchEntry n) x (entry_home n h) (taken number cs c z))
            ∙ get_or-set_same x.own n (waiting (little_endian payload)) (waiting 0) (rw (watch_sound number cs).four h);
        reset = λ code to z r.
            let c = command code to in
            next_own_is number cs c n
            ∙ ap (λ (y : Machine watch). watch_at y.own n) (command_step watch 0 code to x (taken number cs c z))
            ∙ ap (λ (ws : List Watch). watch_at ws n) (emptied code to r) ∙ all_same 4 n (waiting 0);
      }

-- ---- an entry read, and a write of it that is refused

entry_is : (n : ℕ) → n < 4 → ((entry_of 0x1016 (suc n)).absent ≡ 0) × ((entry_of 0x1016 (suc n)).size ≡ 4)
unfolding entry_of object_of
entry_is zero h = (refl, refl)
entry_is (suc zero) h = (refl, refl)
entry_is (suc (suc zero)) h = (refl, refl)
entry_is (suc (suc (suc zero))) h = (refl, refl)
entry_is (suc (suc (suc (suc n)))) h = absurd (omega arith)

pub watch_accessed : WatchAccessed
unfolding number_of refusal read_refusal read_value
watch_accessed number cs n h =
    let ms = after number cs in
    let e = entry_is n h in
    record {
      read_back = λ running.
          read_replies ms 0x1016 (suc n) (rw (running, e.0) refl)
          ∙ ap₂ read_reply (ap (read_value ms) (entry_home n h)) e.1;
      refused = λ payload ne.
          let c = write 0x1016 (suc n) payload in
          next_own_is number cs c n
          ∙ ap (λ (y : Machine watch). watch_at y.own n)
          (refused_step watch 0 c (ms watch 0)
          (λ heard. ap (λ (x : ℕ). eqb x 0) (known_of ms c watch 0 (nodes_agree number cs watch 0) heard) ∙ ne_eqb _ 0 ne));
    }

pub watch_ends : WatchEnds
watch_ends number cs n h = ends number cs n h

-- ---- "Watching starts with that node's first heartbeat."

-- time that passes leaves an entry that waits
time_waits : (t : ℕ) (w : Watch) → w.started ≡ false → take_time t w ≡ w
unfolding take_time expires
time_waits t w e =
    ap (λ (b : Bool). cond (b && leb (time_in w.value) (w.sum + t)) (waiting w.value)
    (cond b (record { value = w.value; started = true; sum = w.sum + t }) w)) e

module _ (number n : ℕ) (w : Watch) (e : w.started ≡ false) where
  abbrev Waits : Machines → Type 0
  Waits ms = Stands number n w (ms watch 0)

  call_waits : (c : Call) (ms : Machines) → leaves_waiting number w.value n c ≡ true → Waits ms → Waits (step_all c ms)
  call_waits (direct c) ms h s = step_kept number n w c (ms watch 0) h s
  call_waits (receive message frame) ms h s = receive_kept number n w ms message frame s
  call_waits (transmit message frame) ms h s = s
  call_waits (request frame reply) ms h s = request_kept number n w ms frame reply h s
  call_waits (elapsed t) ms h s =
      subst (λ (x : Watch). Stands number n x (step_all (elapsed t) ms watch 0)) (time_waits t w e) (elapsed_stands number n w ms t s)

  run_waits : (cs : List Call) (ms : Machines) → each (leaves_waiting number w.value n) cs ≡ true → Waits ms → Waits (ran ms cs)
  run_waits [] ms h s = s
  run_waits (c ∷ cs) ms h s =
      let q = both (leaves_waiting number w.value n c) (each (leaves_waiting number w.value n) cs) h in
      run_waits cs (step_all c ms) q.1 (call_waits c ms q.0 s)

pub waits_for_heartbeat : WaitsForHeartbeat
waits_for_heartbeat number before n between e h =
    ap (λ (ms : Machines). watch_at (ms watch 0).own n) (after_append number before between)
    ∙ (run_waits number n (entry_after number before n) e between (after number before) h
    (record { numbered = after_number number before; entry = refl })).entry
