-- Document 02, Item 5: after any list every started entry is used with its sum below its time, and no two used entries are for one node.
-- Assumes nothing.
use mathlib.Core.Path.{◌≡◌, refl, ap, ◌∙◌, sym, subst, ap₂}
use mathlib.Core.Bool.{Bool, true, false, not, cond, ◌&&◌, false≢true}
use mathlib.Core.List.{List, map}
use Prim.Native.Nat.{ℕ, zero, suc, ◌+◌, ◌<◌}
use native.Mathlib.Omega.{arith}
use lib.Dec.{eqb, leb}
use lib.ListN.{length, get_or, replicate, length-set, length-map, get_or-eq_default}
use lib.Seq.{get_or-set_same}
use borrow.Author.Tests.{eqb-true, eqb-false, leb-true, leb-false, not-true}
use Rattle.profile.specs.declared.Node.{Node}
use Rattle.profile.specs.Entries.{Entry}
use Rattle.profile.specs.declared.Home.{Home}
use Rattle.profile.specs.declared.Home.TheVariants.{Constant, Window, InputChannel, OutputChannel, Sources, Device, MappingEntry, WatchEntry}
use Rattle.profile.specs.Bytes.{little_endian}
use Rattle.profile.specs.Nodes.{addressed}
use Rattle.profile.specs.Entries.{entry_of, home_of}
use Rattle.profile.specs.WatchEntries.{Watch, waiting, empty_watches, watch_at, node_in, time_in, is_used, watches, is_second}
use Rattle.profile.specs.Watch.{take_heartbeat, expires, take_time, write_watch}
use Rattle.profile.specs.Calls.{Plain, read, write, sample, command, raise, clear, drive, heartbeat, pass, Call}
use Rattle.profile.specs.Refusals.{first, watch_checks, accepted, held_checks}
use Rattle.profile.specs.Machines.{watch, Machine, fresh_machine, write_own, next_own, next, known, step, rules_of}
use Rattle.profile.specs.Heard.{fresh_machines, spoken}
use Rattle.profile.specs.Lists.{after}
use Rattle.profile.specs.WatchClaims.{Below, SumsBelow, NoNodeTwice}
use Rattle.profile.proofs.BoolLaws.{both, picked}
use Rattle.profile.proofs.EntryRanges.{InRange, in_range}
use Rattle.profile.proofs.RefusalLaws.{none_holds, write_passed}
use Rattle.profile.proofs.ListTheorem.{after_spoken}
use Rattle.profile.proofs.StepLaws.{cond_same, step_holds}
use Rattle.profile.proofs.LengthLaws.{fold_holds}
use Rattle.profile.proofs.WatchLaws.{some_at, heartbeat_entry, time_entry, other_entry, names}

-- a started entry is used, and its sum is below its time
abbrev Kept : Watch → Type 0
Kept w = w.started ≡ true → Below w

-- no two used entries are for one node
abbrev Apart : List Watch → Type 0
Apart ws = (node m n : ℕ) → watches node (watch_at ws m).value ≡ true → watches node (watch_at ws n).value ≡ true → m ≡ n

-- what every call keeps of the four entries
pub record SoundWatch (ws : List Watch) : Type 0 where
  pub four : length ws ≡ 4
  pub kept : (n : ℕ) → Kept (watch_at ws n)
  pub apart : Apart ws

-- one that waits is not started
waiting_kept : (v : ℕ) → Kept (waiting v)
waiting_kept v e = absurd (false≢true e)

-- the value 0 names no node
unused : (node : ℕ) → watches node 0 ≡ false
unfolding watches is_used time_in
unused node = refl

-- nor does an entry that was never written
names_none : (node : ℕ) (w : Watch) → w ≡ waiting 0 → watches node w.value ≡ true → ⊥
names_none node w e p = false≢true (sym (unused node) ∙ sym (ap (λ (x : Watch). watches node x.value) e) ∙ p)

-- ---- "default 0"

-- an entry of a list of the same, or past it
pub all_same : {A : Type 0} (k n : ℕ) (a : A) → get_or (replicate k a) n a ≡ a
all_same zero n a = refl
all_same (suc k) zero a = refl
all_same (suc k) (suc n) a = all_same k n a

empty_sound : SoundWatch empty_watches
empty_sound =
    record {
      four = refl;
      kept = λ n. subst Kept (sym (all_same 4 n (waiting 0))) (waiting_kept 0);
      apart = λ node m n p q. absurd (names_none node _ (all_same 4 m (waiting 0)) p);
    }

-- ---- a heartbeat, and time that passes

-- what becomes of an entry w: its value stays
record Follows (w x : Watch) : Type 0 where
  same : x.value ≡ w.value
  kept : Kept x

-- of each entry alike
mapped_sound : (f : Watch → Watch) (ws : List Watch) → ((n : ℕ) → watch_at (map f ws) n ≡ f (watch_at ws n))
    → ((w : Watch) → Kept w → Follows w (f w)) → SoundWatch ws → SoundWatch (map f ws)
mapped_sound f ws at follows s =
    record {
      four = length-map ws f ∙ s.four;
      kept = λ n. rw (at n) (follows (watch_at ws n) (s.kept n)).kept;
      apart = λ node m n p q. s.apart node m n (rw (value_at m) at p) (rw (value_at n) at q);
    }
  where
    value_at : (n : ℕ) → (watch_at (map f ws) n).value ≡ (watch_at ws n).value
    value_at n = ap (λ (w : Watch). w.value) (at n) ∙ (follows (watch_at ws n) (s.kept n)).same

-- "Time 0 .. means unused."
used_time : (v : ℕ) → is_used v ≡ true → 0 < time_in v
unfolding is_used
used_time v u =
    positive (time_in v) (eqb-false (time_in v) 0 (not-true (eqb (time_in v) 0) (both (not (eqb (time_in v) 0)) _ u).0))
  where
    positive : (n : ℕ) → (n ≡ 0 → ⊥) → 0 < n
    positive n ne = omega arith

-- "a heartbeat sets its sum to 0"
heartbeat_follows : (node : ℕ) (w : Watch) → Kept w → Follows w (take_heartbeat node w)
unfolding take_heartbeat
heartbeat_follows node w k =
    picked (Follows w) (watches node w.value) _ w
    (λ e. let used = (names node w.value e).used in
    record { same = refl; kept = λ h. record { used = used; below = used_time w.value used } })
    (λ e. record { same = refl; kept = k })

-- what does not expire stays below its time
time_follows : (t : ℕ) (w : Watch) → Kept w → Follows w (take_time t w)
unfolding take_time expires
time_follows t w k =
    picked (Follows w) (expires t w) _ _ (λ e. record { same = refl; kept = waiting_kept w.value })
    (λ e. picked (Follows w) w.started _ w (λ s. record { same = refl; kept = λ h. record { used = (k s).used; below = below s e } })
    (λ s. record { same = refl; kept = k }))
  where
    below : w.started ≡ true → w.started && leb (time_in w.value) (w.sum + t) ≡ false → w.sum + t < time_in w.value
    below s e = leb-false (time_in w.value) (w.sum + t) (rw s at e)

-- ---- "Two used entries for one node: 06040043"

module _ (j v : ℕ) (ws : List Watch) (s : SoundWatch ws) (h : j < 4) (only : is_second j v ws ≡ false) where
  -- entry j has the value and waits, each other is as it was
  written_at : (n : ℕ) → watch_at (write_watch j v ws) n ≡ cond (eqb n j) (waiting v) (watch_at ws n)
  written_at n = by (eqb n j) refl
    where
      by : (t : Bool) → eqb n j ≡ t → watch_at (write_watch j v ws) n ≡ cond t (waiting v) (watch_at ws n)
      by true e = rw (eqb-true n j e) (get_or-set_same ws j (waiting v) (waiting 0) (rw s.four h))
      by false e = other_entry j v ws n (eqb-false n j e)

  -- only one of the four names a node
  within : (node n : ℕ) → watches node (watch_at ws n).value ≡ true → n < 4
  within node n w = by (leb 4 n) refl
    where
      by : (t : Bool) → leb 4 n ≡ t → n < 4
      by true e = absurd (names_none node (watch_at ws n) (get_or-eq_default ws (waiting 0) (rw s.four (leb-true 4 n e))) w)
      by false e = leb-false 4 n e

  -- a used value with the node of another was refused
  none_other : (node n : ℕ) → watches node v ≡ true → watches node (watch_at ws n).value ≡ true → eqb n j ≡ false → ⊥
  unfolding is_second
  none_other node n w q ne =
      let found = some_at 4 (λ k. not (eqb k j) && watches (node_in v) (watch_at ws k).value) n (within node n q)
      (rw (ne, (names node v w).node_is) q) in
      false≢true (sym only ∙ ap₂ (λ (a b : Bool). a && b) (names node v w).used found)

  written_apart : Apart (write_watch j v ws)
  written_apart node m n p q = by (eqb m j) (eqb n j) refl refl (rw (written_at m) at p) (rw (written_at n) at q)
    where
      by : (t u : Bool) → eqb m j ≡ t → eqb n j ≡ u → watches node (cond t (waiting v) (watch_at ws m)).value ≡ true
          → watches node (cond u (waiting v) (watch_at ws n)).value ≡ true → m ≡ n
      by true true e f p q = eqb-true m j e ∙ sym (eqb-true n j f)
      by true false e f p q = absurd (none_other node n p q f)
      by false true e f p q = absurd (none_other node m q p e)
      by false false e f p q = s.apart node m n p q

  written_sound : SoundWatch (write_watch j v ws)
  written_sound =
      record {
        four = length-set ws j (waiting v) ∙ s.four;
        kept = λ n. rw (written_at n) (picked Kept (eqb n j) (waiting v) (watch_at ws n) (λ e. waiting_kept v) (λ e. s.kept n));
        apart = written_apart;
      }

-- ---- any call, and any list

-- a write that the table lets through
entry_sound : (e : Entry) (h : Home) → InRange e h → (v i : ℕ) (n : Node) (ws : List Watch)
    → first (held_checks ((rules_of watch).holds ws) h v) ≡ 0 → SoundWatch ws → SoundWatch (write_own h v watch i n ws)
unfolding watch_checks
entry_sound e (Constant x) r v i n ws z s = s
entry_sound e (Window row w k) r v i n ws z s = s
entry_sound e (InputChannel index k) r v i n ws z s = s
entry_sound e (OutputChannel index k) r v i n ws z s = s
entry_sound e Sources r v i n ws z s = s
entry_sound e (Device index) r v i n ws z s = s
entry_sound e (MappingEntry m sub) r v i n ws z s = s
entry_sound e (WatchEntry j) r v i n ws z s =
    written_sound j v ws s r.0 (none_holds (watch_checks ws j v) (λ h. omega arith, tt) z).0

next_sound : (i : ℕ) (c : Plain) (x : Machine watch) → accepted (known watch x) c ≡ true → SoundWatch x.own
    → SoundWatch (next watch i c x).own
unfolding next next_own
next_sound i (read index sub) x t s = rw cond_same s
next_sound i (write index sub payload) x t s =
    entry_sound (entry_of index sub) (home_of index sub) (in_range index sub) (little_endian payload) i x.node x.own
    (write_passed (known watch x) index sub payload t).held s
next_sound i (sample digital analogue events) x t s = s
next_sound i (command code to) x t s =
    picked SoundWatch (addressed to x.node && eqb code 129) empty_watches _ (λ e. empty_sound)
    (λ e. picked SoundWatch (addressed to x.node && eqb code 130) empty_watches x.own (λ f. empty_sound) (λ f. s))
next_sound i (raise cause) x t s = s
next_sound i (clear cause) x t s = s
next_sound i (drive lines channels) x t s = s
next_sound i (heartbeat node) x t s =
    mapped_sound (take_heartbeat node) x.own (heartbeat_entry node x.own) (heartbeat_follows node) s
next_sound i (pass u) x t s = mapped_sound (take_time u) x.own (time_entry u x.own) (time_follows u) s

step_sound : (i : ℕ) (c : Plain) (x : Machine watch) → SoundWatch x.own → SoundWatch (step watch i c x).own
step_sound i c x s = step_holds (λ (m : Machine watch). SoundWatch m.own) i c x s (λ h t. next_sound i c x t s)

pub watch_sound : (number : ℕ) (cs : List Call) → SoundWatch (after number cs watch 0).own
watch_sound number cs =
    rw (after_spoken number cs watch 0)
    (fold_holds (λ (m : Machine watch). SoundWatch m.own) (step watch 0) (step_sound 0) (spoken (fresh_machines number) cs)
    (fresh_machine watch number) empty_sound)

-- a used time is at least 1 and a started sum below it, so at most 65,534
pub sums_below : SumsBelow
sums_below number cs n = (watch_sound number cs).kept n

-- "Two used entries for one node: 06040043", so there are none
pub no_node_twice : NoNodeTwice
no_node_twice number cs = (watch_sound number cs).apart
