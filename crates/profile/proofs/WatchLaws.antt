-- Document 02, Item 5: an entry of 1016 at what the machine of the watch does, which writes name it, and a node's number at any call.
-- Assumes nothing.
use mathlib.Core.Path.{◌≡◌, refl, ap, ◌∙◌, sym, ap₂}
use mathlib.Core.Bool.{Bool, true, false, not, ◌||◌, ◌&&◌, false≢true, or-true}
use mathlib.Core.List.{List, [], ◌∷◌, map}
use Prim.Native.Nat.{ℕ, zero, suc, ◌-◌, ◌<◌, ◌+◌}
use native.Mathlib.Omega.{arith}
use lib.Dec.{eqb, leb}
use lib.ListN.{length, take, drop, get_or-map}
use lib.Seq.{get_or-set_other}
use borrow.Author.Tests.{eqb-true, eqb-false, eq-eqb, leb-true, le-leb}
use Rattle.profile.specs.declared.Node.{Node}
use Rattle.profile.specs.declared.Cause.TheVariants.{Internal, Lost}
use Rattle.profile.specs.declared.Home.{Home}
use Rattle.profile.specs.declared.Home.TheVariants.{Constant, Window, InputChannel, OutputChannel, Sources, Device, MappingEntry, WatchEntry}
use Rattle.profile.specs.Nodes.{operational, raise_node, clear_node, addressed, obey_node}
use Rattle.profile.specs.Entries.{watch_object, object_of, entry_of, home_of, at_watch}
use Rattle.profile.specs.MappedEntries.{index_of, sub_of, mappable, moves, moved, total}
use Rattle.profile.specs.WatchEntries.{Watch, waiting, watch_at, node_in, time_in, is_used, watches, some}
use Rattle.profile.specs.Watch.{take_heartbeat, expires, take_time, write_watch}
use Rattle.profile.specs.Calls.{Plain, read, write, sample, command, raise, clear, drive, heartbeat, pass, Call, request}
use Rattle.profile.specs.Refusals.{accepted}
use Rattle.profile.specs.Server.{asked}
use Rattle.profile.specs.NodeAlone.{device_wide, next_node}
use Rattle.profile.specs.Machines.{node_alone, watch, write_own}
use Rattle.profile.specs.Heard.{Machines, fresh_machines, in_force, frame_writes, receive_writes, served, heard_as, spoken}
use Rattle.profile.specs.Lists.{each, after}
use Rattle.profile.proofs.BoolLaws.{both, neither, picked}
use Rattle.profile.proofs.HomeLaws.{device_holds}
use Rattle.profile.proofs.MappedLaws.{moving}
use Rattle.profile.proofs.LengthLaws.{fold_holds}
use Rattle.profile.proofs.EntryTests.{at_holds, entry_passes}
use Rattle.profile.proofs.NodesAgree.{bare, node_by, node_step, after_node}
use Rattle.profile.specs.WatchClaims.{Reaches}

-- ---- a test of the numbers below k

-- one of them passes, so some does
pub some_at : (k : ℕ) (p : ℕ → Bool) (n : ℕ) → n < k → p n ≡ true → some k p ≡ true
some_at zero p n h e = absurd (omega arith)
some_at (suc k) p n h e = by (eqb n k) refl (λ l. some_at k p n l e)
  where
    below : n < suc k → (n ≡ k → ⊥) → n < k
    below h ne = omega arith

    by : (t : Bool) → eqb n k ≡ t → (n < k → some k p ≡ true) → some k p || p k ≡ true
    by true q f = ap (λ (j : ℕ). some k p || p j) (sym (eqb-true n k q)) ∙ rw e (or-true (some k p))
    by false q f = ap (λ (b : Bool). b || p k) (f (below h (eqb-false n k q)))

-- neither the n-th nor any other passes, so none does
pub some_not : (k : ℕ) (p : ℕ → Bool) (n : ℕ) → some k (λ j. not (eqb j n) && p j) ≡ false → p n ≡ false → some k p ≡ false
some_not zero p n h e = refl
some_not (suc k) p n h e =
    let q = neither (some k (λ j. not (eqb j n) && p j)) (not (eqb k n) && p k) h in
    rw (some_not k p n q.0 e) (by (eqb k n) refl q.1)
  where
    by : (t : Bool) → eqb k n ≡ t → not t && p k ≡ false → p k ≡ false
    by true q r = ap p (eqb-true k n q) ∙ e
    by false q r = r

-- none of the numbers below k passes
pub some_none : (k : ℕ) (p : ℕ → Bool) → ((j : ℕ) → j < k → p j ≡ false) → some k p ≡ false
some_none zero p h = refl
some_none (suc k) p h = rw (some_none k p (λ j l. h j (omega arith)), h k (omega arith)) refl

-- and none but n
pub but_n : (j n : ℕ) (b : Bool) → ((j ≡ n → ⊥) → b ≡ false) → not (eqb j n) && b ≡ false
but_n j n b h = by (eqb j n) refl
  where
    by : (t : Bool) → eqb j n ≡ t → not t && b ≡ false
    by true e = refl
    by false e = h (eqb-false j n e)

-- an entry that reaches its time expires, and no other
pub reaching_expires : (t : ℕ) (w : Watch) → Reaches t w → expires t w ≡ true
unfolding expires
reaching_expires t w r = ap₂ (λ (a b : Bool). a && b) r.started (le-leb (time_in w.value) (w.sum + t) r.time)

pub short_stays : (t : ℕ) (w : Watch) → (Reaches t w → ⊥) → expires t w ≡ false
unfolding expires
short_stays t w h = by w.started (leb (time_in w.value) (w.sum + t)) refl refl
  where
    by : (a b : Bool) → w.started ≡ a → leb (time_in w.value) (w.sum + t) ≡ b → a && b ≡ false
    by true true p q = absurd (h (record { started = p; time = leb-true (time_in w.value) (w.sum + t) q }))
    by true false p q = refl
    by false b p q = refl

-- ---- an entry at a heartbeat, at time that passes, and at a write of another: each of the four by itself

pub heartbeat_entry : (node : ℕ) (ws : List Watch) (n : ℕ)
    → watch_at (map (take_heartbeat node) ws) n ≡ take_heartbeat node (watch_at ws n)
unfolding take_heartbeat watches is_used time_in
heartbeat_entry node ws n = get_or-map (take_heartbeat node) ws n (waiting 0)

pub time_entry : (t : ℕ) (ws : List Watch) (n : ℕ) → watch_at (map (take_time t) ws) n ≡ take_time t (watch_at ws n)
unfolding take_time expires
time_entry t ws n = get_or-map (take_time t) ws n (waiting 0)

pub other_entry : (j v : ℕ) (ws : List Watch) (n : ℕ) → (n ≡ j → ⊥) → watch_at (write_watch j v ws) n ≡ watch_at ws n
other_entry j v ws n ne = get_or-set_other ws j n _ (waiting 0) ne

-- ---- "bits 16 to 23 a node"

-- a value that names the node
pub record Names (node v : ℕ) : Type 0 where
  pub used : is_used v ≡ true
  pub node_is : node_in v ≡ node

pub names : (node v : ℕ) → watches node v ≡ true → Names node v
unfolding watches
names node v w =
    let q = both (is_used v) (eqb (node_in v) node) w in
    record { used = q.0; node_is = eqb-true (node_in v) node q.1 }

-- so no other node's heartbeat is for it
pub watches_none : (node from v : ℕ) → watches node v ≡ true → eqb from node ≡ false → watches from v ≡ false
unfolding watches
watches_none node from v w ne = by (is_used v) (eqb (node_in v) from) refl
  where
    no : node_in v ≡ from → ⊥
    no e = eqb-false from node ne (sym e ∙ (names node v w).node_is)

    by : (a b : Bool) → eqb (node_in v) from ≡ b → a && b ≡ false
    by false b e = refl
    by true true e = absurd (no (eqb-true (node_in v) from e))
    by true false e = refl

-- ---- "Object 1016:1 to 1016:4": which index and sub-index name entry n

-- what holds at any other home, and at each entry that passes, where the entry of this home does
watch_tested : {A : Type 0} (P : A → Type 0) (p : ℕ → Bool) (f : ℕ → A) (d : A) → P d → ((n : ℕ) → p n ≡ true → P (f n)) → (h : Home)
    → at_watch true p h ≡ true → P (at_watch d f h)
watch_tested P p f d q g (Constant v) t = q
watch_tested P p f d q g (Window row w s) t = q
watch_tested P p f d q g (InputChannel index c) t = q
watch_tested P p f d q g (OutputChannel index c) t = q
watch_tested P p f d q g Sources t = q
watch_tested P p f d q g (Device index) t = q
watch_tested P p f d q g (MappingEntry m sub) t = q
watch_tested P p f d q g (WatchEntry n) t = g n t

-- at 1016 it is that of the sub-index
named_at : (sub : ℕ) → at_watch true (λ n. eqb sub (suc n)) (home_of 0x1016 sub) ≡ true
unfolding entry_of object_of
named_at zero = refl
named_at (suc k) =
    at_holds (λ e. at_watch true (λ n. eqb (suc k) (suc n)) e.home ≡ true) (suc k) (watch_object (suc k - 1))
    refl refl (eq-eqb (suc k) (suc (suc k - 1)) (before k))
  where
    before : (k : ℕ) → suc k ≡ suc (suc k - 1)
    before k = omega arith

-- and no other index has one
named_by : (index sub : ℕ) → at_watch true (λ n. eqb index 0x1016 && eqb sub (suc n)) (home_of index sub) ≡ true
named_by index sub = by (eqb index 0x1016) refl
  where
    indexed : at_watch true (λ n. eqb index 0x1016) (home_of index sub) ≡ true
    indexed = entry_passes (λ x e. at_watch true (λ n. eqb x 0x1016) e.home) index sub refl refl (λ row c h. (refl, refl)) refl

    by : (t : Bool) → eqb index 0x1016 ≡ t → at_watch true (λ n. eqb index 0x1016 && eqb sub (suc n)) (home_of index sub) ≡ true
    by true e = rw (eqb-true index 0x1016 e) (named_at sub)
    by false e = rw e (rw e at indexed)

-- a write of anything else leaves entry n
pub unnamed_entry : (index sub v i : ℕ) (m : Node) (ws : List Watch) (n : ℕ) → eqb index 0x1016 && eqb sub (suc n) ≡ false
    → watch_at (write_own (home_of index sub) v watch i m ws) n ≡ watch_at ws n
unnamed_entry index sub v i m ws n ne =
    watch_tested (λ (o : List Watch). watch_at o n ≡ watch_at ws n) (λ j. eqb index 0x1016 && eqb sub (suc j)) (λ j. write_watch j v ws) ws
    refl (λ j q. other_entry j v ws n (apart j q)) (home_of index sub) (named_by index sub)
  where
    apart : (j : ℕ) → eqb index 0x1016 && eqb sub (suc j) ≡ true → n ≡ j → ⊥
    apart j q e = false≢true (sym ne ∙ ap (λ (x : ℕ). eqb index 0x1016 && eqb sub (suc x)) e ∙ q)

-- no mapping moves 1016: "nothing else is mappable"
unmapped : (m sub : ℕ) → mappable m (home_of 0x1016 sub) ≡ false
unfolding entry_of object_of
unmapped m sub = at_holds (λ e. mappable m e.home ≡ false) sub (watch_object (sub - 1)) refl refl refl

moving_elsewhere : (m u : ℕ) → moves m u ≡ true → eqb (index_of u) 0x1016 ≡ false
moving_elsewhere m u h = by (eqb (index_of u) 0x1016) refl
  where
    by : (t : Bool) → eqb (index_of u) 0x1016 ≡ t → t ≡ false
    by true e =
        let mapped = ap (λ (x : ℕ). mappable m (home_of x (sub_of u))) (eqb-true (index_of u) 0x1016 e) in
        absurd (false≢true (sym (unmapped m (sub_of u)) ∙ sym mapped ∙ (moving m u h).mapped))
    by false e = refl

-- a test that every write of another object passes
abbrev pub Others : (Plain → Bool) → Type 0
Others p = (index sub : ℕ) (payload : List ℕ) → eqb index 0x1016 ≡ false → p (write index sub payload) ≡ true

-- all writes of a received frame pass it
frame_passes : (p : Plain → Bool) → Others p → (m : ℕ) (vs frame : List ℕ) → each p (frame_writes m vs frame) ≡ true
frame_passes p others m [] frame = refl
frame_passes p others m (u ∷ us) frame =
    let payload = take (moved m u) frame in
    picked (λ cs. each p cs ≡ true) (moves m u) _ (frame_writes m us frame)
    (λ e. rw (others (index_of u) (sub_of u) payload (moving_elsewhere m u e)) (frame_passes p others m us (drop (moved m u) frame)))
    (λ e. frame_passes p others m us frame)

pub receive_passes : (p : Plain → Bool) → Others p → (ms : Machines) (m : ℕ) (frame : List ℕ)
    → each p (receive_writes ms m frame) ≡ true
receive_passes p others ms m frame =
    picked (λ cs. each p cs ≡ true) (operational (ms node_alone 0).node && leb (total m (in_force ms m)) (length frame)) _ []
    (λ e. frame_passes p others m (in_force ms m) frame) (λ e. refl)

-- a request that is not served is heard by no machine
pub request_passes : (p : Plain → Bool) (ms : Machines) (frame reply : List ℕ) → each p (asked frame) ≡ true
    → each p (heard_as ms (request frame reply)) ≡ true
request_passes p ms frame reply h =
    picked (λ cs. each p cs ≡ true) (served (ms node_alone 0).node frame reply) (asked frame) [] (λ e. h) (λ e. refl)

-- ---- "same node number"

-- no plain call changes it
pub node_number : (c : Plain) (n : Node) → (node_step c n).number ≡ n.number
unfolding next_node raise_node clear_node obey_node
node_number c n =
    picked Same (device_wide c) (node_by (bare n) c n) n
    (λ e. picked Same (accepted (bare n) c) (next_node c n) n (λ t. next c) (λ t. refl)) (λ e. refl)
  where
    Same : Node → Type 0
    Same x = x.number ≡ n.number

    obeyed : (code : ℕ) → Same (obey_node code n)
    obeyed code =
        picked Same (eqb code 1) _ _ (λ e. refl) (λ e. picked Same (eqb code 2) _ _ (λ e. refl)
        (λ e. picked Same (eqb code 128) _ _ (λ e. refl) (λ e. picked Same (eqb code 129) _ _ (λ e. refl)
        (λ e. picked Same (eqb code 130) _ _ (λ e. refl) (λ e. refl)))))

    next : (c : Plain) → Same (next_node c n)
    next (read index sub) = refl
    next (write index sub payload) = device_holds Same _ n refl (λ index. refl) (home_of index sub)
    next (sample digital analogue events) = refl
    next (command code to) = picked Same (addressed to n) _ n (λ e. obeyed code) (λ e. refl)
    next (raise Internal) = refl
    next (raise Lost) = picked Same n.lost n _ (λ e. refl) (λ e. refl)
    next (clear Internal) = refl
    next (clear Lost) = refl
    next (drive lines channels) = refl
    next (heartbeat node) = refl
    next (pass t) = refl

-- so after any list it is the one that the device was made with
pub after_number : (number : ℕ) (cs : List Call) → (after number cs watch 0).node.number ≡ number
after_number number cs =
    ap (λ (m : Node). m.number) (after_node number cs watch 0)
    ∙ fold_holds (λ (m : Node). m.number ≡ number) node_step (λ c m e. node_number c m ∙ e) (spoken (fresh_machines number) cs) _ refl
