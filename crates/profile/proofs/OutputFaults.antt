-- Document 02, Item 6: what an output line drives as fault begins, lasts and ends, at every call.
-- Assumes nothing.
use mathlib.Core.Path.{◌≡◌, refl, ap, ap₂, ◌∙◌, sym, subst}
use mathlib.Core.Bool.{Bool, true, false, ◌&&◌, false≢true}
use mathlib.Core.List.{List, [], ◌∷◌}
use Prim.Native.Nat.{ℕ}
use lib.Dec.{eqb}
use borrow.Author.Tests.{eqb-true}
use Rattle.profile.specs.declared.Node.{Node}
use Rattle.profile.specs.declared.Cause.TheVariants.{Lost}
use Rattle.profile.specs.Bits.{bit_at}
use Rattle.profile.specs.Bytes.{little_endian}
use Rattle.profile.specs.Nodes.{fault, addressed, obey_node, command_node}
use Rattle.profile.specs.Entries.{home_of, bit_of}
use Rattle.profile.specs.MappedEntries.{received, moves}
use Rattle.profile.specs.Calls.{Plain, read, write, sample, command, raise, clear, drive, heartbeat, pass}
use Rattle.profile.specs.Calls.{direct, receive, transmit, request, elapsed}
use Rattle.profile.specs.Server.{asked}
use Rattle.profile.specs.OutputLine.{OutputLine, write_output_line, move_output_line}
use Rattle.profile.specs.Watch.{is_due}
use Rattle.profile.specs.Machines.{node_alone, output_line, watch, Machine, next_own, next, step}
use Rattle.profile.specs.NodeAlone.{next_node}
use Rattle.profile.specs.Heard.{fold, in_force, frame_writes, served}
use Rattle.profile.specs.OutputClaims.{ByFault, DrivenByFault}
use Rattle.profile.proofs.BoolLaws.{both, picked}
use Rattle.profile.proofs.HomeLaws.{window_holds}
use Rattle.profile.proofs.StepLaws.{cond_same, step_holds}
use Rattle.profile.proofs.OutputsFollow.{LineFollows, write_fault}
use Rattle.profile.proofs.ServerLaws.{Asked, none, one, asked_once}
use Rattle.profile.proofs.WatchHeard.{elapsed_other}

-- ---- a call that neither begins nor ends fault, and in fault leaves d

record Quiet (m x : Machine output_line) : Type 0 where
  fault_same : fault x.node ≡ fault m.node
  driven_same : fault m.node ≡ true → x.own.driven ≡ m.own.driven

same : (m : Machine output_line) → Quiet m m
same m = record { fault_same = refl; driven_same = λ h. refl }

quiet_then : {m x y : Machine output_line} → Quiet m x → Quiet x y → Quiet m y
quiet_then p q =
    record {
      fault_same = q.fault_same ∙ p.fault_same;
      driven_same = λ h. q.driven_same (p.fault_same ∙ h) ∙ p.driven_same h;
    }

quiet_by : {m x : Machine output_line} → Quiet m x → ByFault m x
quiet_by q =
    record {
      begins = λ h g. absurd (false≢true (sym h ∙ sym q.fault_same ∙ g));
      lasts = λ h g. q.driven_same h;
      ends = λ h g. absurd (false≢true (sym g ∙ q.fault_same ∙ h));
    }

-- a write in fault
write_leaves : (row : ℕ) (b : Bool) (o : OutputLine) → (write_output_line true row b o).driven ≡ o.driven
unfolding write_output_line
write_leaves row b o =
    picked Same (eqb row 6) _ _ (λ e. picked Same o.mask _ o (λ t. refl) (λ t. refl))
    (λ e. picked Same (eqb row 7) _ _ (λ t. refl) (λ t. refl))
  where
    Same : OutputLine → Type 0
    Same x = x.driven ≡ o.driven

write_next : (i index sub : ℕ) (payload : List ℕ) (m : Machine output_line) → Quiet m (next output_line i (write index sub payload) m)
unfolding next next_node next_own
write_next i index sub payload m =
    let v = little_endian payload in
    record {
      fault_same = write_fault (home_of index sub) v m.node;
      driven_same = λ h.
          window_holds (λ (o : OutputLine). o.driven ≡ m.own.driven)
          (λ row w s. write_output_line (fault m.node) row (bit_at v (bit_of w s i)) m.own) m.own refl
          (λ row w s. rw h (write_leaves row (bit_at v (bit_of w s i)) m.own)) (home_of index sub);
    }

write_quiet : (i index sub : ℕ) (payload : List ℕ) (m : Machine output_line) → Quiet m (step output_line i (write index sub payload) m)
write_quiet i index sub payload m = step_holds (Quiet m) i _ m (same m) (λ h t. write_next i index sub payload m)

frame_quiet : (i map : ℕ) (vs frame : List ℕ) (m : Machine output_line) → Quiet m (fold (step output_line i) m (frame_writes map vs frame))
frame_quiet i map [] frame m = same m
frame_quiet i map (v ∷ vs) frame m =
    picked (λ cs. Quiet m (fold (step output_line i) m cs)) (moves map v) _ (frame_writes map vs _)
    (λ e. quiet_then (write_quiet i _ _ _ m) (frame_quiet i map vs _ _)) (λ e. frame_quiet i map vs _ m)

-- ---- a call that fault may begin or end by

moved_by : (m x : Machine output_line) → x.own ≡ move_output_line (fault m.node) (fault x.node) m.own → ByFault m x
unfolding move_output_line
moved_by m x e =
    record {
      begins = λ h g. at false true h g;
      lasts = λ h g. ap (λ (o : OutputLine). o.driven) (at true true h g);
      ends = λ h g. subst LineFollows (sym (at true false h g)) refl;
    }
  where
    at : (a b : Bool) → fault m.node ≡ a → fault x.node ≡ b → x.own ≡ move_output_line a b m.own
    at a b h g = e ∙ ap₂ (λ (p q : Bool). move_output_line p q m.own) h g

-- "129 reset node (a fresh device, same node number)": no fault
reset_ends : (code to : ℕ) (n : Node) → addressed to n && eqb code 129 ≡ true → fault (command_node code to n) ≡ false
unfolding fault obey_node
reset_ends code to n h =
    let q = both (addressed to n) (eqb code 129) h in
    rw (q.0, eqb-true code 129 q.1) refl

command_by : (i code to : ℕ) (m : Machine output_line) → ByFault m (next output_line i (command code to) m)
unfolding next next_node next_own
command_by i code to m =
    let after = command_node code to m.node in
    picked (λ (o : OutputLine). ByFault m (record { node = after; own = o })) (addressed to m.node && eqb code 129) _ _
    (λ e. record {
      begins = λ h g. absurd (false≢true (sym (reset_ends code to m.node e) ∙ g));
      lasts = λ h g. absurd (false≢true (sym (reset_ends code to m.node e) ∙ g));
      ends = λ h g. refl;
    })
    (λ e. moved_by m _ (ap (move_output_line (fault m.node) (fault after)) (cond_same _ m.own)))

next_by : (i : ℕ) (c : Plain) (m : Machine output_line) → ByFault m (next output_line i c m)
unfolding next next_node next_own
next_by i (read index sub) m = quiet_by (record { fault_same = refl; driven_same = λ h. rw cond_same refl })
next_by i (write index sub payload) m = quiet_by (write_next i index sub payload m)
next_by i (sample digital analogue events) m = quiet_by (same m)
next_by i (command code to) m = command_by i code to m
next_by i (raise cause) m = moved_by m _ refl
next_by i (clear cause) m = moved_by m _ refl
next_by i (drive lines channels) m = quiet_by (same m)
next_by i (heartbeat node) m = quiet_by (same m)
next_by i (pass t) m = quiet_by (same m)

plain_by : (i : ℕ) (c : Plain) (m : Machine output_line) → ByFault m (step output_line i c m)
plain_by i c m = step_holds (ByFault m) i c m (quiet_by (same m)) (λ h t. next_by i c m)

-- ---- any call

-- that are these plain calls to the line
abbrev AfterAll : ℕ → Machine output_line → List Plain → Type 0
AfterAll i m cs = ByFault m (fold (step output_line i) m cs)

-- a request asks for one plain call, or for none
request_by : (i : ℕ) (cs : List Plain) (m : Machine output_line) → Asked cs → AfterAll i m cs
request_by i cs m (none e) = rw e (quiet_by (same m))
request_by i cs m (one c e) = rw e (plain_by i c m)

pub driven_by_fault : DrivenByFault
driven_by_fault ms (direct c) i = plain_by i c (ms output_line i)
driven_by_fault ms (receive message frame) i =
    let m = ms output_line i in
    let n = received message in
    picked (AfterAll i m) _ (frame_writes n (in_force ms n) frame) [] (λ e. quiet_by (frame_quiet i n (in_force ms n) frame m))
    (λ e. quiet_by (same m))
driven_by_fault ms (transmit message frame) i = quiet_by (same (ms output_line i))
driven_by_fault ms (request frame reply) i =
    let m = ms output_line i in
    picked (AfterAll i m) (served (ms node_alone 0).node frame reply) (asked frame) [] (λ e. request_by i (asked frame) m (asked_once frame))
    (λ e. quiet_by (same m))
driven_by_fault ms (elapsed t) i =
    let m = ms output_line i in
    subst (ByFault m) (sym (elapsed_other ms t output_line i (λ e. cc)))
    (picked (ByFault m) (is_due t (ms watch 0).own) (step output_line i (raise Lost) m) m
    (λ e. plain_by i (raise Lost) m) (λ e. quiet_by (same m)))
