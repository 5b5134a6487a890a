-- Document 02, Item 5: what the machines other than the watch hear of an elapsed call and of a heartbeat.
-- Assumes nothing.
use mathlib.Core.Path.{◌≡◌, ap, ◌∙◌, sym}
use mathlib.Core.Bool.{Bool, true, false, cond}
use mathlib.Core.List.{List, [], ◌∷◌, ◌++◌, map}
use Prim.Native.Nat.{ℕ, ◌<◌}
use lib.Seq.{ext_get_or}
use Rattle.profile.specs.declared.Cause.TheVariants.{Lost}
use Rattle.profile.specs.WatchEntries.{Watch, waiting, watch_at, watches}
use Rattle.profile.specs.Watch.{expires, is_due, take_heartbeat}
use Rattle.profile.specs.Calls.{raise, pass}
use Rattle.profile.specs.Calls.{Call, direct, elapsed, heartbeat}
use Rattle.profile.specs.Machines.{Kind, watch, step}
use Rattle.profile.specs.Heard.{Machines, fold, step_all}
use Rattle.profile.specs.Lists.{after}
use Rattle.profile.specs.WatchClaims.{HeardAsRaise, HeartbeatHeard}
use Rattle.profile.proofs.AppendLaws.{after_append}
use Rattle.profile.proofs.StepLaws.{made, of_heartbeat, of_pass, watch_hears, unheard}
use Rattle.profile.proofs.WatchLaws.{some_at, some_none, reaching_expires, short_stays, heartbeat_entry}
use Rattle.profile.proofs.WatchSound.{watch_sound}
use lib.ListN.{length, length-map}

-- ---- "The machines hear an expiry as a raise"

pub elapsed_other : (ms : Machines) (t : ℕ) (k : Kind) (i : ℕ) → (k ≡ watch → ⊥)
    → step_all (elapsed t) ms k i ≡ cond (is_due t (ms watch 0).own) (step k i (raise Lost) (ms k i)) (ms k i)
elapsed_other ms t k i ne = by (is_due t (ms watch 0).own)
  where
    passed : step k i (pass t) (ms k i) ≡ ms k i
    passed = unheard (of_pass t) k i (ms k i) ne

    by : (b : Bool) → fold (step k i) (step k i (pass t) (ms k i)) (cond b (raise Lost ∷ []) [])
        ≡ cond b (step k i (raise Lost) (ms k i)) (ms k i)
    by true = ap (step k i (raise Lost)) passed
    by false = passed

pub heard_as_raise : HeardAsRaise
unfolding is_due
heard_as_raise number cs t k i ne =
    record {
      due = λ n l r.
          at (elapsed t) ∙ heard
          ∙ chosen true (some_at 4 (λ j. expires t (watch_at entries j)) n l (reaching_expires t (watch_at entries n) r))
          ∙ sym (at (direct (raise Lost)));
      not_due = λ none.
          at (elapsed t) ∙ heard
          ∙ chosen false (some_none 4 (λ j. expires t (watch_at entries j)) (λ j l. short_stays t (watch_at entries j) (none j l)));
    }
  where
    entries : List Watch
    entries = (after number cs watch 0).own

    at : (c : Call) → after number (cs ++ c ∷ []) k i ≡ step_all c (after number cs) k i
    at c = ap (λ (ms : Machines). ms k i) (after_append number cs (c ∷ []))

    heard : step_all (elapsed t) (after number cs) k i
        ≡ cond (is_due t (after number cs watch 0).own) (step k i (raise Lost) (after number cs k i)) (after number cs k i)
    heard = elapsed_other (after number cs) t k i ne

    chosen : (b : Bool) → is_due t (after number cs watch 0).own ≡ b
        → cond (is_due t (after number cs watch 0).own) (step k i (raise Lost) (after number cs k i)) (after number cs k i)
        ≡ cond b (step k i (raise Lost) (after number cs k i)) (after number cs k i)
    chosen b e = ap (λ (x : Bool). cond x (step k i (raise Lost) (after number cs k i)) (after number cs k i)) e

-- ---- "one from a node no entry names does nothing"

-- entries of which none names the node stay
unnamed_left : (node : ℕ) (ws : List Watch) → length ws ≡ 4 → ((n : ℕ) → n < 4 → watches node (watch_at ws n).value ≡ false)
    → map (take_heartbeat node) ws ≡ ws
unfolding take_heartbeat
unnamed_left node ws four h =
    ext_get_or (waiting 0) (map (take_heartbeat node) ws) ws (length-map ws (take_heartbeat node))
    (λ n l. heartbeat_entry node ws n
    ∙ ap (λ (b : Bool). cond b (record { value = (watch_at ws n).value; started = true; sum = 0 }) (watch_at ws n))
    (h n (rw (length-map ws (take_heartbeat node) ∙ four) at l)))

pub heartbeat_heard : HeartbeatHeard
heartbeat_heard number cs node =
    record {
      others = λ k i ne. at k i ∙ unheard (of_heartbeat node) k i (after number cs k i) ne;
      unnamed = λ h.
          let x = after number cs watch 0 in
          at watch 0 ∙ watch_hears (of_heartbeat node) x ∙ ap (made watch x.node) (unnamed_left node x.own (watch_sound number cs).four h);
    }
  where
    at : (k : Kind) (i : ℕ) → after number (cs ++ direct (heartbeat node) ∷ []) k i ≡ step k i (heartbeat node) (after number cs k i)
    at k i = ap (λ (ms : Machines). ms k i) (after_append number cs (direct (heartbeat node) ∷ []))
