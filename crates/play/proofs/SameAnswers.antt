-- What a line gets goes by the machines of the device alone: two families that are the same give the same.
-- Assumes nothing.
use Rattle.std.proofs.Common.{◌≡◌, ℕ, ◌+◌, List, length, not, eqb, refl, ap, ◌∙◌, arith}
use mathlib.Core.Path.{ap₂}
use Rattle.std.specs.Prelude.{nat_le}
use Rattle.profile.specs.declared.Home.{Home}
use Rattle.profile.specs.declared.Home.TheVariants.{Constant, Window, InputChannel, OutputChannel, Sources, Device}
use Rattle.profile.specs.declared.Home.TheVariants.{MappingEntry, WatchEntry}
use Rattle.profile.specs.Entries.{Entry, entry_of, home_of, first_line}
use Rattle.profile.specs.OutputLine.{read_output_line}
use Rattle.profile.specs.Nodes.{stopped, operational, fault, addressed}
use Rattle.profile.specs.MappedEntries.{received, total, listed}
use Rattle.profile.specs.Watch.{is_due, is_watched, any_started}
use Rattle.profile.specs.Machines.{Machine, node_alone, output_line, mapping, watch}
use Rattle.profile.specs.Calls.{Plain, read, write, sample, command, raise, clear, drive, heartbeat, pass}
use Rattle.profile.specs.Calls.{Call, direct, receive, transmit, request, elapsed, Reply}
use Rattle.profile.specs.Heard.{Machines}
use Rattle.profile.specs.Replies.{row_bit, read_value, reply}
use Rattle.profile.specs.Outcome.{Same}
use Rattle.profile.proofs.BitLaws.{gather_cong}
use Rattle.profile.proofs.EntryRanges.{InRange, in_range}
use Rattle.profile.proofs.ReplyLaws.{window_below, received_below, reply_cong}
use Rattle.profile.proofs.ListTheorem.{step_same}
use Rattle.device.specs.Conditions.{masks_at, masks_of}
use Rattle.answers.specs.declared.remarks.Before.{Before}
use Rattle.answers.specs.Remarks.{value_in}
use Rattle.answers.specs.Answers.{write_line, command_line, receive_line, frame_line, heartbeat_line, elapsed_line}
use Rattle.frame_answers.specs.FrameAnswers.{index_asked, sub_asked, reply_line}
use Rattle.notation.specs.Meanings.{Meaning}
use Rattle.notation.specs.Meanings.Meaning.{nothing, unknown, create, call}
use Rattle.play.specs.Playing.{before_write, direct_line, answer_line, answer_for, machines_for, is_refused, Line, says, expects, newer}
use Rattle.play.specs.Playing.{line_answer, last_after, machines_after, counts_as_refused}

module _ (a b : Machines) (same : Same a b) where
  node_lem : a node_alone 0 ≡ b node_alone 0
  node_lem = same.at node_alone 0 (omega arith)

  watch_lem : a watch 0 ≡ b watch 0
  watch_lem = same.at watch 0 (omega arith)

  -- ---- what a remark on a write goes by

  masks_same : (e : Entry) (h : Home) → InRange e h → masks_at a h ≡ masks_at b h
  unfolding read_value
  masks_same e (Constant v) r = refl
  masks_same e (Window row w s) r =
      gather_cong w (λ k. row_bit 10 a (first_line w s + k)) (λ k. row_bit 10 b (first_line w s + k))
      (λ k l. ap (λ (m : Machine output_line). read_output_line 10 m.own) (same.at output_line (first_line w s + k) (window_below r k l)))
  masks_same e (InputChannel index n) r = refl
  masks_same e (OutputChannel index n) r = refl
  masks_same e Sources r = refl
  masks_same e (Device index) r = refl
  masks_same e (MappingEntry m sub) r = refl
  masks_same e (WatchEntry n) r = refl

  before_same : (index sub : ℕ) → before_write a index sub ≡ before_write b index sub
  unfolding masks_of
  before_same index sub =
      ap₂ (λ (masks : ℕ) (m : Machine node_alone). record { masks = masks; fault = fault m.node })
      (masks_same (entry_of index sub) (home_of index sub) (in_range index sub)) node_lem

  -- ---- the answer line of a call, one clause for each

  direct_same : (c : Plain) (r : Reply) → direct_line a c r ≡ direct_line b c r
  direct_same (read index sub) r = refl
  direct_same (write index sub bytes) r = ap (write_line r.number (value_in index sub bytes) index sub) (before_same index sub)
  direct_same (sample digital analogue events) r = refl
  direct_same (command code node) r = ap (λ (m : Machine node_alone). command_line r.number (addressed node m.node)) node_lem
  direct_same (raise cause) r = refl
  direct_same (clear cause) r = refl
  direct_same (drive lines channels) r = refl
  direct_same (heartbeat node) r = ap (λ (m : Machine watch). heartbeat_line r.number (is_watched node m.own)) watch_lem
  direct_same (pass t) r = refl

  line_same : (c : Call) (r : Reply) → answer_line a c r ≡ answer_line b c r
  line_same (direct c) r = direct_same c r
  line_same (receive message frame) r =
      ap₂ (λ (x : Machine node_alone) (y : Machine mapping).
      receive_line r.number (operational x.node) (nat_le (total (received message) (listed y.own)) (length frame)))
      node_lem (same.at mapping (received message) (received_below message))
  line_same (transmit message frame) r = ap (λ (m : Machine node_alone). frame_line r.number r.bytes r.count (operational m.node)) node_lem
  line_same (request frame buffer) r =
      ap₂ (λ (m : Machine node_alone) (x : Before). reply_line r.number frame r.bytes r.count (stopped m.node) x)
      node_lem (before_same (index_asked frame) (sub_asked frame))
  line_same (elapsed t) r = ap (λ (m : Machine watch). elapsed_line r.number (is_due t m.own) (any_started m.own)) watch_lem

  -- ---- a line of a number

  meaning_same : (n : ℕ) (m : Meaning) → answer_for n a m ≡ answer_for n b m
  meaning_same n nothing = refl
  meaning_same n (unknown e) = refl
  meaning_same n (create node) = refl
  meaning_same n (call c) = line_same c (reply a c) ∙ ap (answer_line b c) (reply_cong a b same c)

  refused_same : (m : Meaning) → is_refused a m ≡ is_refused b m
  refused_same nothing = refl
  refused_same (unknown e) = refl
  refused_same (create node) = refl
  refused_same (call c) = ap (λ (r : Reply). not (eqb r.number 0)) (reply_cong a b same c)

  steps_same : (m : Meaning) → Same (machines_for a m) (machines_for b m)
  steps_same nothing = same
  steps_same (unknown e) = same
  steps_same (create node) = record { at = λ k i h. refl }
  steps_same (call c) = step_same c same

  pub answer_same : (n : ℕ) (last : List ℕ) (l : Line) → line_answer n last a l ≡ line_answer n last b l
  answer_same n last (says m) = meaning_same n m
  answer_same n last (expects text) = refl

  pub last_same : (n : ℕ) (last : List ℕ) (l : Line) → last_after n last a l ≡ last_after n last b l
  last_same n last (says m) = ap (newer last) (meaning_same n m)
  last_same n last (expects text) = refl

  pub counts_same : (l : Line) → counts_as_refused a l ≡ counts_as_refused b l
  counts_same (says m) = refused_same m
  counts_same (expects text) = refl

  pub machines_same : (l : Line) → Same (machines_after a l) (machines_after b l)
  machines_same (says m) = steps_same m
  machines_same (expects text) = same
