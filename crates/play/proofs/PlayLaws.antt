-- A call that was answered and counted was played.
-- Assumes nothing.
use Rattle.std.proofs.Common.{◌≡◌, ℕ, ◌≤◌, not, eqb, List, length, drop, take_at, ℤ, sym, refl, ap, ◌∙◌, subst, arith}
use Rattle.std.proofs.Common.{Result, Ok, Err}
use Rattle.std.specs.List.{refill}
use Rattle.arrayvec.specs.ArrayVec.{ArrayVec}
use Rattle.profile.specs.Calls.{Call, Reply}
use Rattle.profile.specs.Refusals.{create_refusal, created_number}
use Rattle.profile.specs.Heard.{Machines, fresh_machines, step_all}
use Rattle.profile.specs.Replies.{reply}
use Rattle.profile.specs.Outcome.{Same}
use Rattle.device.specs.declared.Device.{Device}
use Rattle.profile.specs.declared.refusals.Refusal.{Refusal}
use Rattle.profile.specs.declared.ReadValue.{ReadValue}
use Rattle.profile.specs.Numbers.{number_answered}
use Rattle.profile.specs.Answers.{read_answer, sample_answer, drive_answer, buffer_answer}
use Rattle.device.specs.View.{machines_of}
use Rattle.device.specs.Promises.{CreatedAs, Ensured}
use Rattle.words.specs.Buffers.{put}
use Rattle.words.proofs.BufferLaws.{put_none, put_whole}
use Rattle.answers.specs.Answers.{plain_line}
use Rattle.answers.proofs.LengthLaws.{plain_short}
use Rattle.notation.specs.Meanings.{Meaning}
use Rattle.notation.specs.Meanings.Meaning.{nothing, create, call}
use Rattle.play.specs.declared.session.Session.{Session}
use Rattle.play.specs.Playing.{answer_for, answer_line}
use Rattle.play.specs.Transcripts.{counted}
use Rattle.play.specs.Sessions.{full, Aside, Counted, Played, PlayedWhole}

-- what a call left in a buffer's elements is what the buffer holds
pub lent_back : {A : Type 0} (held lent left shown : List A) → lent ≡ held → length left ≡ length lent
    → shown ≡ refill (length held) held left → shown ≡ left
lent_back held lent left shown e k s = s ∙ take_at left (drop (length left) held) (length held) (k ∙ ap length e)

-- the number of a call's answer is that of its reply
pub read_number : (a : Result ReadValue Refusal) → number_answered a ≡ (read_answer a).number
read_number (Ok v) = refl
read_number (Err r) = refl

pub sample_number : (a : Result ℕ Refusal) (shown : List ℕ) → number_answered a ≡ (sample_answer a shown).number
sample_number (Ok n) shown = refl
sample_number (Err r) shown = refl

pub drive_number : (a : Result (Unit {0}) Refusal) (bytes : List ℕ) (numbers : List ℤ)
    → number_answered a ≡ (drive_answer a bytes numbers).number
drive_number (Ok u) bytes numbers = refl
drive_number (Err r) bytes numbers = refl

pub buffer_number : (a : Result ℕ Refusal) (shown : List ℕ) → number_answered a ≡ (buffer_answer a shown).number
buffer_number (Ok n) shown = refl
buffer_number (Err r) shown = refl

-- the buffers that a reply shows are those that the call left
pub sample_shown : (a : Result ℕ Refusal) (shown : List ℕ) → (sample_answer a shown).bytes ≡ shown
sample_shown (Ok n) shown = refl
sample_shown (Err r) shown = refl

pub lines_shown : (a : Result (Unit {0}) Refusal) (bytes : List ℕ) (numbers : List ℤ) → (drive_answer a bytes numbers).bytes ≡ bytes
lines_shown (Ok u) bytes numbers = refl
lines_shown (Err r) bytes numbers = refl

pub channels_shown : (a : Result (Unit {0}) Refusal) (bytes : List ℕ) (numbers : List ℤ) → (drive_answer a bytes numbers).numbers ≡ numbers
channels_shown (Ok u) bytes numbers = refl
channels_shown (Err r) bytes numbers = refl

pub buffer_shown : (a : Result ℕ Refusal) (shown : List ℕ) → (buffer_answer a shown).bytes ≡ shown
buffer_shown (Ok n) shown = refl
buffer_shown (Err r) shown = refl

-- the session with other output
abbrev pub with_out : Session → ArrayVec ℕ → Session
with_out s out = record s { out = out }

pub same_aside : (s : Session) → Aside s s
same_aside s = record { lines = refl; line = refl; answer = refl; met = refl; unmet = refl }

pub not_played : (s : Session) → Played s nothing s
not_played s = record {
  machines = record { at = λ k i h. refl };
  answered = sym (put_none 8192 s.out.items);
  short = omega arith;
  calls = refl;
  refused = refl;
  unknown = refl;
  aside = same_aside s;
}

module _ (before : Session) (after : Session) where
  abbrev was : Machines
  was = machines_of before.device

  -- other output is none of what stays
  beside : {out : ArrayVec ℕ} → Aside (with_out before out) after → Aside before after
  beside a = record {
    lines = a.lines;
    line = a.line;
    answer = a.answer;
    met = a.met;
    unmet = a.unmet;
  }

  pub called : (c : Call) (r : Reply) (d : Device) (n : ℕ) (out : ArrayVec ℕ) → Ensured before.device c r d → n ≡ r.number
      → Counted (with_out before out) d n after → out.items ≡ put 8192 before.out.items (answer_line was c r)
      → length (answer_line was c r) ≤ 1024 → Played before (call c) after
  called c r d n out kept e k p b =
      let replied : r ≡ reply was c = kept.outcome.replied in
      record {
        machines = subst (λ (x : Device). Same (machines_of x) (step_all c was)) (sym k.device) kept.outcome.machines;
        answered = ap (λ (v : ArrayVec ℕ). v.items) k.out ∙ p ∙ ap (λ (x : Reply). put 8192 before.out.items (answer_line was c x)) replied;
        short = subst (λ (x : Reply). length (answer_line was c x) ≤ 1024) replied b;
        calls = k.calls;
        refused = k.refused ∙ ap (λ x. counted (not (eqb x 0)) before.refused) (e ∙ ap (λ (x : Reply). x.number) replied);
        unknown = k.unknown;
        aside = beside k.aside;
      }

  pub created : (node : ℕ) (answer : Result (Unit {0}) Refusal) (d : Device) (out : ArrayVec ℕ) → CreatedAs node answer d
      → Counted (with_out before out) d (number_answered answer) after
      → out.items ≡ put 8192 before.out.items (plain_line (number_answered answer)) → Played before (create node) after
  created node answer d out o k p =
      record {
        machines = subst (λ (x : Device). Same (machines_of x) (fresh_machines (created_number node))) (sym k.device) o.machines;
        answered = ap (λ (v : ArrayVec ℕ). v.items) k.out ∙ p ∙ ap (λ n. put 8192 before.out.items (plain_line n)) o.numbered;
        short = plain_short (create_refusal node);
        calls = k.calls;
        refused = k.refused ∙ ap (λ n. counted (not (eqb n 0)) before.refused) o.numbered;
        unknown = k.unknown;
        aside = beside k.aside;
      }

  -- where the output has a kilobyte left, the answer stands behind it whole
  pub whole : (m : Meaning) → length before.out.items ≤ full → Played before m after → PlayedWhole before m after
  whole m h p = record {
    played = p;
    text = p.answered ∙ put_whole 8192 before.out.items (answer_for before.lines was m) (omega (arith, h, p.short));
  }

-- a call with its buffers, whatever it answers
pub ruleset calls = (
  called,
  lent_back,
  read_number,
  sample_number,
  sample_shown,
  drive_number,
  lines_shown,
  channels_shown,
  buffer_number,
  buffer_shown,
)
