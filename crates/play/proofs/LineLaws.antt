-- A line of a list: what was put for it is held as the last answer line, and an expected answer is compared with it.
-- Assumes nothing.
use Rattle.std.proofs.Common.{◌≡◌, ℕ, ◌+◌, ◌-◌, ◌<◌, ◌≤◌, Bool, true, false, cond, ◌&&◌, leb, List, [], length, take, drop, sym}
use Rattle.std.proofs.Common.{refl, ap, ◌∙◌, subst, append-nil, arith, length-drop, length-take, drop_at, le-ltb, lt-ltb, eq-eqb}
use Rattle.std.proofs.Common.{ne_eqb, leb-true, ◌++◌, length-append}
use native.Mathlib.Nat.{min-le_left}
use lib.Seq.{take_all}
use Rattle.arrayvec.specs.ArrayVec.{ArrayVec}
use Rattle.profile.specs.Outcome.{Same}
use Rattle.device.specs.declared.Device.{Device}
use Rattle.device.specs.View.{machines_of}
use Rattle.words.specs.Buffers.{put}
use Rattle.words.proofs.BufferLaws.{put_then, put_whole}
use Rattle.answers.specs.Answers.{unmet_line, totals_text, judged_text}
use Rattle.answers.proofs.LengthLaws.{unmet_short, totals_short, judged_short}
use Rattle.words.specs.declared.Expected.TheVariants as Ex
use Rattle.words.proofs.ExpectationLaws.{expected_short}
use Rattle.words.specs.Expectations.{is_expectation, expected_of, is_as_expected}
use Rattle.notation.specs.Meanings.{Meaning, meaning_of}
use Rattle.notation.specs.Meanings.Meaning.{unknown}
use Rattle.play.specs.declared.session.Session.{Session}
use Rattle.play.specs.Playing.{answer_for, machines_for, Line, says, expects, short_meaning, line_of, is_first, newer}
use Rattle.play.proofs.PlayLaws.{whole}
use Rattle.play.specs.Transcripts.{counted}
use Rattle.play.specs.Sessions.{full, Played, PlayedWhole, Remembered, Answered}

-- what was put behind the output from a place on is held without its last byte, a newline
pub remembered : (before : Session) (from : ℕ) (out held : List ℕ) → out ≡ before.out.items → from ≤ length before.out.items
    → length before.out.items ≤ from + 1024 → 1 ≤ length (take (length out - from) (drop from out))
    → held ≡ put 1024 [] (take (length (take (length out - from) (drop from out)) - 1) (take (length out - from) (drop from out)))
    → held ≡ newer before.answer.items (drop from before.out.items)
remembered before from out held o h k some p =
    let text = drop from out in
    let line = take (length text - 1) text in
    let all = take_all (length out - from) text (omega (arith, length-drop from out)) in
    let short : 0 + length line ≤ 1024 =
    omega (arith, length-take (length text - 1) text, length-drop from out, ap length o, k, min-le_left (length text - 1) (length text)) in
    let other = ne_eqb (length text) 0 (omega (arith, ap length all, some)) in
    p ∙ ap (λ (l : List ℕ). put 1024 [] (take (length l - 1) l)) all ∙ put_whole 1024 [] line short
    ∙ sym (ap (λ (b : Bool). cond b before.answer.items line) other)
    ∙ ap (λ (l : List ℕ). newer before.answer.items (drop from l)) o

-- ---- what a line gets

-- a session that compared
abbrev with_met : Session → ℕ → Session
with_met s n = record s { met = n }

abbrev with_unmet : Session → ℕ → ArrayVec ℕ → Session
with_unmet s n out = record s { unmet = n; out = out }

-- a call, or a line that is none: its answer is held
pub answered_call : (before played after : Session) (m : Meaning) → PlayedWhole before m played
    → Remembered played (length before.out.items) after → Answered before (says m) after
answered_call before played after m p r =
    let q = p.played in
    let text = answer_for before.lines (machines_of before.device) m in
    let there : drop (length before.out.items) played.out.items ≡ text =
    ap (drop (length before.out.items)) p.text ∙ drop_at before.out.items text (length before.out.items) refl in
    record {
      machines = subst (λ (x : Device). Same (machines_of x) (machines_for (machines_of before.device) m))
          (sym (ap (λ (s : Session). s.device) r)) q.machines;
      text = ap (λ (s : Session). s.out.items) r ∙ p.text;
      short = omega (arith, q.short);
      last = ap (λ (s : Session). s.answer.items) r ∙ ap (newer played.answer.items) there
          ∙ ap (λ (v : ArrayVec ℕ). newer v.items text) q.aside.answer;
      calls = ap (λ (s : Session). s.calls) r ∙ q.calls;
      refused = ap (λ (s : Session). s.refused) r ∙ q.refused;
      unknown = ap (λ (s : Session). s.unknown) r ∙ q.unknown;
      met = ap (λ (s : Session). s.met) r ∙ q.aside.met;
      unmet = ap (λ (s : Session). s.unmet) r ∙ q.aside.unmet;
      lines = ap (λ (s : Session). s.lines) r ∙ q.aside.lines;
      line = ap (λ (s : Session). s.line) r ∙ q.aside.line;
    }

-- a line that is too long, and one that is not
module _ (before : Session) (text : List ℕ) (after : Session) where
  pub long_line : 1024 < length text → Played before (unknown Ex.Shorter) after → length before.out.items ≤ full
      → PlayedWhole before (short_meaning text) after
  long_line l p h =
      subst (λ (b : Bool). PlayedWhole before (cond b (unknown Ex.Shorter) (meaning_of text)) after)
      (sym (lt-ltb 1024 (length text) l)) (whole before after (unknown Ex.Shorter) h p)

  pub short_line : length text ≤ 1024 → PlayedWhole before (meaning_of text) after → PlayedWhole before (short_meaning text) after
  short_line l p =
      subst (λ (b : Bool). PlayedWhole before (cond b (unknown Ex.Shorter) (meaning_of text)) after)
      (sym (le-ltb 1024 (length text) l)) p

-- a line that says what is expected, and one that does not
pub short_enough : (text : List ℕ) (r : Bool) → (leb (length text) 1024 && r) ≡ true → length text ≤ 1024
short_enough text r t = leb-true (length text) 1024 (both (leb (length text) 1024) t)
  where
    both : (b : Bool) → (b && r) ≡ true → b ≡ true
    both true t = refl
    both false t = t

module _ (before : Session) (text : List ℕ) (after : Session) (r : Bool) (e : r ≡ is_expectation text) where
  line_is : (b : Bool) → (leb (length text) 1024 && r) ≡ b → cond b (expects (expected_of text)) (says (short_meaning text)) ≡ line_of text
  line_is b t =
      ap (λ (x : Bool). cond x (expects (expected_of text)) (says (short_meaning text))) (sym t ∙ ap (λ (x : Bool). leb
      (length text) 1024 && x) e)

  pub line_expects : (expected : List ℕ) → (leb (length text) 1024 && r) ≡ true → expected ≡ expected_of text
      → Answered before (expects expected) after → Answered before (line_of text) after
  line_expects expected t f a = subst (λ (l : Line). Answered before l after) (ap expects f ∙ line_is true t) a

  pub line_says : (leb (length text) 1024 && r) ≡ false → Answered before (says (short_meaning text)) after
      → Answered before (line_of text) after
  line_says t a = subst (λ (l : Line). Answered before l after) (line_is false t) a

-- an expected answer
module _ (before : Session) (text : List ℕ) where
  pub compared_first : (after : Session) → length before.answer.items ≡ 0 → Played before (unknown Ex.Answer) after
      → length before.out.items ≤ full → Answered before (expects text) after
  compared_first after e p h =
      let first = eq-eqb (length before.answer.items) 0 e in
      record {
        machines = p.machines;
        text = rw first (whole before after (unknown Ex.Answer) h p).text;
        short = rw first (omega (arith, p.short));
        last = ap (λ (v : ArrayVec ℕ). v.items) p.aside.answer;
        calls = p.calls;
        refused = p.refused;
        unknown = rw first p.unknown;
        met = rw first p.aside.met;
        unmet = rw first p.aside.unmet;
        lines = p.aside.lines;
        line = p.aside.line;
      }

  module _ (some : length before.answer.items ≡ 0 → ⊥) where
    other : is_first before.answer.items ≡ false
    other = ne_eqb (length before.answer.items) 0 some

    -- it came
    pub compared_met : (n : ℕ) → is_as_expected before.answer.items text ≡ true → n ≡ counted true before.met
        → Answered before (expects text) (with_met before n)
    compared_met n e c =
        record {
          machines = record { at = λ k i h. refl };
          text = rw (other, e) (sym (append-nil before.out.items));
          short = rw (other, e) (omega arith);
          last = refl;
          calls = refl;
          refused = refl;
          unknown = rw other refl;
          met = rw (other, e) c;
          unmet = rw (other, e) refl;
          lines = refl;
          line = refl;
        }

    -- it did not come
    pub compared_unmet : (n : ℕ) (out : ArrayVec ℕ) → is_as_expected before.answer.items text ≡ false → n ≡ counted true before.unmet
        → out.items ≡ put 8192 before.out.items (unmet_line before.lines text) → length text ≤ 1024 → length before.out.items ≤ full
        → Answered before (expects text) (with_unmet before n out)
    compared_unmet n out e c p k h =
        let few = unmet_short before.lines text k in
        let all = put_whole 8192 before.out.items (unmet_line before.lines text) (omega (arith, few, h)) in
        record {
          machines = record { at = λ k i h. refl };
          text = rw (other, e) (p ∙ all);
          short = rw (other, e) few;
          last = refl;
          calls = refl;
          refused = refl;
          unknown = rw other refl;
          met = rw (other, e) refl;
          unmet = rw (other, e) c;
          lines = refl;
          line = refl;
        }

-- ---- the end

-- the totals stand behind the output
pub ended : (s : Session) (between left : List ℕ) → length s.out.items ≤ full
    → between ≡ put 8192 s.out.items (totals_text s.calls s.refused s.unknown) → left ≡ put 8192 between (judged_text s.met s.unmet)
    → left ≡ s.out.items ++ (totals_text s.calls s.refused s.unknown ++ judged_text s.met s.unmet)
ended s between left h p q =
    let totals = totals_text s.calls s.refused s.unknown in
    let judged = judged_text s.met s.unmet in
    let short = totals_short s.calls s.refused s.unknown in
    let whole = put_whole 8192 s.out.items (totals ++ judged)
    (omega (arith, length-append totals judged, short, judged_short s.met s.unmet, h)) in
    q ∙ ap (λ (l : List ℕ). put 8192 l judged) p ∙ put_then 8192 s.out.items totals judged ∙ whole

-- a line that is a call, or is compared
pub ruleset lines = (answered_call, short_enough, line_expects, line_says, expected_short)
