-- Bytes fed to a session, a line or a byte at a time: it stands where the list does, and their texts are written or wait.
-- Assumes nothing.
use Rattle.std.proofs.Common.{◌≡◌, ℕ, ◌+◌, ◌<◌, ◌≤◌, Bool, true, false, cond, ltb, List, [], ◌∷◌, ◌++◌, length, take, get_or}
use Rattle.std.proofs.Common.{refl, sym, ap, ◌∙◌, subst}
use Rattle.std.proofs.lemmas.List.{take_more}
use Rattle.std.proofs.Common.{append_assoc, append-nil, eq-eqb, ne_eqb, Result}
use Rattle.std.specs.Io.KnownBytes.{append_known, Appends}
use Rattle.std.proofs.KnownBytes.{Appends-nil, Appends-trans, Appends-kept, Keeps-refl, append_known-grown}
use Rattle.arrayvec.specs.ArrayVec.{ArrayVec}
use Rattle.std.specs.declared.option.Option.{Option}
use Rattle.profile.specs.Outcome.{Same}
use Rattle.profile.proofs.ListTheorem.{same_trans}
use Rattle.device.specs.View.{machines_of}
use Rattle.play.specs.declared.failure.Failure.{Failure}
use Rattle.play.specs.declared.session.Session.{Session}
use Rattle.play.specs.Playing.{Line, without_mark, line_of, line_answer, last_after, machines_after}
use Rattle.play.specs.Playing.{counts_as_call, counts_as_refused, counts_as_unknown, counts_as_met, counts_as_unmet}
use Rattle.play.specs.Transcripts.{counted, held_more, Player, line_held, ended_text, after_line}
use Rattle.play.specs.Transcripts.{byte_text, after_byte, texts, after_bytes}
use Rattle.play.specs.Sessions.{full, Answered, with_line, begun, held_line, LinePlayed, LastPlayed, Plays, Fed, OrUnwritten}
use Rattle.play.proofs.OutputLaws.{or_weaker, room_plays, room_text, room_made}
use Rattle.play.proofs.SameAnswers.{answer_same, last_same, counts_same, machines_same}

-- ---- bytes one after the other

pub after_append : (xs ys : List ℕ) (p : Player) → after_bytes p (xs ++ ys) ≡ after_bytes (after_bytes p xs) ys
after_append [] ys p = refl
after_append (x ∷ xs) ys p = after_append xs ys (after_byte p x)

pub texts_append : (xs ys : List ℕ) (p : Player) → texts p (xs ++ ys) ≡ texts p xs ++ texts (after_bytes p xs) ys
texts_append [] ys p = refl
texts_append (x ∷ xs) ys p =
    ap (λ (t : List ℕ). byte_text p x ++ t) (texts_append xs ys (after_byte p x))
    ∙ sym (append_assoc (byte_text p x) (texts (after_byte p x) xs) (texts (after_bytes (after_byte p x) xs) ys))

pub fed_none : (w : Option (List ℕ)) (s : Session) → length s.out.items ≤ full → Fed w s [] w s
fed_none w s h = record { plays = λ p q. q; text = λ p q. Appends-nil (append_known w s.out.items); room = h }

pub fed_then : (w v x : Option (List ℕ)) (s u t : Session) (xs ys : List ℕ) → Fed w s xs v u → Fed v u ys x t → Fed w s (xs ++ ys) x t
fed_then w v x s u t xs ys f g =
    record {
      plays = λ p q. subst (Plays t) (sym (after_append xs ys p)) (g.plays (after_bytes p xs) (f.plays p q));
      text = λ p q.
          subst (Appends (append_known w s.out.items) (append_known x t.out.items)) (sym (texts_append xs ys p))
          (Appends-trans (append_known w s.out.items) (append_known v u.out.items) (append_known x t.out.items) (texts p xs)
          (texts (after_bytes p xs) ys) (f.text p q) (g.text (after_bytes p xs) (f.plays p q)));
      room = g.room;
    }

-- ---- a line

-- where a session stands once a line got what it gets
module _ (s b : Session) (p : Player) (q : Plays s p) (a : Answered (begun s) (held_line s) b) where
  held_same : held_line s ≡ line_held p
  held_same = λ t. line_of (without_mark (counted true (q.lines t)) (q.line t))

  answered_plays : Plays b (after_line p)
  unfolding after_line
  answered_plays =
      record {
        machines = subst (λ (l : Line). Same (machines_of b.device) (machines_after p.machines l)) held_same
            (same_trans a.machines (machines_same (machines_of s.device) p.machines q.machines (held_line s)));
        line = ap (λ (v : ArrayVec ℕ). v.items) a.line;
        last = a.last ∙ last_same (machines_of s.device) p.machines q.machines (counted true s.lines) s.answer.items (held_line s)
            ∙ (λ t. last_after (counted true (q.lines t)) (q.last t) p.machines (held_same t));
        lines = a.lines ∙ ap (counted true) q.lines;
        calls = a.calls ∙ (λ t. counted (counts_as_call (held_same t)) (q.calls t));
        refused = a.refused ∙ (λ t. counted (counts_same (machines_of s.device) p.machines q.machines (held_line s) t) s.refused)
            ∙ (λ t. counted (counts_as_refused p.machines (held_same t)) (q.refused t));
        unknown = a.unknown ∙ (λ t. counted (counts_as_unknown (q.last t) (held_same t)) (q.unknown t));
        met = a.met ∙ (λ t. counted (counts_as_met (q.last t) (held_same t)) (q.met t));
        unmet = a.unmet ∙ (λ t. counted (counts_as_unmet (q.last t) (held_same t)) (q.unmet t));
      }

  answered_text : b.out.items ≡ s.out.items ++ ended_text p
  unfolding ended_text
  answered_text =
      a.text ∙ ap (λ (t : List ℕ). s.out.items ++ t)
      (answer_same (machines_of s.device) p.machines q.machines (counted true s.lines) s.answer.items (held_line s)
      ∙ (λ t. line_answer (counted true (q.lines t)) (q.last t) p.machines (held_same t)))

module _ (w : Option (List ℕ)) (s : Session) (v : Option (List ℕ)) (t : Session) (l : LinePlayed w s v t) where
  pub line_plays : (p : Player) → Plays s p → Plays t (after_line p)
  line_plays p q =
      room_plays w l.between v t (ltb (length l.between.out.items) full) l.room (after_line p) (answered_plays s l.between p q l.answered)

  pub line_text : (p : Player) → Plays s p
      → Appends (append_known w s.out.items) (append_known v t.out.items) (ended_text p)
  line_text p q =
      Appends-kept (append_known w s.out.items) (append_known w l.between.out.items) (append_known v t.out.items) (ended_text p)
      (append_known-grown (append_known w s.out.items) w s.out.items l.between.out.items (ended_text p)
      (Keeps-refl (append_known w s.out.items)) (answered_text s l.between p q l.answered))
      (room_text w l.between v t (ltb (length l.between.out.items) full) l.room)

  pub line_room : length t.out.items ≤ full
  line_room = room_made w l.between v t (ltb (length l.between.out.items) full) refl l.room

-- ---- a byte

-- one that ends the line
pub line_fed : (w v : Option (List ℕ)) (s t : Session) (byte : ℕ) (r : Result (Unit {0}) Failure) → byte ≡ 10
    → OrUnwritten r (LinePlayed w s v t) → OrUnwritten r (Fed w s (byte ∷ []) v t)
line_fed w v s t byte r e o =
    let ends = sym (eq-eqb byte 10 e) in
    or_weaker r (λ l.
    record {
      plays = λ p q.
          subst (λ (b : Bool). Plays t (cond b (after_line p) (record p { line = held_more p.line byte }))) ends
          (line_plays w s v t l p q);
      text = λ p q.
          subst (λ (b : Bool). Appends (append_known w s.out.items) (append_known v t.out.items) (cond b (ended_text p) [] ++ [])) ends
          (subst (Appends (append_known w s.out.items) (append_known v t.out.items)) (sym (append-nil (ended_text p)))
          (line_text w s v t l p q));
      room = line_room w s v t l;
    }) o

-- one that is held
pub held_plays : (s : Session) (byte : ℕ) (p : Player) → Plays s p
    → Plays (with_line s s.lines (held_more s.line.items byte)) (record p { line = held_more p.line byte })
held_plays s byte p q =
    record {
      machines = q.machines;
      line = ap (λ (l : List ℕ). held_more l byte) q.line;
      last = q.last;
      lines = q.lines;
      calls = q.calls;
      refused = q.refused;
      unknown = q.unknown;
      met = q.met;
      unmet = q.unmet;
    }

pub byte_fed : (w : Option (List ℕ)) (s t : Session) (byte : ℕ) → (byte ≡ 10 → ⊥) → length s.out.items ≤ full
    → t ≡ with_line s s.lines (held_more s.line.items byte) → Fed w s (byte ∷ []) w t
byte_fed w s t byte n h e =
    let other = sym (ne_eqb byte 10 n) in
    subst (λ (x : Session). Fed w s (byte ∷ []) w x) (sym e)
    (record {
      plays = λ p q.
          subst (λ (b : Bool). Plays (with_line s s.lines (held_more s.line.items byte))
          (cond b (after_line p) (record p { line = held_more p.line byte }))) other (held_plays s byte p q);
      text = λ p q.
          subst (λ (b : Bool). Appends (append_known w s.out.items) (append_known w s.out.items) (cond b (ended_text p) [] ++ [])) other
          (Appends-nil (append_known w s.out.items));
      room = h;
    })

-- one byte more of a block
pub fed_more : (w v x : Option (List ℕ)) (s u t : Session) (block : List ℕ) (i d : ℕ) → i < length block → Fed w s (take i block) v u
    → Fed v u (get_or block i d ∷ []) x t → Fed w s (take (i + 1) block) x t
fed_more w v x s u t block i d h f g =
    subst (λ (l : List ℕ). Fed w s l x t) (sym (take_more block i d h)) (fed_then w v x s u t (take i block) (get_or block i d ∷ []) f g)

-- after the last line there is room for the totals
pub last_room : (w : Option (List ℕ)) (s : Session) (v : Option (List ℕ)) (t : Session) (b : Bool) → LastPlayed b w s v t
    → length s.out.items ≤ full → length t.out.items ≤ full
last_room w s v t true o h = subst (λ (x : Session). length x.out.items ≤ full) (sym o.session) h
last_room w s v t false l h = line_room w s v t l
