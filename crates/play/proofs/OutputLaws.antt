-- The output that waits: written out or left alone, what was written and what waits stay the same text, and the list stands where it did.
-- Assumes nothing.
use Rattle.std.proofs.Common.{◌≡◌, ℕ, ◌<◌, ◌≤◌, Bool, true, false, eqb, ltb, List, [], length, sym, ap, ◌∙◌, subst, append-nil, arith}
use Rattle.std.proofs.Common.{ltb-true, lt-ltb, le-ltb, Result, Ok, Err}
use Rattle.std.specs.Prelude.{OnOk, IfErr}
use Rattle.std.specs.Io.KnownBytes.{append_known, Keeps, Consumes}
use Rattle.std.proofs.KnownBytes.{Keeps-refl, append_known-kept, append_known-moved}
use Rattle.std.specs.declared.option.Option.{Option}
use Rattle.play.specs.declared.session.Session.{Session}
use Rattle.play.specs.Transcripts.{Player}
use Rattle.play.specs.Sessions.{full, emptied, WrittenOut, LeftAlone, MadeRoom, LinePlayed, LastPlayed, Plays, OrUnwritten, BrokenOff}
use Rattle.play.specs.declared.failure.Failure.{Failure}

-- what follows from the promise where the writing did not fail
pub or_weaker : {P Q : Type 0} (r : Result (Unit {0}) Failure) → (P → Q) → OrUnwritten r P → OrUnwritten r Q
or_weaker (Ok u) f h = f h
or_weaker (Err e) f h = h

pub whole_weaker : {P Q : Type 0} (r : Result (Unit {0}) Failure) → (P → Q) → OrUnwritten r P → OnOk r Q
whole_weaker (Ok u) f h = f h
whole_weaker (Err e) f h = tt

-- where the writing failed, what was read is known
pub unwritten_broken : (P : Type 0) (r : Result (Unit {0}) Failure) (left written rest now : Option (List ℕ)) (bytes : List ℕ)
    → Consumes left rest bytes → OrUnwritten r P → IfErr r (λ f. BrokenOff f left written rest now)
unwritten_broken P (Ok u) left written rest now bytes c h = tt
unwritten_broken P (Err f) left written rest now bytes c h =
    subst (λ (x : Failure). BrokenOff x left written rest now) (sym h) (bytes, c)

-- where it stands does not go by the output
plays_emptied : (s : Session) (p : Player) → Plays s p → Plays (emptied s) p
plays_emptied s p q =
    record {
      machines = q.machines;
      line = q.line;
      last = q.last;
      lines = q.lines;
      calls = q.calls;
      refused = q.refused;
      unknown = q.unknown;
      met = q.met;
      unmet = q.unmet;
    }

-- written out or left alone: it stands where it did, and what was written and what waits is the same text
module _ (w : Option (List ℕ)) (s : Session) (v : Option (List ℕ)) (t : Session) where
  pub written_plays : WrittenOut w s v t → (p : Player) → Plays s p → Plays t p
  written_plays o p q = subst (λ (x : Session). Plays x p) (sym o.session) (plays_emptied s p q)

  pub written_out : WrittenOut w s v t → t.out.items ≡ []
  written_out o = ap (λ (x : Session). x.out.items) o.session

  pub written_text : WrittenOut w s v t → Keeps (append_known w s.out.items) (append_known v t.out.items)
  written_text o =
      subst (λ (l : List ℕ). Keeps (append_known w s.out.items) (append_known v l)) (sym (written_out o))
      (append_known-moved w v s.out.items [] s.out.items o.text (sym (append-nil s.out.items)))

  pub alone_plays : LeftAlone w s v t → (p : Player) → Plays s p → Plays t p
  alone_plays o p q = subst (λ (x : Session). Plays x p) (sym o.session) q

  pub alone_text : LeftAlone w s v t → Keeps (append_known w s.out.items) (append_known v t.out.items)
  alone_text o =
      subst (λ (x : Session). Keeps (append_known w s.out.items) (append_known v x.out.items)) (sym o.session)
      (append_known-kept w v s.out.items o.text)

  pub room_plays : (b : Bool) → MadeRoom b w s v t → (p : Player) → Plays s p → Plays t p
  room_plays true = alone_plays
  room_plays false = written_plays

  pub room_text : (b : Bool) → MadeRoom b w s v t → Keeps (append_known w s.out.items) (append_known v t.out.items)
  room_text true = alone_text
  room_text false = written_text

  pub room_made : (b : Bool) → ltb (length s.out.items) full ≡ b → MadeRoom b w s v t → length t.out.items ≤ full
  room_made true h o =
      subst (λ (x : Session). length x.out.items ≤ full) (sym o.session) (omega (arith, ltb-true (length s.out.items) full h))
  room_made false h o = omega (arith, ap length (written_out o))

alone : (w : Option (List ℕ)) (s t : Session) → t ≡ s → LeftAlone w s w t
alone w s t same = record { text = Keeps-refl w; session = same }

-- ---- the output is full, or it is not

module _ (w : Option (List ℕ)) (s : Session) (n : ℕ) (e : n ≡ length s.out.items) where
  pub room_left : n < full → (t : Session) → t ≡ s → MadeRoom (ltb (length s.out.items) full) w s w t
  room_left h t same =
      subst (λ (b : Bool). MadeRoom b w s w t) (sym (ap (λ (k : ℕ). ltb k full) (sym e) ∙ lt-ltb n full h)) (alone w s t same)

  pub no_room : full ≤ n → (r : Result (Unit {0}) Failure) (v : Option (List ℕ)) (t : Session) → OrUnwritten r (WrittenOut w s v t)
      → OrUnwritten r (MadeRoom (ltb (length s.out.items) full) w s v t)
  no_room h r v t o =
      or_weaker r (subst (λ (b : Bool). MadeRoom b w s v t) (sym (ap (λ (k : ℕ). ltb k full) (sym e) ∙ le-ltb n full h))) o

-- ---- something is held of the last line, or nothing

module _ (w : Option (List ℕ)) (s : Session) (b : Bool) (e : b ≡ eqb (length s.line.items) 0) where
  pub none_held : b ≡ true → (t : Session) → t ≡ s → LastPlayed (eqb (length s.line.items) 0) w s w t
  none_held h t same = subst (λ (x : Bool). LastPlayed x w s w t) (sym h ∙ e) (alone w s t same)

  pub some_held : b ≡ false → (r : Result (Unit {0}) Failure) (v : Option (List ℕ)) (t : Session) → OrUnwritten r (LinePlayed w s v t)
      → OrUnwritten r (LastPlayed (eqb (length s.line.items) 0) w s v t)
  some_held h r v t o = or_weaker r (subst (λ (x : Bool). LastPlayed x w s v t) (sym h ∙ e)) o
