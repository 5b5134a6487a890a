-- The whole text: for every list of bytes, fed in blocks of any lengths to a session that has started, and closed, what is written is
-- the list's transcript. From the promises of the session's functions alone.
-- Assumes nothing.
use Rattle.std.proofs.Common.{◌≡◌, ℕ, ◌≤◌, Bool, true, false, cond, eqb, List, [], ◌∷◌, ◌++◌, length, refl, sym, ap, ◌∙◌, subst}
use Rattle.std.proofs.Common.{append_assoc, append-nil, arith, None, Some, Result}
use Rattle.std.specs.Io.KnownBytes.{append_known, Keeps, Appends}
use Rattle.std.proofs.KnownBytes.{Appends-trans, Appends-kept}
use Rattle.std.specs.List.{concat}
use Rattle.std.specs.declared.option.Option.{Option}
use Rattle.answers.specs.Answers.{totals_text, judged_text}
use Rattle.play.specs.declared.failure.Failure.{Failure}
use Rattle.play.specs.declared.session.Session.{Session}
use Rattle.play.specs.Transcripts.{Player, first_player, ended_text, after_line, texts, after_bytes, totals_of, closing, transcript}
use Rattle.play.specs.Sessions.{full, Started, OrUnwritten, Finished, LastPlayed, Plays, Fed, Closed, FedBlocks}
use Rattle.play.proofs.OutputLaws.{or_weaker, alone_plays, alone_text}
use Rattle.play.proofs.FedLaws.{fed_none, fed_then, line_plays, line_text}

-- ---- what a writer holds

-- what waited, and a text behind it, was written: the text was added to what was written and what waited
flushed : (w v : Option (List ℕ)) (waited text : List ℕ) → Appends w v (waited ++ text) → Appends (append_known w waited) v text
flushed None v waited text h = tt
flushed (Some x) None waited text h = absurd h
flushed (Some x) (Some y) waited text h = h ∙ sym (append_assoc x waited text)

pub kept_then : (u v w : Option (List ℕ)) (text : List ℕ) → Keeps u v → Appends v w text → Appends u w text
kept_then None v w text k h = tt
kept_then (Some x) None w text k h = absurd k
kept_then (Some x) (Some y) None text k h = absurd h
kept_then (Some x) (Some y) (Some z) text k h = h ∙ ap (λ (l : List ℕ). l ++ text) k

-- nothing waits
nothing_waits : (w v : Option (List ℕ)) (waits text : List ℕ) → waits ≡ [] → Appends (append_known w waits) v text → Appends w v text
nothing_waits None v waits text e h = tt
nothing_waits (Some x) None waits text e h = absurd h
nothing_waits (Some x) (Some y) waits text e h =
    h ∙ ap (λ (l : List ℕ). (x ++ l) ++ text) e ∙ ap (λ (l : List ℕ). l ++ text) (append-nil x)

waits_none : (v : Option (List ℕ)) (waits : List ℕ) → waits ≡ [] → Keeps (append_known v waits) v
waits_none None waits e = tt
waits_none (Some x) waits e = sym (append-nil x) ∙ ap (λ (l : List ℕ). x ++ l) (sym e)

-- ---- the beginning and the end

-- the totals are those of where the list stands
finished : (v now : Option (List ℕ)) (t end : Session) → Finished v t now end → (p : Player) → Plays t p
    → Appends (append_known v t.out.items) now (totals_of p)
finished v now t end f p q =
    subst (Appends (append_known v t.out.items) now)
    (λ i. totals_text (q.calls i) (q.refused i) (q.unknown i) ++ judged_text (q.met i) (q.unmet i))
    (flushed v now t.out.items (totals_text t.calls t.refused t.unknown ++ judged_text t.met t.unmet) f.text)

-- the last line and the totals
module _ (w : Option (List ℕ)) (s : Session) (v : Option (List ℕ)) (t : Session) (now : Option (List ℕ)) (end : Session) where
  ends : (b : Bool) → LastPlayed b w s v t → Finished v t now end → (p : Player) → Plays s p
      → Appends (append_known w s.out.items) now (cond b (totals_of p) (ended_text p ++ totals_of (after_line p)))
  ends true o f p q =
      kept_then (append_known w s.out.items) (append_known v t.out.items) now (totals_of p) (alone_text w s v t o)
      (finished v now t end f p (alone_plays w s v t o p q))
  ends false l f p q =
      Appends-trans (append_known w s.out.items) (append_known v t.out.items) now (ended_text p) (totals_of (after_line p))
      (line_text w s v t l p q) (finished v now t end f (after_line p) (line_plays w s v t l p q))

  pub closed : (r : Result (Unit {0}) Failure) → LastPlayed (eqb (length s.line.items) 0) w s v t → OrUnwritten r (Finished v t now end)
      → OrUnwritten r (Closed w s now)
  closed r o h =
      or_weaker r (λ f.
      record {
        text = λ p q.
            subst (λ (l : List ℕ).
            Appends (append_known w s.out.items) now (cond (eqb (length l) 0) (totals_of p) (ended_text p ++ totals_of (after_line p))))
            q.line (ends (eqb (length s.line.items) 0) o f p q);
      }) h

-- ---- blocks

-- fed one after the other, they are their bytes
blocks_fed : (blocks : List (List ℕ)) (w v : Option (List ℕ)) (s t : Session) → length s.out.items ≤ full → FedBlocks w s blocks v t
    → Fed w s (concat blocks) v t
blocks_fed [] w v s t h f =
    subst (λ (x : Option (List ℕ)). Fed w s [] x t) (sym f.0) (subst (λ (x : Session). Fed w s [] w x) (sym f.1) (fed_none w s h))
blocks_fed (block ∷ blocks) w v s t h f =
    fed_then w f.0 v s f.1 t block (concat blocks) f.2 (blocks_fed blocks f.0 v f.1 t f.2.room f.3)

-- one block more
pub blocks_more : (blocks : List (List ℕ)) (block : List ℕ) (w v x : Option (List ℕ)) (s u t : Session) → FedBlocks w s blocks v u
    → Fed v u block x t → FedBlocks w s (blocks ++ block ∷ []) x t
blocks_more [] block w v x s u t f g =
    (x, t, subst (λ (z : Option (List ℕ)). Fed z s block x t) f.0 (subst (λ (z : Session). Fed v z block x t) f.1 g), (refl, refl))
blocks_more (b ∷ blocks) block w v x s u t f g = (f.0, f.1, f.2, blocks_more blocks block f.0 v x f.1 u t f.3 g)

pub concat_more : (blocks : List (List ℕ)) (block : List ℕ) → concat (blocks ++ block ∷ []) ≡ concat blocks ++ block
concat_more [] block = append-nil block
concat_more (b ∷ blocks) block = ap (λ (l : List ℕ). b ++ l) (concat_more blocks block) ∙ sym (append_assoc b (concat blocks) block)

-- where nothing waits after them, their texts are written
pub texts_written : (blocks : List (List ℕ)) (w v : Option (List ℕ)) (s t : Session) → Started s → FedBlocks w s blocks v t
    → t.out.items ≡ [] → Appends w v (texts first_player (concat blocks))
texts_written blocks w v s t b f e =
    let text = texts first_player (concat blocks) in
    let fed = blocks_fed blocks w v s t (omega (arith, ap length b.out)) f in
    nothing_waits w v s.out.items text b.out
    (Appends-kept (append_known w s.out.items) (append_known v t.out.items) v text (fed.text first_player b.plays)
    (waits_none v t.out.items e))

-- ---- the theorem

pub every_text : (blocks : List (List ℕ)) (w v now : Option (List ℕ)) (s t : Session) → Started s → FedBlocks w s blocks v t
    → Closed v t now → Appends w now (transcript (concat blocks))
every_text blocks w v now s t b f c =
    let bytes = concat blocks in
    let fed = blocks_fed blocks w v s t (omega (arith, ap length b.out)) f in
    let stands = b.plays in
    let all = Appends-trans (append_known w s.out.items) (append_known v t.out.items) now (texts first_player bytes)
    (closing (after_bytes first_player bytes)) (fed.text first_player stands)
    (c.text (after_bytes first_player bytes) (fed.plays first_player stands)) in
    nothing_waits w now s.out.items (transcript bytes) b.out all
