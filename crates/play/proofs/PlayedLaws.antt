-- What is read, a block after the other: fed to a session that has started, to the end of the input.
-- Assumes nothing.
use Rattle.std.proofs.Common.{◌≡◌, ℕ, ◌+◌, ◌-◌, ◌^◌, ◌≤◌, Bool, true, false, List, [], ◌∷◌, ◌++◌, length, sym, ap, subst}
use Rattle.std.proofs.Common.{append-nil, length-append, arith, IfSome}
use Rattle.std.proofs.lemmas.Bool.{true≢false}
use Rattle.std.specs.Io.KnownBytes.{append_known, Appends, Consumes}
use Rattle.std.proofs.KnownBytes.{Consumes-trans, Consumes-kept, Consumes-whole, Appends-kept}
use Rattle.std.specs.List.{concat}
use Rattle.std.specs.declared.option.Option.{Option}
use Rattle.play.specs.declared.failure.Failure.{Failure}
use Rattle.play.specs.declared.failure.Failure.TheVariants.{Reading, Writing, Endless}
use Rattle.play.specs.declared.session.Session.{Session}
use Rattle.play.specs.Transcripts.{first_player, closing, transcript, texts}
use Rattle.play.specs.Sessions.{full, Started, LeftAlone, Closed, FedBlocks, BlockPlayed, InputOver, Turned, TurnFailed, BrokenOff}
use Rattle.play.proofs.OutputLaws.{alone_plays, alone_text}
use Rattle.play.proofs.EveryText.{kept_then, blocks_more, concat_more, texts_written, every_text}

-- the blocks so far: `left` and `written` are what the reader had and the writer held before them, `rest` and `now` after them
pub record Reached (left written rest now : Option (List ℕ)) (s : Session) (turn : ℕ) : Type 0 where
  pub start : Session
  pub started : Started start
  pub blocks : List (List ℕ)
  pub read : Consumes left rest (concat blocks)
  pub fed : FedBlocks written start blocks now s
  pub many : turn ≤ length (concat blocks)
  pub out : s.out.items ≡ []

pub reached_more : (left written rest now rest2 now2 : Option (List ℕ)) (s t : Session) (turn : ℕ)
    → Reached left written rest now s turn → BlockPlayed rest now s rest2 now2 t → Reached left written rest2 now2 t (turn + 1)
reached_more left written rest now rest2 now2 s t turn r b =
    record {
      start = r.start;
      started = r.started;
      blocks = r.blocks ++ b.block ∷ [];
      read = subst (Consumes left rest2) (sym (concat_more r.blocks b.block))
          (Consumes-trans left rest rest2 (concat r.blocks) b.block r.read b.read);
      fed = blocks_more r.blocks b.block written now now2 r.start s t r.fed b.fed;
      many = omega (arith, r.many, b.some, length-append (concat r.blocks) b.block, ap length (concat_more r.blocks b.block));
      out = b.out;
    }

-- closing goes by where the session stands
alone_closed : (w v now : Option (List ℕ)) (s t : Session) → LeftAlone w s v t → Closed v t now → Closed w s now
alone_closed w v now s t o c =
    record {
      text = λ p q.
          kept_then (append_known w s.out.items) (append_known v t.out.items) now (closing p) (alone_text w s v t o)
          (c.text p (alone_plays w s v t o p q));
    }

pub played : (left written rest now rest2 now2 end : Option (List ℕ)) (s t : Session) (turn : ℕ)
    → Reached left written rest now s turn → InputOver rest now s rest2 now2 t → Closed now2 t end
    → IfSome left (λ input. Appends written end (transcript input))
played left written rest now rest2 now2 end s t turn r o c =
    let read = Consumes-trans left rest rest2 (concat r.blocks) [] r.read o.read in
    Consumes-whole left rest2 (concat r.blocks ++ []) (λ input. Appends written end (transcript input)) read o.end
    (subst (λ (l : List ℕ). Appends written end (transcript l)) (sym (append-nil (concat r.blocks)))
    (every_text r.blocks written now end r.start s r.started r.fed (alone_closed now now2 end s t o.unchanged c)))

-- the input could not be read any more
pub turn_broken : (left written rest now rest2 now2 : Option (List ℕ)) (s t : Session) (turn : ℕ) (f : Failure)
    → Reached left written rest now s turn
    → TurnFailed f rest now s rest2 now2 t → BrokenOff f left written rest2 now2
turn_broken left written rest now rest2 now2 s t turn Writing r o =
    (concat r.blocks ++ o.block, Consumes-trans left rest rest2 (concat r.blocks) o.block r.read o.read)
turn_broken left written rest now rest2 now2 s t turn Endless r o = absurd o
turn_broken left written rest now rest2 now2 s t turn Reading r o = (
  concat r.blocks,
  Consumes-kept left rest rest2 (concat r.blocks) r.read o.0,
  Appends-kept written now now2 (texts first_player (concat r.blocks))
      (texts_written r.blocks written now r.start s r.started r.fed r.out) o.1.text,
)

pub turns_over : (left written rest now : Option (List ℕ)) (s : Session) (turn : ℕ) → 2 ^ 64 - 1 ≤ turn
    → Reached left written rest now s turn → BrokenOff Endless left written rest now
turns_over left written rest now s turn h r = (
  concat r.blocks,
  r.read,
  omega (arith, h, r.many),
  texts_written r.blocks written now r.start s r.started r.fed r.out,
)

-- all that was read where the input is over
pub over_read : (left written rest now rest2 now2 : Option (List ℕ)) (s t : Session) (turn : ℕ)
    (r : Reached left written rest now s turn)
    → InputOver rest now s rest2 now2 t → Consumes left rest2 (concat r.blocks ++ [])
over_read left written rest now rest2 now2 s t turn r o = Consumes-trans left rest rest2 (concat r.blocks) [] r.read o.read

-- there was a block, or there was none
module _ (left written : Option (List ℕ)) (s : Session) (rest now : Option (List ℕ)) (t : Session) where
  pub turned_more : (more : Bool) → more ≡ true → Turned more left written s rest now t → BlockPlayed left written s rest now t
  turned_more true h o = o
  turned_more false h o = absurd (true≢false (sym h))

  pub turned_over : (more : Bool) → more ≡ false → Turned more left written s rest now t → InputOver left written s rest now t
  turned_over true h o = absurd (true≢false h)
  turned_over false h o = o

  pub over_room : InputOver left written s rest now t → s.out.items ≡ [] → length t.out.items ≤ full
  over_room o e = subst (λ (x : Session). length x.out.items ≤ full) (sym o.unchanged.session) (omega (arith, ap length e))
