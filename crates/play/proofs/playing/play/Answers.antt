-- `play` meets its contract.
-- Assumes nothing.
use native.Mathlib.Omega.{arith}
use Rattle.std.proofs.lemmas.Result.{err_from_is_err_and}
use Rattle.play.proofs.OutputLaws.{whole_weaker, unwritten_broken}
use Rattle.play.proofs.PlayedLaws.{turned_over, turned_more, over_room, over_read, reached_more, turn_broken, turns_over, played}
use Rattle.play.proofs.playing.play.Goals as goal

pub close-requires : goal.close-requires
close-requires g c =
    let s = c.loop-turn.session in
    let t = c.play_block.new.session in
    let over = turned_over _ _ s _ _ t c.in_ok-play_block.field-0 c.if-not-branch.true c.in_ok-play_block.ensures in
    over_room _ _ s _ _ t over c.loop-turn.invariant.out

pub returns-then-not-branch-clause-whole : goal.returns-then-not-branch-clause-whole
returns-then-not-branch-clause-whole g c =
    let s = c.loop-turn.session in
    let t = c.play_block.new.session in
    let over = turned_over _ _ s _ _ t c.in_ok-play_block.field-0 c.if-not-branch.true c.in_ok-play_block.ensures in
    whole_weaker c.close.result (played _ _ _ _ _ _ _ s t _ c.loop-turn.invariant over) c.close.ensures

pub returns-then-not-branch-clause-broken : goal.returns-then-not-branch-clause-broken
returns-then-not-branch-clause-broken g c =
    let s = c.loop-turn.session in
    let t = c.play_block.new.session in
    let over = turned_over _ _ s _ _ t c.in_ok-play_block.field-0 c.if-not-branch.true c.in_ok-play_block.ensures in
    unwritten_broken _ c.close.result _ _ _ _ _ (over_read _ _ _ _ _ _ s t _ c.loop-turn.invariant over) c.close.ensures

pub returns-then-not-branch-clause-end : goal.returns-then-not-branch-clause-end
returns-then-not-branch-clause-end g c =
    let s = c.loop-turn.session in
    let t = c.play_block.new.session in
    let over = turned_over _ _ s _ _ t c.in_ok-play_block.field-0 c.if-not-branch.true c.in_ok-play_block.ensures in
    whole_weaker c.close.result (λ h. over.end) c.close.ensures

pub returns-in_err-play_block-clause-broken : goal.returns-in_err-play_block-clause-broken
returns-in_err-play_block-clause-broken g c =
    let f = c.in_err-play_block.field-0.0 in
    let p = err_from_is_err_and c.from_residual.result c.from_residual.ensures.1 in
    rw (p.1, p.2)
    (turn_broken _ _ _ _ _ _ c.loop-turn.session c.play_block.new.session _ f c.loop-turn.invariant c.in_err-play_block.ensures)

pub returns-clause-broken : goal.returns-clause-broken
returns-clause-broken g c =
    let l = c.loop-turn in
    turns_over _ _ _ _ l.session l.turn (omega (arith, c.loop-turn-test.false)) l.invariant

pub loop-turn-preserved : goal.loop-turn-preserved
loop-turn-preserved g c =
    let s = c.loop-turn.session in
    let t = c.play_block.new.session in
    let more = turned_more _ _ s _ _ t c.in_ok-play_block.field-0 c.if-not-branch.false c.in_ok-play_block.ensures in
    reached_more _ _ _ _ _ _ s t _ c.loop-turn.invariant more
