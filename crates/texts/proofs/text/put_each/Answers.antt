-- `text::put_each` meets its contract, an item after the other.
-- Assumes nothing.
use mathlib.Core.Path.{◌∙◌}
use mathlib.Core.List.{[], ◌∷◌}
use Rattle.words.proofs.BufferLaws.{put_then}
use Rattle.texts.proofs.TextLaws.{each_more}
use Rattle.texts.proofs.text.put_each.Goals as goal

pub loop-item-preserved : goal.loop-item-preserved
loop-item-preserved g c =
    let most = g.B.Buffer.most in
    let text = g.T.Printed.text in
    rw (c.put_into.ensures, c.put.ensures, c.loop-item.invariant, c.item-item.is)
    (put_then most _ (32 ∷ []) _ ∙ each_more (λ x. 32 ∷ text x) most _ c.args.items.now _ _ c.loop-item-test.true)
