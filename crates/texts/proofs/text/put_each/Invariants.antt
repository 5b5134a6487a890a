-- `text::put_each` meets its contract, an item after the other.
-- Assumes nothing.
use mathlib.Core.Path.{◌≡◌}
use mathlib.Core.List.{◌∷◌}
use lib.ListN.{take}
use Rattle.words.specs.Buffers.{put}
use Rattle.texts.specs.Texts.{each_text}
use Rattle.texts.proofs.text.put_each.Given as goal

abbrev pub invariant-loop-item : goal.invariant-loop-item
invariant-loop-item g l =
    g.B.Buffer.held l.out
    ≡ put g.B.Buffer.most (g.B.Buffer.held l.initial.out) (each_text (λ x. 32 ∷ g.T.Printed.text x) (take l.item-index l.items))
