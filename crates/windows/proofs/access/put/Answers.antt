-- `put` meets its contract: one word is patched.
-- Assumes nothing.
use Rattle.windows.proofs.WindowLaws.{window_write}
use Rattle.windows.proofs.access.put.Goals as goal

pub returns : goal.returns
returns c =
    rw c.from.ensures
    (window_write _ _ _ _ _ c.requires.covers c.requires.value_bound c.told-words _ _
    c.locate-found.ensures.0 c.locate-found.ensures.1)
