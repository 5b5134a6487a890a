-- `items::read_items` meets its contract: the items so far are those of the words passed.
-- Assumes nothing.
use Rattle.std.proofs.Common.{rules}
use Rattle.std.proofs.lemmas.Result.{err_from_is_err_and}
use Rattle.words.proofs.ItemLaws.{reading_wrong, reading_full, reading_more}
use Rattle.words.proofs.items.read_items.Goals as goal

pub returns-in_err-item : goal.returns-in_err-item
returns-in_err-item g c =
    let p = err_from_is_err_and c.from_residual.result c.from_residual.ensures.1 in
    let item = c.in_err-item.field-0.0 in
    rw (p.1, p.2) (reading_wrong g.T.ListItem.kind _ _ _ _ c.loop-rest.invariant (search rules) item (search rules))

pub returns-then-is_full : goal.returns-then-is_full
returns-then-is_full g c =
    let item = c.in_ok-item.item in
    reading_full g.T.ListItem.kind _ _ _ _ c.loop-rest.invariant (search rules) item (search rules) (search rules)

pub loop-rest-preserved : goal.loop-rest-preserved
loop-rest-preserved g c =
    let item = c.in_ok-item.item in
    rw (c.put.ensures, c.after_word-rest.ensures)
    (reading_more g.T.ListItem.kind _ _ _ _ c.loop-rest.invariant (search rules) item (search rules) (search rules))
