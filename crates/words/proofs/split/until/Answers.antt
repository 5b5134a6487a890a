-- `split::until` meets its contract.
-- Assumes nothing.
use Rattle.std.proofs.Common.{eqb, rules, tests}
use Rattle.std.proofs.lemmas.Iterator.{YieldsList-from_slice}
use Rattle.std.proofs.lemmas.Iterator.Search.{position_from_yields_List}
use Rattle.words.proofs.RunLaws.{until_is}
use Rattle.words.proofs.split.until.Goals as goal

pub returns : goal.returns
returns c =
    let line = c.args.line.now in
    let found = position_from_yields_List (λ x. eqb x c.args.byte) _ _ c.position.result c.position.ensures.ran
    (YieldsList-from_slice line cc) (λ x b q k. search (rules, tests)) in
    until_is c.args.byte line _ _ found c.unwrap_or.ensures
