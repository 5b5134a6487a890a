-- `remarks::value_in` meets its contract: an entry has at most four bytes.
-- Assumes nothing.
use Rattle.answers.proofs.AnswerLaws.{few_bytes}
use Rattle.answers.proofs.remarks.value_in.Goals as goal

pub number-requires : goal.number-requires
number-requires c = rw (c.first_items.ensures, c.from.ensures) (few_bytes c.args.index c.args.sub _ c.in-Ok.ensures c.args.payload.now)
