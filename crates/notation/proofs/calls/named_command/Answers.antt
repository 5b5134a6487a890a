-- `calls::named_command` meets its contract.
-- Assumes nothing.
use Rattle.std.proofs.Common.{rules}
use Rattle.notation.specs.Meanings.{named_command}
use Rattle.words.proofs.SplitLaws.{is_word_is}
use Rattle.notation.proofs.calls.named_command.Goals as goal

pub returns : goal.returns
unfolding named_command
returns c = simp (← is_word_is) (search rules)
