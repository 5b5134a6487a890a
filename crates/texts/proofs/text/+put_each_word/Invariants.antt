-- What is left of the line falls.
-- Assumes nothing.
use Rattle.std.proofs.Common.{length}
use Rattle.texts.proofs.text.+put_each_word.Given as goal

abbrev pub decreases-put_each_word : goal.decreases-put_each_word
decreases-put_each_word g l = length l.text.now
