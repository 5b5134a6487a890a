-- What is left of the first line falls.
-- Assumes nothing.
use Rattle.std.proofs.Common.{length}
use Rattle.words.proofs.expectations.+same_words.Given as goal

abbrev pub decreases-same_words : goal.decreases-same_words
decreases-same_words l = length l.a.now
