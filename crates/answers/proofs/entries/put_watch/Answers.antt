-- `entries::put_watch` meets its contract.
-- Assumes nothing.
use Rattle.words.proofs.BufferLaws.{put_then}
use Rattle.answers.specs.EntryWords.{watch_text}
use Rattle.answers.proofs.entries.put_watch.Goals as goal

pub returns : goal.returns
unfolding watch_text
returns g c = rw (c.put_decimal.ensures, c.put_all.ensures) (put_then _ _ _ _)
