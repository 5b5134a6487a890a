-- `entries::put_channel_number` meets its contract.
-- Assumes nothing.
use Rattle.words.proofs.BufferLaws.{put_then}
use Rattle.answers.proofs.entries.put_channel_number.Goals as goal

pub returns : goal.returns
returns g c = rw (c.put_decimal.ensures, c.put_all.ensures) (put_then _ _ _ _)
