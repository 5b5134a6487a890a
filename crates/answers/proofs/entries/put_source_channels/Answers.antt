-- `entries::put_source_channels` meets its contract.
-- Assumes nothing.
use Rattle.words.proofs.BufferLaws.{put_then}
use Rattle.answers.proofs.entries.put_source_channels.Goals as goal

pub returns : goal.returns
returns g c = rw (c.put_places.ensures, c.put_all.ensures) (put_then _ _ _ _)
