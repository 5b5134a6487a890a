-- `entries::put_entry` meets its contract: what was found lies among the lines and channels.
-- Assumes nothing.
use native.Mathlib.Omega.{arith}
use Rattle.answers.proofs.AnswerLaws.{home_found}
use Rattle.answers.proofs.entries.put_entry.Goals as goal

pub put_window-requires : goal.put_window-requires
put_window-requires g c =
    let r = home_found _ c.args.index c.args.sub _ c.in-Ok.ensures c.in-Window.is in
    (r.first, r.last)

pub put_channel-requires : goal.put_channel-requires
put_channel-requires g c = (home_found _ c.args.index c.args.sub _ c.in-Ok.ensures c.in-InputChannel.is).0

pub put_channel-requires-in-OutputChannel : goal.put_channel-requires-in-OutputChannel
put_channel-requires-in-OutputChannel g c =
    omega (arith, (home_found _ c.args.index c.args.sub _ c.in-Ok.ensures c.in-OutputChannel.is).0)

pub overflow_add-n : goal.overflow_add-n
overflow_add-n g c = omega (arith, (home_found _ c.args.index c.args.sub _ c.in-Ok.ensures c.in-WatchEntry.is).0)
