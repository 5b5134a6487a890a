-- `set_fresh` meets its contract: every array fresh, the deltas in four parts.
-- Assumes nothing.
use native.Mathlib.Omega.{arith}
use Rattle.channels.proofs.StoreLaws.{zeroed_both, zeroed_all}
use Rattle.store.proofs.StepLaws.{fresh_left}
use Rattle.store.proofs.Store.set_fresh.Goals as goal

pub returns : goal.returns
returns c =
    let low = zeroed_both (omega arith) (omega arith) c.zero_deltas.ensures c.empty_received.ensures in
    let most = zeroed_both (omega arith) (omega arith) low c.empty_transmitted.ensures in
    let zeros = zeroed_all {n = 128} (omega arith) (zeroed_both (omega arith) (omega arith) most c.empty.ensures) in
    rw (c.set_modes.ensures, zeros, c.set_node.ensures.stored, c.set_sources.ensures, c.fresh.ensures)
    (fresh_left c.args.number _ c.fresh-2.ensures)
