-- `count_on` meets its contract.
-- Assumes nothing.
use Prim.Native.Nat.{◌<◌}
use native.Mathlib.Omega.{arith}
use Rattle.lines.proofs.CountLaws.{counting_more, counting_row, carried_row, carried_more}
use Rattle.lines.proofs.counts.count_on.Goals as goal

pub loop-b-preserved : goal.loop-b-preserved
loop-b-preserved c =
    let args = c.args in
    let l = c.loop-b in
    let h : l.b < 8 = omega arith in
    let was = counting_row args.words.now args.counts h l.invariant.0 c.row-bit.ensures in (
      counting_more args.words.now args.counts l.b c.bitand.result h
          (carried_row c.row-bit.result l.invariant.1 h was c.bitxor.ensures c.bitand.ensures) l.invariant.0
          c.set_row.ensures,
      carried_more c.row-bit.result l.invariant.1 h was c.bitand-carry.ensures,
    )
