-- `put_masked` meets its contract: it puts the value where the gate is 1, else what is there.
-- Assumes nothing.
use native.Mathlib.Nat.{lt_of_le_of_lt}
use lib.Bits.{and_le_l, or_lt}
use Rattle.windows.proofs.RowLaws.{masked_write}
use Rattle.windows.proofs.WindowLaws.{small_as}
use Rattle.windows.proofs.access.put_masked.Goals as goal

pub put-requires-clause-value_bound : goal.put-requires-clause-value_bound
put-requires-clause-value_bound c =
    or_lt c.args.width _ _
    (lt_of_le_of_lt (and_le_l c.get-kept.result _) (small_as _ _ _ _ c.get-kept.ensures))
    (lt_of_le_of_lt (and_le_l c.args.value _) c.requires.value_bound)

pub returns : goal.returns
returns c = masked_write _ _ _ _ _ _ c.requires.covers.width.narrow c.get-kept.ensures c.get-mask.ensures c.put.ensures
