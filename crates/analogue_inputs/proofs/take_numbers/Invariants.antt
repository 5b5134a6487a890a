-- `take_numbers` meets its contract. The loop's invariant: the channels from i on have taken their numbers, and the events of those
-- below i are missing.
-- Assumes nothing.
use Prim.Native.Nat.{◌≤◌}
use lib.IntN.{pos}
use lib.ListN.{get_or}
use Rattle.channels.specs.View.{input_at, Outside}
use Rattle.analogue_inputs.specs.Promises.{met, took_number}
use Rattle.channels.proofs.Sweeps.{Backward}
use Rattle.analogue_inputs.proofs.Gathered.{Missing}
use Rattle.analogue_inputs.proofs.take_numbers.Given as goal

abbrev pub invariant-loop-i : goal.invariant-loop-i
invariant-loop-i l = (l.i ≤ 16)
    × Backward (λ k. took_number (met l.on l.xs (input_at l.octets l.limits l.deltas l.initial.values) k) (get_or l.xs k (pos 0))) 16
    (input_at l.octets l.limits l.deltas l.initial.values) (input_at l.octets l.limits l.deltas l.values) l.i
    × Missing (met l.on l.xs (input_at l.octets l.limits l.deltas l.initial.values)) l.i l.events
    × Outside 0 32 (pos 0) l.initial.values l.values
