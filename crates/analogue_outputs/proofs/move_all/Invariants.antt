-- `move_all` meets its contract. The loop's invariant: the outputs below i are moved.
-- Assumes nothing.
use Rattle.std.proofs.Common.{◌≡◌, ℕ, ◌<◌, ◌≤◌, pos}
use Rattle.profile.specs.AnalogueOutput.{move_analogue_output}
use Rattle.channels.specs.View.{output_at, Outside}
use Rattle.analogue_outputs.proofs.move_all.Given as goal

abbrev pub invariant-loop-i : goal.invariant-loop-i
invariant-loop-i l = ((k : ℕ) → k < l.i → output_at l.flags l.values k ≡ move_analogue_output l.before l.after (output_at l.flags l.initial.values k))
    × ((k : ℕ) → l.i ≤ k → k < 8 → output_at l.flags l.values k ≡ output_at l.flags l.initial.values k)
    × Outside 32 56 (pos 0) l.initial.values l.values
