-- What stays of the outputs where fault neither begins nor ends.
-- Assumes nothing.
use mathlib.Core.Path.{◌≡◌, refl}
use mathlib.Core.Bool.{Bool, true, false, beq, false≢true}
use mathlib.Core.List.{List}
use lib.IntN.{ℤ}
use Rattle.profile.specs.declared.AnalogueOutput.{AnalogueOutput}
use Rattle.profile.specs.AnalogueOutput.{move_analogue_output}
use Rattle.channels.specs.View.{output_at}
use Rattle.analogue_outputs.specs.Promises.{OutputsMoved}
use Rattle.channels.proofs.StoreLaws.{outside_none}

-- fault that lasts, or its absence that lasts, moves no output
stays : (before after : Bool) (m : AnalogueOutput) → beq before after ≡ true → m ≡ move_analogue_output before after m
unfolding move_analogue_output
stays true true m e = refl
stays false false m e = refl
stays true false m e = absurd (false≢true e)
stays false true m e = absurd (false≢true e)

pub unmoved : (before after : Bool) (flags : List Bool) (values : List ℤ) → beq before after ≡ true
    → OutputsMoved before after (output_at flags values) (output_at flags values) values values
unmoved before after flags values e =
    record { moved = record { channels = λ n h. stays before after (output_at flags values n) e }; values_kept = outside_none }
