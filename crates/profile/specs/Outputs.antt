-- What the outputs of both kinds share: the driven value d by fault. Document 01, "Digital lines", the output machine; of a channel "The
-- machine is the digital output's, with numbers for bits".
-- Assumes nothing.
use Rattle.std.specs.Prelude.{Bool, true, false, cond}

-- "Outside fault d is k, inverted where polarity is 1. .. During fault d doesn't move, though k and settings are written."
module _ {A : Type 0} where
  abbrev pub following : Bool → A → A → A
  following fault follows d = cond fault d follows

  -- "When fault begins, d becomes the error value (polarity not applied) if error mode is 1, else stays. During fault d doesn't move ..
  -- When fault ends, d follows k and polarity again.": d by fault before and after. Of lines, document 02, Item 6 changes what the
  -- parentheses say (`move_output_line`).
  abbrev pub fault_moves : Bool → Bool → Bool → A → A → A → A
  fault_moves false true mode error follows d = cond mode error d
  fault_moves true false mode error follows d = follows
  fault_moves false false mode error follows d = d
  fault_moves true true mode error follows d = d
