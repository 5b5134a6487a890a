-- `text::put_signed` meets its contract: a sign where the number is below 0, and its absolute value.
-- Assumes nothing.
use Rattle.std.proofs.lemmas.Int.{to_z-of_z}
use Rattle.words.proofs.BufferLaws.{put_then}
use Rattle.texts.proofs.TextLaws.{signed_is}
use Rattle.texts.proofs.text.put_signed.Goals as goal
use Rattle.texts.proofs.text.put_signed.Goals.{then-is_negative, else-is_negative}

pub returns : goal.returns
returns g c =
    let fits = c.ranges.number in
    let negative = simp to_z-of_z at c.is_negative.ensures in
    let size = simp to_z-of_z at c.unsigned_abs.ensures.value in
    let text = signed_is c.args.number c.from.result fits (cc) in
    elim c.if-is_negative.branch [
      | then-is_negative w ↦ rw (text, ← negative, w.if-is_negative.true, c.put_decimal.ensures, w.out-is, w.put.ensures) (put_then _ _ _ _)
      | else-is_negative w ↦ rw (text, ← negative, w.if-is_negative.false, c.put_decimal.ensures, w.out-is)
    ]
