-- `Session::answer_line` meets its contract.
-- Assumes nothing.
use Rattle.play.specs.Playing.{short_meaning}
use Rattle.play.proofs.LineLaws.{line_says, answered_call}
use Rattle.play.proofs.session.Session.answer_line.Goals as goal

pub returns : goal.returns
returns c =
    let text = c.args.text.now in
    let held = rw c.len-from.ensures.value at c.remember.ensures in
    line_says c.args.self.now text c.remember.new.self c.is_expectation.result c.is_expectation.ensures c.if-text-is_expectation.false
    (answered_call c.args.self.now c.play_short.new.self c.remember.new.self (short_meaning text) c.play_short.ensures held)
