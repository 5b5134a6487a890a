-- `remarks::put_remark` meets its contract: a window that was found lies among the lines.
-- Assumes nothing.
use Rattle.answers.proofs.AnswerLaws.{home_found}
use Rattle.answers.proofs.remarks.put_remark.Goals as goal

pub put_window_remark-requires : goal.put_window_remark-requires
put_window_remark-requires g c =
    let r = home_found _ c.args.index c.args.sub _ c.in-Ok.ensures c.in-Window.is in
    (r.width.narrow, r.first, r.last)
