-- `size_in` meets its contract: told, or the entry's own.
-- Assumes nothing.
use Rattle.std.proofs.Common.{ap, arith, rules}
use Rattle.profile.specs.Entries.{Entry}
use Rattle.profile.proofs.SizeLaws.{entry_sized}
use Rattle.server_frames.proofs.requests.size_in.Goals as goal

pub returns-in-Ok : goal.returns-in-Ok
returns-in-Ok c =
    let sized = entry_sized c.index_in.result c.sub_in.result in
    (search rules, omega (arith, sized.most, ap (λ (e : Entry). e.size) c.in-Ok.ensures, c.from.ensures))
