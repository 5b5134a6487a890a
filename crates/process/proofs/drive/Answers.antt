-- drive: refused, or both buffers filled with what the outputs drive.
-- Assumes nothing.
use native.Mathlib.Omega.{arith}
use Rattle.std.proofs.lemmas.Grind.{common_steps}
use Rattle.profile.specs.Refusals.{drive_refusal}
use Rattle.store.proofs.CallLaws.{drive_refused, driven}
use Rattle.process.proofs.drive.Goals as goal

pub returns-in_err-check_drive : goal.returns-in_err-check_drive
returns-in_err-check_drive c =
    let e = c.in_err-check_drive in
    drive_refused c.from_residual.result e.field-0.0 c.from_residual.ensures.1 _ _ _ e.ensures

pub drive-requires-2 : goal.drive-requires-2
unfolding drive_refusal
drive-requires-2 c = grind (arith, common_steps, c.in_ok-check_drive.ensures)

pub returns : goal.returns
returns c = driven c.in_ok-check_drive.ensures c.drive.ensures c.drive-2.ensures
