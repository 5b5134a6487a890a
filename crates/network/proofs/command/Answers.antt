-- command: refused, for another node, reset node, or obeyed.
-- Assumes nothing.
use mathlib.Core.Path.{ap}
use native.Mathlib.Omega.{arith}
use Rattle.channels.proofs.StoreLaws.{zeroed_both}
use Rattle.store.proofs.CallLaws.{command_refused, passed, reset, obeyed, obeyed_reset}
use Rattle.network.proofs.command.Goals as goal

pub returns-in_err-command : goal.returns-in_err-command
returns-in_err-command c =
    let e = c.in_err-command in
    command_refused c.from_residual.result e.field-0.0 c.from_residual.ensures.1 _ _ _ e.ensures.numbered

pub returns-then-not-is_addressed : goal.returns-then-not-is_addressed
returns-then-not-is_addressed c = passed _ _ _ _ c.in_ok-command.ensures (cc)

pub returns-in-ResetNode : goal.returns-in-ResetNode
returns-in-ResetNode c =
    reset _ _ _ _ c.in_ok-command.ensures (cc) _ _ (ap (λ n. n.number) c.node-was.ensures) c.in-ResetNode.is c.set_fresh.ensures

pub returns-in-ResetCommunication : goal.returns-in-ResetCommunication
returns-in-ResetCommunication c =
    obeyed_reset _ _ _ _ c.in_ok-command.ensures (cc) _ (cc) _ c.in-ResetCommunication.is
    c.empty_received.ensures c.enter.ensures
    (zeroed_both (omega arith) (omega arith) c.empty_transmitted.ensures c.empty.ensures)

pub returns-in_default : goal.returns-in_default
returns-in_default c =
    obeyed _ _ _ _ c.in_ok-command.ensures (cc) _ (cc) _ c.in_default.not-ResetNode
    c.in_default.not-ResetCommunication c.enter-in_default.ensures
