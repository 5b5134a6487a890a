-- write: refused for its node, its entry, its access or its value, or taken by the machines.
-- Assumes nothing.
use mathlib.Core.Path.{◌≡◌}
use Rattle.std.proofs.Common.{rules, Err}
use Rattle.objects.proofs.AccessLaws.{write_stopped, write_absent, readable_at}
use Rattle.objects.proofs.AccessLaws.{write_access_refused, write_value_refused, write_taken}
use Rattle.objects.proofs.write.Goals as goal

pub returns-then-is_stopped : goal.returns-then-is_stopped
returns-then-is_stopped c =
    let a = c.args in write_stopped a.store.now a.index a.sub a.bytes.now (cc)

pub returns-in_err-entry : goal.returns-in_err-entry
returns-in_err-entry c =
    let a = c.args in
    let why : c.from_residual.result ≡ Err c.in_err-entry.field-0.0 = search rules in
    rw why
    (write_absent a.store.now a.index a.sub a.bytes.now (cc) c.in_err-entry.field-0.0 c.in_err-entry.ensures)

pub returns-in_err-check_access : goal.returns-in_err-check_access
returns-in_err-check_access c =
    let a = c.args in
    let why : c.from_residual-in_err-check_access.result ≡ Err c.in_err-check_access.field-0.0 = search rules in
    rw why
    (write_access_refused a.index a.sub _ c.in_ok-entry.ensures a.store.now a.bytes.now
    (cc) c.in_err-check_access.field-0.0 c.in_err-check_access.ensures)

pub check_written-requires : goal.check_written-requires
check_written-requires c = readable_at c.args.index c.args.sub _ c.in_ok-entry.ensures

pub returns-in_err-check_written : goal.returns-in_err-check_written
returns-in_err-check_written c =
    let a = c.args in
    let why : c.from_residual-in_err-check_written.result ≡ Err c.in_err-check_written.field-0.0 = search rules in
    rw why
    (write_value_refused a.index a.sub _ c.in_ok-entry.ensures a.bytes.now c.in_ok-check_access.ensures a.store.now
    (cc) c.number-value.result c.number-value.ensures.is
    c.in_err-check_written.field-0.0 c.in_err-check_written.ensures)

pub returns : goal.returns
returns c =
    let a = c.args in
    write_taken a.index a.sub _ c.in_ok-entry.ensures a.bytes.now c.in_ok-check_access.ensures a.store.now
    (cc) c.number-value.result c.number-value.ensures.is
    c.in_ok-check_written.ensures c.after_write.new.store c.after_write.ensures
