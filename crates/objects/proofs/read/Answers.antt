-- read: refused, or the value of the entry, with the source bits cleared where they are read.
-- Assumes nothing.
use mathlib.Core.Path.{◌≡◌, refl, sym, ap, ◌∙◌}
use Rattle.std.proofs.Common.{rules, Err}
use Rattle.profile.specs.Entries.{Entry, home_of}
use Rattle.store.specs.View.{parts_of, with_octets}
use Rattle.store.proofs.KeepLaws.{taken}
use Rattle.store.proofs.StepLaws.{read_stepped}
use Rattle.store.proofs.OutcomeLaws.{read_outcome}
use Rattle.objects.proofs.AccessLaws.{read_stopped, read_absent, readable_at, read_passes}
use Rattle.objects.proofs.read.Goals as goal

pub returns-then-is_stopped-clause-call : goal.returns-then-is_stopped-clause-call
returns-then-is_stopped-clause-call c = read_stopped c.args.store.now c.args.index c.args.sub (cc)

pub returns-in_err-entry-clause-call : goal.returns-in_err-entry-clause-call
returns-in_err-entry-clause-call c =
    let why : c.from_residual.result ≡ Err c.in_err-entry.field-0.0 = search rules in
    rw why
    (read_absent c.args.store.now c.args.index c.args.sub (cc) c.in_err-entry.field-0.0 c.in_err-entry.ensures)

pub value_at-value-requires : goal.value_at-value-requires
value_at-value-requires c = readable_at c.args.index c.args.sub _ c.in_ok-entry.ensures

pub returns-clause-call : goal.returns-clause-call
returns-clause-call c =
    let d = c.args.store.now in
    let found = c.in_ok-entry.ensures in
    let home = ap (λ (e : Entry). e.home) found in
    let running = sym (rw c.node.ensures at c.is_stopped.ensures) ∙ c.if-is_stopped.false in
    let s = read_stepped d c.take_sources.new.octets (home_of c.args.index c.args.sub) c.value_at-value.result
    (rw home at c.value_at-value.ensures) (rw home at c.take_sources.ensures) in
    taken d (with_octets c.take_sources.new.octets d) _ _ refl refl s.normal
    (read_outcome (parts_of d) (parts_of (with_octets c.take_sources.new.octets d)) c.args.index c.args.sub _ _
    (read_passes c.args.index c.args.sub _ found d running) (rw home at c.value_at-value.ensures)
    (c.from.ensures ∙ ap (λ (e : Entry). e.size) found) s.machines)
