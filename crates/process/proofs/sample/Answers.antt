-- sample: refused, or taken by every input line and channel, with their events reported.
-- Assumes nothing.
use mathlib.Core.Path.{◌≡◌, refl}
use native.Mathlib.Omega.{arith}
use Rattle.std.proofs.lemmas.Grind.{common_steps}
use Rattle.store.specs.View.{with_sampled, parts_of}
use Rattle.store.proofs.KeepLaws.{node_kept, outputs_kept}
use Rattle.store.proofs.OutcomeLaws.{Sampling}
use Rattle.store.proofs.CallLaws.{sample_refused, sampled}
use Rattle.process.proofs.sample.Goals as goal

pub returns-in_err-check_sample-clause-call : goal.returns-in_err-check_sample-clause-call
returns-in_err-check_sample-clause-call c =
    let e = c.in_err-check_sample in
    sample_refused c.from_residual.result e.field-0.0 c.from_residual.ensures.1 _ _ _ _ e.ensures

pub returns-clause-call : goal.returns-clause-call
returns-clause-call c =
    let d = c.args.store.now in
    let digital : c.unwrap-digital.result.now ≡ c.args.digital.now = grind (arith, common_steps) in
    let analogue : c.unwrap-analogue.result.now ≡ c.args.analogue.now = grind (arith, common_steps) in
    let e = with_sampled c.sample_all.new.octets c.sample-edges.new.words c.sample_all.new.values d in
    let met = rw (c.is_operational-operational.ensures, c.node-node.ensures, analogue) at c.sample_all.ensures in
    let s : Sampling (parts_of d) (parts_of e) c.args.digital.now c.args.analogue.now _ _ = record {
      node = node_kept d.octets e.octets d.flags d.flags (λ k h. met.octets_kept.low k (omega (arith, h)))
          (met.octets_kept.high 21 (omega arith)) (λ k h. refl);
      outputs = outputs_kept d.flags d.flags d.values e.values (λ k h. refl) (λ k h. met.values_kept.high k h);
      mappings = λ i h. refl;
      watched = refl;
      row = c.load.result;
      edges = c.sample-edges.result;
      reported = c.reported.result;
      loaded = rw (← digital) c.load.ensures;
      lines = rw c.node-node.ensures at c.sample-edges.ensures;
      gated = λ i. (rw (c.is_operational-operational.ensures, c.node-node.ensures) at c.reported.ensures).at i;
      stored = c.store.ensures;
      channels = met.sampled;
    } in
    sampled c.in_ok-check_sample.ensures (met.octets_kept.low 1 (omega arith)) s
