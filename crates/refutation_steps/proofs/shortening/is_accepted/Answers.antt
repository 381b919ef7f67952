use Rattle.std.proofs.Common.{◌∙◌, ap, arith}
use Rattle.packing_terms.specs.Packing.{PlainInstance}
use Rattle.verdict_terms.specs.Auditing.{audited_with}
use Rattle.verdict_terms.specs.Steps.PlainStep.{On}
use Rattle.line_proofs.specs.Auditors.{PlainAuditor}
use Rattle.line_proofs.specs.Plain.{plain_step}
use Rattle.refutation_steps.proofs.Shorter.{run_next, run_whole}
use Rattle.refutation_steps.proofs.shortening.is_accepted.Goals as goal

pub loop-k-preserved : goal.loop-k-preserved
loop-k-preserved c =
    let step = plain_step c.step.result.now in
    let there = c.loop-k-test.true in
    let count = c.len-k-end.ensures in
    record {
      same = ap (λ (r : PlainAuditor). r.instance) c.feed.ensures.step ∙ c.loop-k.invariant.same;
      rest = run_next c.args.instance.now c.args.lines.now c.loop-k.k (On 0) step (omega (arith, there, count))
          (c.step.ensures ∙ c.at-line.ensures (On 0)) c.loop-k.auditor.audited c.feed.new.self.audited _
          (ap (λ (r : PlainAuditor). r.audited) c.feed.ensures.step
          ∙ ap (λ (i : PlainInstance). audited_with i c.loop-k.auditor.audited step) c.loop-k.invariant.same)
          c.loop-k.invariant.rest;
    }

pub returns : goal.returns
returns c h = run_whole c.args.instance.now c.args.lines.now c.loop-k.k c.loop-k.auditor.audited c.whole.result
    (let l = c.loop-k-test.false in let e = c.len-k-end.ensures in omega (arith, l, e)) c.loop-k.invariant.rest
    c.whole.ensures.value h
