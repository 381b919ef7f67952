use Rattle.std.proofs.Common.{◌∙◌, arith}
use Rattle.pack_streams.proofs.Writers.{none, more, same}
use Rattle.verdict_terms.specs.Steps.PlainStep.{On}
use Rattle.line_proofs.specs.Plain.{plain_step}
use Rattle.answer_streams.proofs.ExplainedTexts.{steps_more, steps_all}
use Rattle.answer_streams.proofs.explained.write_steps_on.Goals as goal

pub loop-k-init : goal.loop-k-init
loop-k-init g c = none _ _ _

pub loop-k-preserved : goal.loop-k-preserved
loop-k-preserved g c =
    let there = c.loop-k-test.true in
    let count = c.len-k-end.ensures in
    same _ _ _ _ _ _ _ _ (steps_more c.args.steps.now c.loop-k.k (On 0) (plain_step c.step.result.now)
    (c.step.ensures ∙ c.at-held.ensures (On 0)) (omega (arith, there, count)))
    (more _ _ _ _ _ _ _ _ _ _ _ c.loop-k.invariant c.write_step_on-now.ensures)

pub returns : goal.returns
returns g c = same _ _ _ _ _ _ _ _ (steps_all c.args.steps.now c.loop-k.k
    (let l = c.loop-k-test.false in let e = c.len-k-end.ensures in omega (arith, l, e))) c.loop-k.invariant
