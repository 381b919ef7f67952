use Rattle.std.proofs.Common.{◌≡◌, suc, ◌+◌, not, ap, ◌∙◌, arith}
use Rattle.outer_check.specs.Frames.{is_decided}
use Rattle.outer_check.proofs.ValueSteps.{worth_more}
use Rattle.outer_check.proofs.step.undecided_worth.Goals as goal

pub loop-v-preserved : goal.loop-v-preserved
loop-v-preserved c =
    let next : c.loop-v.v + 1 ≡ suc c.loop-v.v = omega arith in (
      worth_more c.args.instance.now (λ v. not (is_decided c.args.path.now.frames (suc v))) c.loop-v.v c.loop-v.total _
          c.value_where-total.result
          c.loop-v.invariant.0 (ap not (c.is_decided.ensures ∙ ap (is_decided c.args.path.now.frames) next))
          c.value_where-total.ensures.value,
      (let a = c.loop-v.invariant.1 in let b = c.value_where-total.ensures.limit in omega (arith, a, b)),
    )
