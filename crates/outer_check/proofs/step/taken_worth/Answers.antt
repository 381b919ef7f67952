use Rattle.std.proofs.Common.{arith}
use Rattle.outer_check.specs.Frames.{is_put}
use Rattle.outer_check.proofs.ValueSteps.{worth_more}
use Rattle.outer_check.proofs.step.taken_worth.Goals as goal

pub loop-v-preserved : goal.loop-v-preserved
loop-v-preserved c = (
  worth_more c.args.instance.now (λ v. is_put c.args.path.now.frames 0 v) c.loop-v.v c.loop-v.total c.is_put.result
      c.value_where-total.result
      c.loop-v.invariant.0 c.is_put.ensures c.value_where-total.ensures.value,
  (let a = c.loop-v.invariant.1 in let b = c.value_where-total.ensures.limit in omega (arith, a, b)),
)
