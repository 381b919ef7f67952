use Rattle.std.proofs.Common.{◌≡◌, suc, ◌+◌, not, ap, ◌∙◌, arith}
use Rattle.verdict_terms.specs.Shares.{gain}
use Rattle.outer_check.specs.Frames.{is_decided}
use Rattle.outer_check.proofs.Prices.{sum_more}
use Rattle.outer_check.proofs.pricing.open_gains.Goals as goal

pub loop-v-preserved : goal.loop-v-preserved
loop-v-preserved c =
    let next : c.loop-v.v + 1 ≡ suc c.loop-v.v = omega arith in (
      sum_more (λ v. gain c.args.instance.now c.args.tuple.now c.args.value_weight c.args.share_weight v)
          (λ v. not (is_decided c.args.path.now.frames (suc v))) c.loop-v.v c.loop-v.total _ c.gain_where.result
          c.loop-v.invariant.0 (ap not (c.is_decided-undecided.ensures ∙ ap (is_decided c.args.path.now.frames) next))
          c.gain_where.ensures.value,
      (let a = c.loop-v.invariant.1 in let b = c.gain_where.ensures.limit in omega (arith, a, b)),
    )
