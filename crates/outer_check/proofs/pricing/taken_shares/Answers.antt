use Rattle.std.proofs.Common.{sym, ◌∙◌, arith}
use Rattle.verdict_terms.specs.Shares.{share}
use Rattle.outer_check.specs.Frames.{is_put}
use Rattle.outer_check.proofs.Prices.{sum_more, put_fits}
use Rattle.outer_check.proofs.pricing.taken_shares.Goals as goal

pub share_where-total-requires-clause-fits : goal.share_where-total-requires-clause-fits
share_where-total-requires-clause-fits c = λ put.
    put_fits c.args.instance.now c.args.path.now.frames c.loop-v.v (omega arith) c.requires.fit
    (sym c.is_put.ensures ∙ put)

pub loop-v-preserved : goal.loop-v-preserved
loop-v-preserved c = (
  sum_more (λ v. share c.args.instance.now c.args.tuple.now v) (λ v. is_put c.args.path.now.frames 0 v) c.loop-v.v
      c.loop-v.total c.is_put.result c.share_where-total.result c.loop-v.invariant.0 c.is_put.ensures
      c.share_where-total.ensures.value,
  (let a = c.loop-v.invariant.1 in let b = c.share_where-total.ensures.limit in omega (arith, a, b)),
)
