use Rattle.verdict_terms.specs.Shares.{fits_alone}
use Rattle.outer_check.specs.Frames.{is_put}
use Rattle.outer_check.proofs.Prices.{all_more}
use Rattle.outer_check.proofs.pricing.taken_fit.Goals as goal

pub loop-v-preserved : goal.loop-v-preserved
loop-v-preserved c = all_more (fits_alone c.args.instance.now) (λ v. is_put c.args.path.now.frames 0 v) c.loop-v.v c.loop-v.fit
    c.is_put.result c.fits_where-here.result c.loop-v.invariant c.is_put.ensures c.fits_where-here.ensures
