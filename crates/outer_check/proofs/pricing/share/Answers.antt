use Rattle.std.proofs.Common.{arith}
use Rattle.verdict_terms.proofs.ShareSteps.{share_most}
use Rattle.outer_check.proofs.Prices.{alone_sides, by_steps}
use Rattle.outer_check.proofs.pricing.share.Goals as goal

pub image_product-scaled-requires-clause-fits : goal.image_product-scaled-requires-clause-fits
image_product-scaled-requires-clause-fits c = alone_sides c.args.instance.now c.args.v c.requires.fits

pub overflow_mul-result : goal.overflow_mul-result
overflow_mul-result c =
    let e = by_steps c.args.instance.now c.args.tuple.now c.args.v c.image_product-scaled.result
    c.whole_product-whole.result c.image_product-scaled.ensures.value c.whole_product-whole.ensures.value in
    let m = share_most c.args.instance.now c.args.tuple.now c.args.v c.requires.tuple c.requires.fits in
    omega (arith, e, m)

pub overflow_add-result : goal.overflow_add-result
overflow_add-result c =
    let e = by_steps c.args.instance.now c.args.tuple.now c.args.v c.image_product-scaled.result
    c.whole_product-whole.result c.image_product-scaled.ensures.value c.whole_product-whole.ensures.value in
    let m = share_most c.args.instance.now c.args.tuple.now c.args.v c.requires.tuple c.requires.fits in
    omega (arith, e, m)

pub overflow_cast-result : goal.overflow_cast-result
overflow_cast-result c =
    let e = by_steps c.args.instance.now c.args.tuple.now c.args.v c.image_product-scaled.result
    c.whole_product-whole.result c.image_product-scaled.ensures.value c.whole_product-whole.ensures.value in
    let m = share_most c.args.instance.now c.args.tuple.now c.args.v c.requires.tuple c.requires.fits in
    omega (arith, e, m)

pub returns-clause-value : goal.returns-clause-value
returns-clause-value c = by_steps c.args.instance.now c.args.tuple.now c.args.v c.image_product-scaled.result
    c.whole_product-whole.result c.image_product-scaled.ensures.value c.whole_product-whole.ensures.value

pub returns-clause-limit : goal.returns-clause-limit
returns-clause-limit c =
    let e = by_steps c.args.instance.now c.args.tuple.now c.args.v c.image_product-scaled.result
    c.whole_product-whole.result c.image_product-scaled.ensures.value c.whole_product-whole.ensures.value in
    let m = share_most c.args.instance.now c.args.tuple.now c.args.v c.requires.tuple c.requires.fits in
    omega (arith, e, m)
