use Rattle.std.proofs.Common.{arith}
use Rattle.conservative_scales.proofs.Products.{image_step}
use Rattle.outer_check.proofs.products.image_product.Goals as goal

pub overflow_mul-product : goal.overflow_mul-product
overflow_mul-product c =
    let h = image_step c.args.instance.now c.args.tuple.now c.args.box_no _ _ _ _ _ c.dims-dim-end.ensures.limits
    c.requires.tuple (omega arith)
    (c.requires.fits _ (omega arith)) c.loop-dim.invariant c.container_side.ensures c.side-x.ensures c.image.ensures in
    omega (arith, h.limit)

pub loop-dim-preserved : goal.loop-dim-preserved
loop-dim-preserved c =
    image_step c.args.instance.now c.args.tuple.now c.args.box_no _ _ _ _ _ c.dims-dim-end.ensures.limits
    c.requires.tuple (omega arith)
    (c.requires.fits _ (omega arith)) c.loop-dim.invariant c.container_side.ensures c.side-x.ensures c.image.ensures
