use Rattle.std.proofs.Common.{arith}
use Rattle.conservative_scales.proofs.Products.{whole_step}
use Rattle.outer_check.proofs.products.whole_product.Goals as goal

pub overflow_mul-product : goal.overflow_mul-product
overflow_mul-product c =
    let h = whole_step c.args.instance.now c.args.tuple.now _ _ _ _ c.dims-dim-end.ensures.limits c.requires
    (omega arith)
    c.loop-dim.invariant c.container_side.ensures c.whole.ensures in
    omega (arith, h.limit)

pub loop-dim-preserved : goal.loop-dim-preserved
loop-dim-preserved c =
    whole_step c.args.instance.now c.args.tuple.now _ _ _ _ c.dims-dim-end.ensures.limits c.requires (omega arith)
    c.loop-dim.invariant c.container_side.ensures c.whole.ensures
