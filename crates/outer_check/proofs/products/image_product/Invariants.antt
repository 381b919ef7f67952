use Rattle.conservative_scales.proofs.Products.{IsProduct, image_of}
use Rattle.packing_terms.specs.Packing.{dims}
use Rattle.outer_check.proofs.products.image_product.Given as goal

abbrev pub invariant-loop-dim : goal.invariant-loop-dim
invariant-loop-dim l = IsProduct (image_of l.instance l.tuple l.box_no) (dims l.instance) l.dim l.product
