use Rattle.conservative_scales.proofs.Products.{IsProduct, whole_of}
use Rattle.packing_terms.specs.Packing.{dims}
use Rattle.outer_check.proofs.products.whole_product.Given as goal

abbrev pub invariant-loop-dim : goal.invariant-loop-dim
invariant-loop-dim l = IsProduct (whole_of l.instance l.tuple) (dims l.instance) l.dim l.product
