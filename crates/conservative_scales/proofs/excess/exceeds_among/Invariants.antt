use Rattle.packing_terms.specs.Scales.{image_product}
use Rattle.packing_terms.specs.Goals.{subset}
use Rattle.conservative_scales.proofs.Products.{IsTotal}
use Rattle.conservative_scales.proofs.excess.exceeds_among.Given as goal

abbrev pub invariant-loop-k : goal.invariant-loop-k
invariant-loop-k l = IsTotal (image_product (subset l.instance l.keep) l.tuple) l.k l.total
