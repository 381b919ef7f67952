use Rattle.packing_terms.specs.Scales.{image_product}
use Rattle.conservative_scales.proofs.Products.{IsTotal}
use Rattle.conservative_scales.proofs.excess.exceeds.Given as goal

abbrev pub invariant-loop-box_no : goal.invariant-loop-box_no
invariant-loop-box_no l = IsTotal (image_product l.instance l.tuple) l.box_no l.total
