-- Where no box is longer than the container, none is found.
use Rattle.std.proofs.Common.{◌≡◌, arith, None}
use Rattle.packing_terms.specs.Packing.{PlainInstance}
use Rattle.packing_terms.specs.Scales.{SidesFit}
use Rattle.tree_terms.specs.ClassTree.{first_too_large_box}
use Rattle.tree_terms.proofs.FirstFound.{none_large_is}

pub fit_none : (instance : PlainInstance) → SidesFit instance → first_too_large_box instance ≡ None
fit_none instance fit = (none_large_is instance).1
    (λ h. let l = fit h.box_no h.dim h.there h.in_range in let m = h.large in omega (arith, l, m))
