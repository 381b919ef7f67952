use Rattle.std.proofs.Common.{◌≡◌, ◌+◌, ◌*◌, ◌^◌, ◌≤◌, get_or}
use Rattle.packing_terms.specs.Packing.{container_side, side}
use Rattle.packing_terms.specs.Scales.{scale_image}
use Rattle.packing_terms.specs.Sums.{sum_below}
use Rattle.conservative_scales.proofs.fastest.exceeds_narrow.Given as goal

abbrev pub invariant-loop-box_no : goal.invariant-loop-box_no
invariant-loop-box_no l = record {
  value : l.total ≡ sum_below l.box_no
      (λ v. get_or l.images (l.at + v) 0 * scale_image l.f (container_side l.instance 0) (side l.instance v 0));
  limit : l.total ≤ l.box_no * 2 ^ 56;
}
