use Rattle.std.proofs.Common.{◌≡◌, ◌<◌, ◌+◌, ◌*◌, ℕ, length, get_or}
use Rattle.packing_terms.specs.Packing.{box_count, container_side, side}
use Rattle.packing_terms.specs.Scales.{scale_image}
use Rattle.conservative_scales.proofs.rows.put.Given as goal

abbrev pub invariant-loop-box_no : goal.invariant-loop-box_no
invariant-loop-box_no l = record {
  size : length l.made ≡ length l.fn.made;
  kept : (k : ℕ) → k < l.row * box_count l.instance → get_or l.made k 0 ≡ get_or l.fn.made k 0;
  images : (v : ℕ) → v < l.box_no → get_or l.made (l.row * box_count l.instance + v) 0
      ≡ scale_image l.f (container_side l.instance 0) (side l.instance v 0);
}
