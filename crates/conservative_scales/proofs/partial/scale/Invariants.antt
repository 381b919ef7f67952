use Rattle.std.proofs.Common.{ℕ, ◌≡◌, ◌<◌, ◌+◌, ◌*◌, get_or, length}
use Rattle.packing_terms.specs.Packing.{box_count, container_side, side}
use Rattle.packing_terms.specs.Scales.{scale_image}
use Rattle.conservative_scales.proofs.partial.scale.Given as goal

abbrev pub invariant-loop-box_no : goal.invariant-loop-box_no
invariant-loop-box_no l = record {
  length : length l.images ≡ length l.initial.images;
  kept : (k : ℕ) → k < l.at + box_count l.instance → get_or l.images k 0 ≡ get_or l.initial.images k 0;
  scaled : (v : ℕ) → v < l.box_no → get_or l.images (l.at + box_count l.instance + v) 0
      ≡ get_or l.initial.images (l.at + v) 0 * scale_image l.f (container_side l.instance l.dim)
      (side l.instance v l.dim);
}
