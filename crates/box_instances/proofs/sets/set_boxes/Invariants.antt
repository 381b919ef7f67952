use Rattle.std.proofs.Common.{◌≡◌, length, map, take, get_or}
use Rattle.packing_terms.specs.Packing.{no_box, box_count}
use Rattle.box_instances.proofs.sets.set_boxes.Given as goal

abbrev pub invariant-loop-at : goal.invariant-loop-at
invariant-loop-at l = record {
  count : box_count l.set ≡ length l.keep;
  container : l.set.container ≡ l.whole.container;
  kerfs : l.set.kerfs ≡ l.whole.kerfs;
  done : take l.at l.set.boxes ≡ map (λ v. get_or l.whole.boxes v no_box) (take l.at l.keep);
}
