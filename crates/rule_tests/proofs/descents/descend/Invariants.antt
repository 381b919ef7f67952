use Rattle.std.proofs.Common.{◌≡◌}
use Rattle.packing_terms.specs.Packing.{dims, box_count}
use Rattle.packing_terms.specs.Exclusions.{excludes}
use Rattle.packing_terms.specs.Closure.{IsStable}
use Rattle.packing_terms.specs.Places.{HasNoEmptyMask}
use Rattle.rule_tests.proofs.descents.descend.Given as goal

abbrev pub invariant-loop : goal.invariant-loop
invariant-loop l = record {
  same_dims : l.state.dims ≡ dims l.instance;
  same_boxes : l.state.boxes ≡ box_count l.instance;
  whole_dims : l.whole.dims ≡ dims l.instance;
  whole_boxes : l.whole.boxes ≡ box_count l.instance;
  room : l.closer ≡ record { dims = l.state.dims; boxes = l.state.boxes };
  stable : IsStable l.instance (excludes l.state.trail);
  full : HasNoEmptyMask l.instance (excludes l.state.trail);
}
