use Rattle.std.proofs.Common.{◌≡◌, ◌≤◌, ◌*◌}
use Rattle.packing_terms.specs.Goals.{worth}
use Rattle.outer_check.specs.Frames.{open_boxes}
use Rattle.outer_check.proofs.step.undecided_worth.Given as goal

abbrev pub invariant-loop-v : goal.invariant-loop-v
invariant-loop-v l = (l.total ≡ worth l.instance (open_boxes l.v l.path.frames)) × (l.total ≤ l.v * 1000000000)
