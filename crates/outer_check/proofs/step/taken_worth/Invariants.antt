use Rattle.std.proofs.Common.{◌≡◌, ◌≤◌, ◌*◌}
use Rattle.packing_terms.specs.Goals.{worth}
use Rattle.outer_check.specs.Frames.{boxes_put}
use Rattle.outer_check.proofs.step.taken_worth.Given as goal

abbrev pub invariant-loop-v : goal.invariant-loop-v
invariant-loop-v l = (l.total ≡ worth l.instance (boxes_put l.v l.path.frames 0)) × (l.total ≤ l.v * 1000000000)
