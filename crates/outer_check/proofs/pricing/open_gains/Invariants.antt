use Rattle.std.proofs.Common.{◌≡◌, ◌≤◌, ◌*◌}
use Rattle.std.specs.Prelude.{sum_by}
use Rattle.verdict_terms.specs.Shares.{gain}
use Rattle.outer_check.specs.Frames.{open_boxes}
use Rattle.outer_check.proofs.pricing.open_gains.Given as goal

abbrev pub invariant-loop-v : goal.invariant-loop-v
invariant-loop-v l =
    (l.total ≡ sum_by (λ v. gain l.instance l.tuple l.value_weight l.share_weight v) (open_boxes l.v l.path.frames))
    × (l.total ≤ l.v * 4294967295000000000)
