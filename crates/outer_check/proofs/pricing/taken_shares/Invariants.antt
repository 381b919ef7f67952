use Rattle.std.proofs.Common.{◌≡◌, ◌≤◌, ◌*◌}
use Rattle.verdict_terms.specs.Shares.{shares}
use Rattle.outer_check.specs.Frames.{boxes_put}
use Rattle.outer_check.proofs.pricing.taken_shares.Given as goal

abbrev pub invariant-loop-v : goal.invariant-loop-v
invariant-loop-v l = (l.total ≡ shares l.instance l.tuple (boxes_put l.v l.path.frames 0)) × (l.total ≤ l.v * 1000000000)
