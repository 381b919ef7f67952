use Rattle.std.proofs.Common.{◌≡◌}
use Rattle.std.specs.List.{list_all}
use Rattle.verdict_terms.specs.Shares.{fits_alone}
use Rattle.outer_check.specs.Frames.{boxes_put}
use Rattle.outer_check.proofs.pricing.taken_fit.Given as goal

abbrev pub invariant-loop-v : goal.invariant-loop-v
invariant-loop-v l = l.fit ≡ list_all (fits_alone l.instance) (boxes_put l.v l.path.frames 0)
