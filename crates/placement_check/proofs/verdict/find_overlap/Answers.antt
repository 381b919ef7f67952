use Rattle.std.proofs.Common.{below_more, ℕ}
use Rattle.placement_check.specs.Finding.{NoneCrosses}
use Rattle.placement_check.proofs.verdict.find_overlap.Goals as goal

pub loop-u-preserved : goal.loop-u-preserved
loop-u-preserved c =
    below_more (λ (u : ℕ). NoneCrosses c.args.instance.now c.args.places.now u) c.loop-u.u c.loop-u.invariant
    c.in_default.ensures
