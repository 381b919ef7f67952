use Rattle.std.proofs.Common.{below_more, ℕ, ◌<◌}
use Rattle.packing_terms.specs.Packing.{AreApart}
use Rattle.placement_check.proofs.verdict.overlap_after.Goals as goal

pub loop-v-preserved : goal.loop-v-preserved
loop-v-preserved c = λ y above below.
    below_more (λ (w : ℕ). c.args.u < w → AreApart c.args.instance.now c.args.places.now c.args.u w) c.loop-v.v
    (λ w l a. c.loop-v.invariant w a l)
    (λ a. c.if-not-are_apart.ensures) y below above
