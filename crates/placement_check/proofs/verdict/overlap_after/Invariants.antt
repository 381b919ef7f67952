use Rattle.std.proofs.Common.{ℕ, ◌<◌}
use Rattle.packing_terms.specs.Packing.{AreApart}
use Rattle.placement_check.proofs.verdict.overlap_after.Given as goal

abbrev pub invariant-loop-v : goal.invariant-loop-v
invariant-loop-v l = (y : ℕ) → l.u < y → y < l.v → AreApart l.instance l.places l.u y
