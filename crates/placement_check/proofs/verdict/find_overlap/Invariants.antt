use Rattle.std.proofs.Common.{ℕ, ◌<◌}
use Rattle.placement_check.specs.Finding.{NoneCrosses}
use Rattle.placement_check.proofs.verdict.find_overlap.Given as goal

abbrev pub invariant-loop-u : goal.invariant-loop-u
invariant-loop-u l = (u : ℕ) → u < l.u → NoneCrosses l.instance l.places u
