use Rattle.std.proofs.Common.{ℕ, ◌<◌}
use Rattle.verdict_terms.specs.Tested.{LiesWithin}
use Rattle.placement_check.proofs.verdict.leaving_dim.Given as goal

abbrev pub invariant-loop-dim : goal.invariant-loop-dim
invariant-loop-dim l = (i : ℕ) → i < l.dim → LiesWithin l.instance l.places l.box_no i
