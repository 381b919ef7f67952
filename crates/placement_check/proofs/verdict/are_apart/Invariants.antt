use Rattle.std.proofs.Common.{ℕ, ◌<◌, ◌+◌}
use Rattle.packing_terms.specs.Packing.{place, kerf, written_side}
use Rattle.placement_check.proofs.verdict.are_apart.Given as goal

abbrev pub invariant-loop-dim : goal.invariant-loop-dim
invariant-loop-dim l = (i : ℕ) → i < l.dim
    → (place l.instance l.places l.v i < place l.instance l.places l.u i + written_side l.instance l.u i + kerf
    l.instance i)
    × (place l.instance l.places l.u i < place l.instance l.places l.v i + written_side l.instance l.v i + kerf
    l.instance i)
