use Rattle.std.proofs.Common.{◌≡◌, ◌<◌, ℕ}
use Rattle.packing_terms.specs.Packing.{written_container, kerf}
use Rattle.class_search.proofs.same.are_same_containers.Given as goal

abbrev pub invariant-loop-dim : goal.invariant-loop-dim
invariant-loop-dim l = (i : ℕ) → i < l.dim → (written_container l.first i ≡ written_container l.second i)
    × (kerf l.first i ≡ kerf l.second i)
