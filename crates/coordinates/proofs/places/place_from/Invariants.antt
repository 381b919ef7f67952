use Rattle.std.proofs.Common.{◌<◌, ℕ}
use Rattle.packing_terms.specs.Packing.{box_count}
use Rattle.packing_terms.specs.Exclusions.{excludes}
use Rattle.coordinates.specs.Starts.{EndsInHeads}
use Rattle.coordinates.proofs.places.place_from.Given as goal

abbrev pub invariant-loop-dim : goal.invariant-loop-dim
invariant-loop-dim l = (i : ℕ) → i < l.dim
    → EndsInHeads l.instance (excludes l.state.trail) l.into i (box_count l.instance)
