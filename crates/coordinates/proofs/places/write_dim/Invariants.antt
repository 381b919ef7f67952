use Rattle.std.proofs.Common.{◌≡◌, ◌≢◌, ◌<◌, ℕ}
use Rattle.packing_terms.specs.Packing.{dims, place}
use Rattle.packing_terms.specs.Exclusions.{excludes}
use Rattle.coordinates.specs.Starts.{EndsInHeads}
use Rattle.coordinates.proofs.places.write_dim.Given as goal

abbrev pub invariant-loop-v : goal.invariant-loop-v
invariant-loop-v l = record {
  heads : EndsInHeads l.instance (excludes l.state.trail) l.into l.dim l.v;
  others : (v i : ℕ) → i < dims l.instance → i ≢ l.dim → place l.instance l.into v i ≡ place l.instance l.fn.into v i;
}
