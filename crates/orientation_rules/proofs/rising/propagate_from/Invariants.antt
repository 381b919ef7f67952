use Rattle.std.proofs.Common.{◌≡◌, ◌<◌, ◌≤◌, ◌*◌, ℕ, [], true, false, length, slice_index, slice_index_or}
use Rattle.packing_terms.specs.Packing.{box_count, side}
use Rattle.packing_terms.specs.Exclusions.{excludes}
use Rattle.packing_terms.specs.Runs.{HasNoHeavierRun, Leads}
use Rattle.edge_state.specs.BitRows.{members_below, row_has}
use Rattle.edge_state.specs.ChainWeights.{IsSameHistory, list_number, weights_in}
use Rattle.orientation_rules.specs.Raises.{AreRaised, raises_left}
use Rattle.orientation_rules.proofs.rising.propagate_from.Given as goal

abbrev pub invariant-loop-v : goal.invariant-loop-v
invariant-loop-v g l = record {
  history : IsSameHistory l.fn.weights l.weights;
  other : (list : ℕ) → (list ≡ list_number l.direction l.dim → ⊥)
      → slice_index_or l.weights.numbers list [] ≡ slice_index_or l.fn.weights.numbers list [];
  raised : AreRaised l.instance l.state l.dim l.direction l.fn.weights.numbers l.weights.numbers l.fn.rest l.rest
      l.fn.risen l.risen;
  same : slice_index (weights_in l.weights.numbers l.direction l.dim) l.x ≡ l.from;
  settled : (v : ℕ) → v < box_count l.instance → row_has l.row v ≡ false
      → HasNoHeavierRun (Leads (excludes l.state.trail) l.dim l.direction) (λ u. side l.instance u l.dim)
      (weights_in l.weights.numbers l.direction l.dim) v l.x;
  within : (v : ℕ) → row_has l.row v ≡ true → v < l.state.boxes;
  leads : (v : ℕ) → row_has l.row v ≡ true → (v ≡ l.x → ⊥)
      × Leads (excludes l.state.trail) l.dim l.direction v l.x;
  fewer : raises_left g.row.K (length l.weights.log) l.rest ≤ raises_left g.row.K (length l.fn.weights.log) l.fn.rest;
}

abbrev pub decreases-loop-v : goal.decreases-loop-v
decreases-loop-v g l = members_below (row_has l.row) (64 * g.row.K)
