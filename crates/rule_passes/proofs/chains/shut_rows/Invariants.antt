use Rattle.std.proofs.Common.{◌≡◌, ◌<◌, ◌*◌, ℕ, true, false}
use Rattle.packing_terms.specs.declared.Direction.TheVariants.{Forwards, Backwards}
use Rattle.edge_state.specs.ChainWeights.{weights_in}
use Rattle.packing_terms.specs.Packing.{box_count}
use Rattle.edge_state.specs.BitRows.{row_has, members_below}
use Rattle.edge_state.specs.Passes.{IsPass, IsChainChecked}
use Rattle.rule_passes.proofs.chains.shut_rows.Given as goal

abbrev pub invariant-loop-u : goal.invariant-loop-u
invariant-loop-u g l = record {
  within : (u : ℕ) → row_has l.rest u ≡ true → u < box_count l.instance;
  pass : IsPass l.instance l.fn.state l.state
      (λ es. (u : ℕ) → row_has l.fn.row u ≡ true → row_has l.rest u ≡ false → (v : ℕ) → v < box_count l.instance
      → IsChainChecked l.instance l.dim (weights_in l.weights.numbers Backwards l.dim) (weights_in l.weights.numbers Forwards l.dim) u v es);
}

abbrev pub decreases-loop-u : goal.decreases-loop-u
decreases-loop-u g l = members_below (row_has l.rest) (64 * g.row.K)
