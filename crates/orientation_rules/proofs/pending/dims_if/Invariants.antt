use Rattle.std.proofs.Common.{◌≡◌, ℕ, nat_lt}
use Rattle.edge_state.specs.BitRows.{row_has}
use Rattle.orientation_rules.proofs.pending.dims_if.Given as goal

abbrev pub invariant-loop-dim : goal.invariant-loop-dim
invariant-loop-dim l = (i : ℕ) → row_has l.row i ≡ nat_lt i l.dim
