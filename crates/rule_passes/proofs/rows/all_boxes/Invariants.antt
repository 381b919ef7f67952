use Rattle.std.proofs.Common.{◌≡◌, ℕ, nat_lt}
use Rattle.edge_state.specs.BitRows.{row_has}
use Rattle.rule_passes.proofs.rows.all_boxes.Given as goal

abbrev pub invariant-loop-v : goal.invariant-loop-v
invariant-loop-v g l = (x : ℕ) → row_has l.all x ≡ nat_lt x l.v
