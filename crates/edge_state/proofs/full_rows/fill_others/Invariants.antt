use Rattle.std.proofs.Common.{◌≡◌, ◌<◌, ◌*◌, ◌/◌, ◌%◌, ℕ, [], get_or, length}
use Rattle.edge_state.specs.BitRows.{row_has}
use Rattle.edge_state.specs.Edges.{is_other_box}
use Rattle.edge_state.proofs.full_rows.fill_others.Given as goal

abbrev pub invariant-loop-place : goal.invariant-loop-place
invariant-loop-place l = record {
  length : length l.rows.rows ≡ length l.initial.rows.rows;
  seconds : l.rows.seconds ≡ l.initial.rows.seconds;
  below : l.u < l.boxes;
  box : l.u ≡ l.place % l.boxes;
  each : (k : ℕ) → k < l.place * 3 → (x : ℕ)
      → row_has (get_or l.rows.rows k []) x ≡ is_other_box l.boxes (k / 3 % l.boxes) x;
}
