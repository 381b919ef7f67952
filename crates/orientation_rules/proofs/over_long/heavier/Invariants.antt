use Rattle.std.proofs.Common.{◌≡◌, ◌*◌, ◌<◌, ◌&&◌, ◌||◌, ℕ, true, nat_lt, length, slice_index}
use Rattle.edge_state.specs.BitRows.{row_has, members_below}
use Rattle.orientation_rules.proofs.over_long.heavier.Given as goal

abbrev pub invariant-loop-v : goal.invariant-loop-v
invariant-loop-v g l = record {
  told : (v : ℕ) → row_has l.heavy v || (row_has l.rest v && nat_lt l.most (slice_index l.weights v))
      ≡ row_has l.fn.row v && nat_lt l.most (slice_index l.weights v);
  within : (v : ℕ) → row_has l.rest v ≡ true → v < length l.weights;
}

abbrev pub decreases-loop-v : goal.decreases-loop-v
decreases-loop-v g l = members_below (row_has l.rest) (64 * g.row.K)
