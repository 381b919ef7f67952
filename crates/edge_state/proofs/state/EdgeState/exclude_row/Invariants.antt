use Rattle.std.proofs.Common.{◌*◌, ◌≡◌, ℕ, true, false}
use Rattle.packing_terms.specs.Exclusions.{excludes}
use Rattle.edge_state.specs.BitRows.{row_has, members_below}
use Rattle.edge_state.specs.Edges.{is_other_box}
use Rattle.edge_state.specs.RowExclusions.{with_row}
use Rattle.edge_state.proofs.state.EdgeState.exclude_row.Given as goal

abbrev pub invariant-loop-v : goal.invariant-loop-v
invariant-loop-v g l = record {
  state : l.self ≡ record l.fn.self { trail = l.self.trail };
  still : with_row l.self.trail l.dim l.u l.rel (row_has l.rest) l.fn.self.boxes
      ≡ with_row l.fn.self.trail l.dim l.u l.rel (row_has l.row) l.fn.self.boxes;
  others : (x : ℕ) → row_has l.rest x ≡ true → is_other_box l.fn.self.boxes l.u x ≡ true;
  free : (x : ℕ) → row_has l.rest x ≡ true → excludes l.self.trail l.dim l.u x l.rel ≡ false;
}

abbrev pub decreases-loop-v : goal.decreases-loop-v
decreases-loop-v g l = members_below (row_has l.rest) (64 * g.row.K)
