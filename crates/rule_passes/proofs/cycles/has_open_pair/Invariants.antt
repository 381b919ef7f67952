use Rattle.std.proofs.Common.{◌*◌, ◌≡◌, ℕ, true, false}
use Rattle.packing_terms.specs.Exclusions.{excludes, IsJoined}
use Rattle.edge_state.specs.BitRows.{row_has, members_below}
use Rattle.rule_passes.proofs.cycles.has_open_pair.Given as goal

abbrev pub invariant-loop-b : goal.invariant-loop-b
invariant-loop-b g l = record {
  part : (x : ℕ) → row_has l.rest x ≡ true → row_has l.fn.row x ≡ true;
  others : (x y : ℕ) → row_has l.fn.row x ≡ true → row_has l.rest x ≡ false → row_has l.fn.row y ≡ true
      → (x ≡ y → ⊥) → IsJoined (excludes l.state.trail) l.dim x y;
}

abbrev pub decreases-loop-b : goal.decreases-loop-b
decreases-loop-b g l = members_below (row_has l.rest) (64 * g.row.K)
