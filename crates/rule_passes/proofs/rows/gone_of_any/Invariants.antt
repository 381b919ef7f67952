use Rattle.std.proofs.Common.{◌*◌, ◌≡◌, ◌<◌, ℕ, true, false}
use Rattle.packing_terms.specs.Packing.{box_count}
use Rattle.packing_terms.specs.Exclusions.{excludes}
use Rattle.edge_state.specs.BitRows.{row_has, members_below}
use Rattle.rule_passes.specs.Reached.{IsGoneOf}
use Rattle.rule_passes.proofs.rows.gone_of_any.Given as goal

abbrev pub invariant-loop-x : goal.invariant-loop-x
invariant-loop-x g l = record {
  part : (x : ℕ) → row_has l.rest x ≡ true → row_has l.fn.row x ≡ true;
  within : (y : ℕ) → row_has l.found y ≡ true → y < box_count l.instance;
  gone : (y : ℕ) → row_has l.found y ≡ true
      → IsGoneOf (excludes l.state.trail) l.dim (row_has l.fn.row) l.first l.second y;
  others : (x y : ℕ) → row_has l.fn.row x ≡ true → row_has l.rest x ≡ false → y < box_count l.instance → (x ≡ y → ⊥)
      → row_has l.found y ≡ false → excludes l.state.trail l.dim x y l.first ≡ true
      → excludes l.state.trail l.dim x y l.second ≡ true → ⊥;
}

abbrev pub decreases-loop-x : goal.decreases-loop-x
decreases-loop-x g l = members_below (row_has l.rest) (64 * g.row.K)
