use Rattle.std.proofs.Common.{◌*◌, ◌≡◌, ◌<◌, ℕ, true, false}
use Rattle.packing_terms.specs.Packing.{box_count}
use Rattle.packing_terms.specs.Exclusions.{excludes}
use Rattle.packing_terms.specs.Rules.{Order}
use Rattle.edge_state.specs.BitRows.{row_has, members_below}
use Rattle.edge_state.specs.Work.{IsCovered}
use Rattle.rule_passes.proofs.orders.may_order_lasts.Given as goal

abbrev pub invariant-loop-d : goal.invariant-loop-d
invariant-loop-d g l = record {
  covered : (x : ℕ) → row_has l.fn.lasts x ≡ true → row_has l.rest x ≡ false → (y : ℕ) → y < box_count l.instance
      → IsCovered l.instance (excludes l.state.trail) l.state.trail (Order l.dim l.a l.b y x);
  within : (x : ℕ) → row_has l.rest x ≡ true → x < box_count l.instance;
}

abbrev pub decreases-loop-d : goal.decreases-loop-d
decreases-loop-d g l = members_below (row_has l.rest) (64 * g.row.K)
