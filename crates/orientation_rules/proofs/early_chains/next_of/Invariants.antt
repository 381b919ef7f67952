use Rattle.std.proofs.Common.{◌*◌}
use Rattle.edge_state.specs.BitRows.{row_has, members_below}
use Rattle.orientation_rules.proofs.early_chains.next_of.Given as goal

abbrev pub decreases-loop-y : goal.decreases-loop-y
decreases-loop-y g l = members_below (row_has l.row) (64 * g.row.K)
