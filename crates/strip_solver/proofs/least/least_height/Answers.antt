use Rattle.tree_terms.proofs.Heights.{none_decides}
use Rattle.strip_solver.proofs.least.least_height.Goals as goal

pub least_from-requires-after_bounds : goal.least_from-requires-after_bounds
least_from-requires-after_bounds g c κs within = none_decides c.args.instance.now c.len-limits.ensures.limits
