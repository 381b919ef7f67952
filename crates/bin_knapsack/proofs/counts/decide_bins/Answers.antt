use Rattle.std.proofs.Common.{ap, ◌∙◌}
use Rattle.tree_terms.specs.Levels.{level_by}
use Rattle.bin_knapsack.proofs.counts.decide_bins.Goals as goal

pub returns-clause-level : goal.returns-clause-level
returns-clause-level g c = c.level_of.ensures ∙ ap level_by (rw c.in_ok-tree.ensures at c.in_ok-outcome.ensures.outcome)
