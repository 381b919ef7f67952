use Rattle.tree_terms.proofs.laws.outer_trees_decide.Goals as goal
use Rattle.packing_terms.proofs.Excess.{excess_law}
use Rattle.tree_terms.proofs.OuterDecisions.{decides_bins, decides_value}

pub returns-clause-bins : goal.returns-clause-bins
returns-clause-bins c instance k scales limits = decides_bins instance limits excess_law k scales

pub returns-clause-value : goal.returns-clause-value
returns-clause-value c instance goal scales limits = decides_value instance limits excess_law goal scales
