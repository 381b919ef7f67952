use Rattle.tree_terms.proofs.laws.class_tree_decides.Goals as goal
use Rattle.packing_terms.proofs.Excess.{excess_law}
use Rattle.tree_terms.proofs.Decisions.{decides}

pub returns : goal.returns
returns c instance scales limits = decides instance limits excess_law scales
