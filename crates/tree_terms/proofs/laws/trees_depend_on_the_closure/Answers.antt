use Rattle.tree_terms.proofs.laws.trees_depend_on_the_closure.Goals as goal
use Rattle.tree_terms.proofs.Closed.{same_tree}
use Rattle.tree_terms.proofs.NodeSteps.{tree_of_node, same_depth}

pub returns-clause-same : goal.returns-clause-same
returns-clause-same c = same_tree

pub returns-clause-node : goal.returns-clause-node
returns-clause-node c instance es some_dim = tree_of_node instance some_dim es

pub returns-clause-depth : goal.returns-clause-depth
returns-clause-depth c instance j k es some_dim = same_depth instance some_dim j k es
