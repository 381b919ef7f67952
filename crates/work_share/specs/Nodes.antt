-- A node, as the plain data of the definitions.
use Rattle.tree_terms.specs.Paths.{PlainNode, Leaf as PlainLeaf, Splits}
use Rattle.proof_tree.specs.Plain.{plain_token}
use Rattle.work_share.specs.declared.tree.Node.{Node}
use Rattle.work_share.specs.declared.tree.Node.TheVariants.{Leaf, Split}

abbrev pub plain_node : Node → PlainNode
plain_node Leaf = PlainLeaf
plain_node (Split token own children) = Splits (plain_token token) own children
