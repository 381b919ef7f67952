use Rattle.std.proofs.Common.{◌≡◌, sym, ap, ◌∙◌, arith}
use Rattle.tree_terms.specs.OuterTrees.{bin_tree}
use Rattle.tree_terms.specs.Paths.{node_view}
use Rattle.proof_tree.specs.Plain.{plain_token}
use Rattle.work_share.specs.Nodes.{plain_node}
use Rattle.tree_tests.proofs.Reached.{child_reached}
use Rattle.tree_tests.proofs.paths.bins_go_down.Goals as goal

pub node-requires-in-Split-Assign-eq1-eq0-eq1 : goal.node-requires-in-Split-Assign-eq1-eq0-eq1
node-requires-in-Split-Assign-eq1-eq0-eq1 c =
    let told : plain_node c.in_ok-placed.field-0
    ≡ node_view (bin_tree c.args.tree.now.instance c.args.tree.now.bins c.args.tree.now.scales) =
    c.in_ok-placed.ensures in
    child_reached (bin_tree c.args.tree.now.instance c.args.tree.now.bins c.args.tree.now.scales)
    (plain_token c.in-Split-Assign-eq1-eq0-eq1.token) c.in-Split-Assign-eq1-eq0-eq1.own
    c.in-Split-Assign-eq1-eq0-eq1.children (sym told ∙ ap plain_node c.in-Split-Assign-eq1-eq0-eq1.is) 0
    (omega (arith, c.in-Split-Assign-eq1-eq0-eq1.children-is))
