use Rattle.std.proofs.Common.{◌≡◌, sym, ap, ◌∙◌, arith}
use Rattle.tree_terms.specs.OuterTrees.{choice_tree}
use Rattle.tree_terms.specs.Paths.{node_view}
use Rattle.proof_tree.specs.Plain.{plain_token}
use Rattle.work_share.specs.Nodes.{plain_node}
use Rattle.tree_tests.proofs.Reached.{child_reached}
use Rattle.tree_tests.proofs.paths.choices_go_down.Goals as goal

pub explore-requires-in-Split-Choose-eq1-eq0-eq2 : goal.explore-requires-in-Split-Choose-eq1-eq0-eq2
explore-requires-in-Split-Choose-eq1-eq0-eq2 c =
    let told : plain_node c.in_ok-inside.field-0
    ≡ node_view (choice_tree c.args.tree.now.instance c.args.tree.now.goal c.args.tree.now.scales) =
    c.in_ok-inside.ensures in
    child_reached (choice_tree c.args.tree.now.instance c.args.tree.now.goal c.args.tree.now.scales)
    (plain_token c.in-Split-Choose-eq1-eq0-eq2.token) c.in-Split-Choose-eq1-eq0-eq2.own
    c.in-Split-Choose-eq1-eq0-eq2.children (sym told ∙ ap plain_node c.in-Split-Choose-eq1-eq0-eq2.is) 0
    (omega (arith, c.in-Split-Choose-eq1-eq0-eq2.children-is))

pub explore-requires-in-Split-Choose-eq1-eq0-eq2-2 : goal.explore-requires-in-Split-Choose-eq1-eq0-eq2-2
explore-requires-in-Split-Choose-eq1-eq0-eq2-2 c =
    let told : plain_node c.in_ok-inside.field-0
    ≡ node_view (choice_tree c.args.tree.now.instance c.args.tree.now.goal c.args.tree.now.scales) =
    c.in_ok-inside.ensures in
    child_reached (choice_tree c.args.tree.now.instance c.args.tree.now.goal c.args.tree.now.scales)
    (plain_token c.in-Split-Choose-eq1-eq0-eq2.token) c.in-Split-Choose-eq1-eq0-eq2.own
    c.in-Split-Choose-eq1-eq0-eq2.children (sym told ∙ ap plain_node c.in-Split-Choose-eq1-eq0-eq2.is) 1
    (omega (arith, c.in-Split-Choose-eq1-eq0-eq2.children-is))

pub explore-requires-in-Split-Choose-eq1-eq0-eq2-3 : goal.explore-requires-in-Split-Choose-eq1-eq0-eq2-3
explore-requires-in-Split-Choose-eq1-eq0-eq2-3 c =
    let told : plain_node c.in_ok-inside.field-0
    ≡ node_view (choice_tree c.args.tree.now.instance c.args.tree.now.goal c.args.tree.now.scales) =
    c.in_ok-inside.ensures in
    child_reached (choice_tree c.args.tree.now.instance c.args.tree.now.goal c.args.tree.now.scales)
    (plain_token c.in-Split-Choose-eq1-eq0-eq2.token) c.in-Split-Choose-eq1-eq0-eq2.own
    c.in-Split-Choose-eq1-eq0-eq2.children (sym told ∙ ap plain_node c.in-Split-Choose-eq1-eq0-eq2.is) 1
    (omega (arith, c.in-Split-Choose-eq1-eq0-eq2.children-is))

pub node-requires-in-Split-Choose-eq1-eq0-eq2 : goal.node-requires-in-Split-Choose-eq1-eq0-eq2
node-requires-in-Split-Choose-eq1-eq0-eq2 c =
    let told : plain_node c.in_ok-inside.field-0
    ≡ node_view (choice_tree c.args.tree.now.instance c.args.tree.now.goal c.args.tree.now.scales) =
    c.in_ok-inside.ensures in
    child_reached (choice_tree c.args.tree.now.instance c.args.tree.now.goal c.args.tree.now.scales)
    (plain_token c.in-Split-Choose-eq1-eq0-eq2.token) c.in-Split-Choose-eq1-eq0-eq2.own
    c.in-Split-Choose-eq1-eq0-eq2.children (sym told ∙ ap plain_node c.in-Split-Choose-eq1-eq0-eq2.is) 1
    (omega (arith, c.in-Split-Choose-eq1-eq0-eq2.children-is))
