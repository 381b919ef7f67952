use Rattle.std.proofs.Common.{[], ◌∷◌}
use Rattle.packing_terms.specs.Packing.{box_count}
use Rattle.refutation_steps.proofs.Linked.{not_three, not_first, not_second, linked_yet, link_made}
use Rattle.refutation_steps.proofs.Linking.{edge_uv, edge_vx, edge_ux, boxes_there}
use Rattle.refutation_steps.proofs.links.link.Goals as goal

pub sure_before-requires : goal.sure_before-requires
sure_before-requires c = edge_uv c.args.instance.now c.args.state.now c.args.dim c.args.u c.args.v c.args.x
    c.requires.sizes (c.are_three.ensures.yes c.if-not-are_three.false _ c.requires.u c.requires.v c.requires.x)

pub sure_before-requires-2 : goal.sure_before-requires-2
sure_before-requires-2 c = edge_vx c.args.instance.now c.args.state.now c.args.dim c.args.u c.args.v c.args.x
    c.requires.sizes (c.are_three.ensures.yes c.if-not-are_three.false _ c.requires.u c.requires.v c.requires.x)

pub sure_before-requires-3 : goal.sure_before-requires-3
sure_before-requires-3 c = edge_ux c.args.instance.now c.args.state.now c.args.dim c.args.u c.args.v c.args.x
    c.requires.sizes (c.are_three.ensures.yes c.if-not-are_three.false _ c.requires.u c.requires.v c.requires.x)

pub step_compose-requires-clause-boxes : goal.step_compose-requires-clause-boxes
step_compose-requires-clause-boxes c = boxes_there c.args.instance.now c.args.state.now c.args.dim
    (c.args.u ∷ c.args.v ∷ c.args.x ∷ []) c.requires.sizes
    (c.are_three.ensures.yes c.if-not-are_three.false _ c.requires.u c.requires.v c.requires.x)

pub returns-then-not-are_three : goal.returns-then-not-are_three
returns-then-not-are_three c = not_three c.args.instance.now c.args.state.now _ (box_count c.args.instance.now)
    c.args.dim c.args.u c.args.v c.args.x c.are_three.result (c.are_three.ensures.no _) c.if-not-are_three.true

pub returns-then-not-sure_before : goal.returns-then-not-sure_before
returns-then-not-sure_before c = not_first c.args.instance.now c.args.state.now _ (box_count c.args.instance.now)
    c.args.dim c.args.u c.args.v c.args.x c.sure_before.result c.sure_before.ensures c.if-not-sure_before.true

pub returns-then-not-sure_before-2 : goal.returns-then-not-sure_before-2
returns-then-not-sure_before-2 c = not_second c.args.instance.now c.args.state.now _ (box_count c.args.instance.now)
    c.args.dim c.args.u c.args.v c.args.x c.sure_before-2.result c.sure_before-2.ensures c.if-not-sure_before-2.true

pub returns-then-sure_before : goal.returns-then-sure_before
returns-then-sure_before c = linked_yet c.args.instance.now c.args.state.now _ (box_count c.args.instance.now)
    c.args.dim c.args.u c.args.v c.args.x c.sure_before-3.result c.sure_before-3.ensures c.if-sure_before.true

pub returns : goal.returns
returns c = link_made c.args.instance.now _ _ _ _ c.args.dim c.args.u c.args.v c.args.x c.sure_before.result
    c.sure_before-2.result c.sure_before-3.result _ c.requires.sizes.there
    (c.are_three.ensures.yes c.if-not-are_three.false _ c.requires.u c.requires.v c.requires.x)
    c.sure_before.ensures c.if-not-sure_before.false c.sure_before-2.ensures c.if-not-sure_before-2.false
    c.sure_before-3.ensures c.if-sure_before.false c.in_ok-step_compose.ensures
