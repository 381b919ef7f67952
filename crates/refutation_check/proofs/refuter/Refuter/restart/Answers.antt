use Rattle.std.proofs.Common.{◌∙◌, ◌++◌, ◌∷◌, [], List, ap, refl, arith}
use Rattle.packing_terms.specs.Packing.{box_count}
use Rattle.packing_terms.specs.Goals.{subset}
use Rattle.box_instances.specs.Sets.{PlainBoxSet}
use Rattle.refutation_check.specs.declared.node.OpenNode.{OpenNode}
use Rattle.refutation_check.proofs.Begun.{begun_again, set_kept, part_count}
use Rattle.refutation_check.proofs.refuter.Refuter.restart.Goals as goal

pub resize-requires-clause-room : goal.resize-requires-clause-room
resize-requires-clause-room c =
    let set = set_kept _ _ c.args.keep.now c.self.view_is c.requires.set in
    let count = part_count c.self.inside.boxes.whole _ c.args.keep.now _ _ set c.set_to.ensures c.instance.ensures
    c.len-count.ensures.value in
    omega (arith, count, c.self.invariant.state_room)

pub set_boxes-requires-clause-most : goal.set_boxes-requires-clause-most
set_boxes-requires-clause-most c =
    let set = set_kept _ _ c.args.keep.now c.self.view_is c.requires.set in
    let count = part_count c.self.inside.boxes.whole _ c.args.keep.now _ _ set c.set_to.ensures c.instance.ensures
    c.len-count.ensures.value in
    omega (arith, count, c.self.invariant.room_most)

pub invariant_of-self : goal.invariant_of-self
invariant_of-self c =
    let whole = c.self.inside.boxes.whole in
    let set = set_kept _ _ c.args.keep.now c.self.view_is c.requires.set in
    begun_again whole (subset whole c.self.inside.boxes.keep) c.args.keep.now c.set_to.new.self c.clear.new.self.items
    c.clear-2.new.self.items c.self.inside.nodes.items
    c.push_reserved.new.self.items c.self.inside.start.items c.self.inside.splits.items c.self.inside.state
    c.resize.new.self c.self.inside.room c.set_boxes.new.self c.root.result
    _ _ _ _ c.len-count.result c.mark.result c.self.invariant refl set c.set_to.ensures
    (c.len-count.ensures.value ∙ (ap box_count c.instance.ensures
    ∙ ap (λ (s : PlainBoxSet). box_count (subset s.whole s.keep)) c.set_to.ensures))
    c.resize.ensures c.set_boxes.ensures c.clear.ensures.items c.clear-2.ensures.items
    (c.push_reserved.ensures.items ∙ ap (λ (l : List OpenNode). l ++ c.root.result ∷ []) c.clear-3.ensures.items)
    c.clear-2.ensures.capacity
    (c.push_reserved.ensures.capacity ∙ c.clear-3.ensures.capacity) c.mark.ensures c.root.ensures
