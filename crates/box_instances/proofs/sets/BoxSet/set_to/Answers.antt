use Rattle.std.proofs.Common.{◌-◌, ap, arith, length, slice_set}
use Rattle.packing_terms.specs.Packing.{PlainInstance}
use Rattle.box_instances.proofs.BoxSets.{set_few, held_set, part_there, set_of}
use Rattle.box_instances.proofs.sets.BoxSet.set_to.Goals as goal

pub refill-requires : goal.refill-requires
refill-requires c =
    let set = set_of c.self.view_is c.requires.set in
    omega (arith, set_few _ _ set, c.self.invariant.room)

pub index_mut-requires : goal.index_mut-requires
index_mut-requires c =
    let set = set_of c.self.view_is c.requires.set in
    omega (arith, set_few _ _ set, c.self.invariant.parts.many, c.requires.some)

pub set_boxes-requires-clause-named : goal.set_boxes-requires-clause-named
set_boxes-requires-clause-named c = set_of c.self.view_is c.requires.set

pub set_boxes-requires-clause-count : goal.set_boxes-requires-clause-count
set_boxes-requires-clause-count c =
    let set = set_of c.self.view_is c.requires.set in
    (part_there _ _ _ _ c.args.keep.now _ c.self.invariant set c.requires.some c.index_mut.ensures.value).same_count

pub set_boxes-requires-clause-container : goal.set_boxes-requires-clause-container
set_boxes-requires-clause-container c =
    let set = set_of c.self.view_is c.requires.set in
    (part_there _ _ _ _ c.args.keep.now _ c.self.invariant set c.requires.some c.index_mut.ensures.value).container

pub set_boxes-requires-clause-kerfs : goal.set_boxes-requires-clause-kerfs
set_boxes-requires-clause-kerfs c =
    let set = set_of c.self.view_is c.requires.set in
    (part_there _ _ _ _ c.args.keep.now _ c.self.invariant set c.requires.some c.index_mut.ensures.value).kerfs

pub invariant_of-self : goal.invariant_of-self
invariant_of-self c =
    let whole = c.self.inside.whole.now in
    let set = set_of c.self.view_is c.requires.set in
    rw c.refill.ensures.items
    (held_set whole _ c.args.keep.now c.self.inside.sets.items _ (length c.args.keep.now - 1) _ _ c.self.invariant
    c.requires.some set
    (omega (arith, c.requires.some))
    (ap (λ (i : PlainInstance). slice_set c.self.inside.sets.items (length c.args.keep.now - 1) i)
    c.set_boxes.ensures) c.refill.ensures.capacity)
