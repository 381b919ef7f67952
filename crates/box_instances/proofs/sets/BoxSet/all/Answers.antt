use Rattle.box_instances.proofs.BoxSets.{held_all}
use Rattle.box_instances.proofs.sets.BoxSet.all.Goals as goal

pub invariant_of-result : goal.invariant_of-result
invariant_of-result c = held_all c.args.whole.now _ _ _ c.len.ensures.limits.boxes.count.0
    (rw (← c.len.ensures.value) c.in_ok-keep.ensures.0)
    (rw (← c.len.ensures.value) c.in_ok-keep.ensures.1) c.in_ok-sets.ensures
