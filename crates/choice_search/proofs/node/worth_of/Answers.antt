use Rattle.std.proofs.Common.{arith}
use Rattle.packing_terms.specs.Packing.{box_count}
use Rattle.packing_terms.proofs.Boxes.{boxes_few}
use Rattle.tree_terms.proofs.ChoiceSearch.{below_at}
use Rattle.choice_search.proofs.node.worth_of.Goals as goal

pub value-sum-requires : goal.value-sum-requires
value-sum-requires c = below_at (box_count c.args.instance.now) c.args.keep.now c.requires c.loop-v.v-index 0
    c.loop-v-test.true

pub overflow_add-sum : goal.overflow_add-sum
overflow_add-sum c =
    let few = boxes_few (box_count c.args.instance.now) c.args.keep.now c.requires in
    let many = c.len-limits.ensures.limits.boxes.count.1 in
    let most = (c.len-limits.ensures.limits.boxes.each _
    (below_at (box_count c.args.instance.now) c.args.keep.now c.requires c.loop-v.v-index 0
    c.loop-v-test.true)).value in
    omega (arith, few, many, most, c.value-sum.ensures, c.loop-v.invariant.small, c.loop-v-test.true)

pub returns-clause-bound : goal.returns-clause-bound
returns-clause-bound c =
    let few = boxes_few (box_count c.args.instance.now) c.args.keep.now c.requires in
    let many = c.len-limits.ensures.limits.boxes.count.1 in
    omega (arith, few, many, c.loop-v.invariant.small, c.loop-v.auto.v-index-end)
