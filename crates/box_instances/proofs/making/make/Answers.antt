use Rattle.std.proofs.Common.{map, ◌∙◌}
use Rattle.packing_terms.proofs.Made.{made_within}
use Rattle.box_instances.specs.Plain.{plain_box}
use Rattle.box_instances.proofs.MadeBoxes.{made_more, made_whole, made_parts, count_made}
use Rattle.box_instances.proofs.making.make.Goals as goal

pub loop-v-preserved : goal.loop-v-preserved
loop-v-preserved c =
    made_more c.args.number c.loop-v.v c.loop-v.draws.seed c.loop-v.boxes.items c.push.new.self.items
    c.next_box-item.result c.next_box-item.new.draws.seed
    c.loop-v.invariant c.in-Ok.ensures.items
    (c.next_box-item.ensures.item c.args.number c.loop-v.v c.loop-v.invariant.seed) c.next_box-item.ensures.seed

pub of_parts-requires : goal.of_parts-requires
of_parts-requires c =
    made_parts c.args.number c.loop-v.v c.loop-v.draws.seed c.two_sides-container.result.items
    c.two_sides-kerf.result.items (map plain_box c.loop-v.boxes.items)
    c.two_sides-container.ensures c.two_sides-kerf.ensures c.loop-v.invariant
    (count_made c.args.number c.next.result c.loop-v.v c.next.ensures.draw c.loop-v.auto.v-end c.loop-v-test.false)

pub returns-clause-ok : goal.returns-clause-ok
returns-clause-ok c =
    c.of_parts.ensures ∙ made_whole c.args.number c.loop-v.v c.loop-v.draws.seed c.two_sides-container.result.items
    c.two_sides-kerf.result.items (map plain_box c.loop-v.boxes.items)
    c.two_sides-container.ensures c.two_sides-kerf.ensures c.loop-v.invariant
    (count_made c.args.number c.next.result c.loop-v.v c.next.ensures.draw c.loop-v.auto.v-end c.loop-v-test.false)

pub returns-clause-limits : goal.returns-clause-limits
returns-clause-limits c = made_within c.args.number
