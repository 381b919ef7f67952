use Rattle.std.proofs.Common.{ap, arith, length}
use Rattle.bin_search.specs.Lists.{lists_of}
use Rattle.bin_search.proofs.Placing.{has_answers}
use Rattle.bin_search.proofs.path.enter.Goals as goal

pub bin_numbers-requires : goal.bin_numbers-requires
bin_numbers-requires c =
    let e = ap length c.requires.order in
    let most = c.requires.limits.boxes.count.1 in
    rw (c.deref.ensures.value, c.deref-then-node-order.ensures.value)
    (has_answers c.args.instance.now c.requires.limits c.args.most c.args.node.placed
    (lists_of c.args.node.bins.items) (lists_of c.args.node.answers.items)
    (omega (arith, most, c.requires.few)) c.requires.node (omega (arith, e, c.if-node-order.true)))
