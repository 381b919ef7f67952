use Rattle.std.proofs.Common.{◌≡◌, arith}
use Rattle.packing_terms.specs.Packing.{box_count}
use Rattle.packing_terms.specs.Rules.Rule.{Order}
use Rattle.refutation_steps.proofs.Seeking.{sought_start, sought_next, placed_on, sought_all}
use Rattle.refutation_steps.proofs.places.orders_with.Goals as goal

pub order_with-requires-clause-placed : goal.order_with-requires-clause-placed
order_with-requires-clause-placed c = placed_on c.args.instance.now _ _ _ _ c.args.e _ c.requires.placed
    c.loop-d.invariant

pub loop-d-init : goal.loop-d-init
loop-d-init c = sought_start c.args.instance.now _ _ c.args.e
    (λ k rule. rule ≡ Order c.args.e.dim c.args.a c.args.e.v c.args.e.u k)

pub loop-d-preserved : goal.loop-d-preserved
loop-d-preserved c = sought_next c.args.instance.now _ _ _ _ _ _ c.args.e
    (λ k rule. rule ≡ Order c.args.e.dim c.args.a c.args.e.v c.args.e.u k) c.loop-d.d c.loop-d.invariant
    c.in_ok-order_with.ensures

pub returns : goal.returns
returns c = sought_all c.args.instance.now _ _ _ _ c.args.e
    (λ k rule. rule ≡ Order c.args.e.dim c.args.a c.args.e.v c.args.e.u k) c.loop-d.d (box_count c.args.instance.now)
    (let l = c.loop-d-test.false in let f = c.len-d-end.ensures.value in omega (arith, l, f)) c.loop-d.invariant
