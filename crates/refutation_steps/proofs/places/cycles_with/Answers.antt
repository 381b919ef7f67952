use Rattle.std.proofs.Common.{◌≡◌, arith}
use Rattle.packing_terms.specs.Packing.{box_count}
use Rattle.packing_terms.specs.Rules.Rule.{Cycle}
use Rattle.refutation_steps.proofs.Seeking.{sought_start, sought_next, placed_on, sought_all}
use Rattle.refutation_steps.proofs.places.cycles_with.Goals as goal

pub cycle_with-requires-clause-placed : goal.cycle_with-requires-clause-placed
cycle_with-requires-clause-placed c = placed_on c.args.instance.now _ _ _ _ c.args.e _ c.requires.placed
    c.loop-c.invariant

pub loop-c-init : goal.loop-c-init
loop-c-init c = sought_start c.args.instance.now _ _ c.args.e
    (λ k rule. rule ≡ Cycle c.args.e.dim c.args.a c.args.e.u k c.args.e.v)

pub loop-c-preserved : goal.loop-c-preserved
loop-c-preserved c = sought_next c.args.instance.now _ _ _ _ _ _ c.args.e
    (λ k rule. rule ≡ Cycle c.args.e.dim c.args.a c.args.e.u k c.args.e.v) c.loop-c.c c.loop-c.invariant
    c.in_ok-cycle_with.ensures

pub returns : goal.returns
returns c = sought_all c.args.instance.now _ _ _ _ c.args.e
    (λ k rule. rule ≡ Cycle c.args.e.dim c.args.a c.args.e.u k c.args.e.v) c.loop-c.c (box_count c.args.instance.now)
    (let l = c.loop-c-test.false in let f = c.len-c-end.ensures.value in omega (arith, l, f)) c.loop-c.invariant
