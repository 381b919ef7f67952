use Rattle.std.proofs.Common.{◌≡◌, arith}
use Rattle.packing_terms.specs.Packing.{box_count}
use Rattle.packing_terms.specs.Rules.Rule.{Compose}
use Rattle.refutation_steps.proofs.Seeking.{sought_start, sought_next, placed_on, sought_all}
use Rattle.refutation_steps.proofs.places.seek_compose.Goals as goal

pub compose_with-requires-clause-placed : goal.compose_with-requires-clause-placed
compose_with-requires-clause-placed c = placed_on c.args.instance.now _ _ _ _ c.args.e _ c.requires.placed
    c.loop-x.invariant

pub loop-x-init : goal.loop-x-init
loop-x-init c = sought_start c.args.instance.now _ _ c.args.e
    (λ k rule. rule ≡ Compose c.args.e.dim c.args.e.u k c.args.e.v)

pub loop-x-preserved : goal.loop-x-preserved
loop-x-preserved c = sought_next c.args.instance.now _ _ _ _ _ _ c.args.e
    (λ k rule. rule ≡ Compose c.args.e.dim c.args.e.u k c.args.e.v) c.loop-x.x c.loop-x.invariant
    c.in_ok-compose_with.ensures

pub returns : goal.returns
returns c = sought_all c.args.instance.now _ _ _ _ c.args.e
    (λ k rule. rule ≡ Compose c.args.e.dim c.args.e.u k c.args.e.v) c.loop-x.x (box_count c.args.instance.now)
    (let l = c.loop-x-test.false in let f = c.len-x-end.ensures.value in omega (arith, l, f)) c.loop-x.invariant
