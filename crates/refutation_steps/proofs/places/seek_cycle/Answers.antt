use Rattle.std.proofs.Common.{◌≡◌, ◌<◌, ℕ, arith}
use Rattle.packing_terms.specs.Packing.{box_count}
use Rattle.packing_terms.specs.Rules.Rule.{Cycle}
use Rattle.refutation_steps.proofs.Seeking.{sought_start, sought_next, placed_on, sought_all}
use Rattle.refutation_steps.proofs.places.seek_cycle.Goals as goal

pub cycles_from-requires-clause-placed : goal.cycles_from-requires-clause-placed
cycles_from-requires-clause-placed c = placed_on c.args.instance.now _ _ _ _ c.args.e _ c.requires.placed
    c.loop-a.invariant

pub loop-a-init : goal.loop-a-init
loop-a-init c = sought_start c.args.instance.now _ _ c.args.e
    (λ k rule. (m : ℕ) × (m < box_count c.args.instance.now) × (rule ≡ Cycle c.args.e.dim k c.args.e.u m c.args.e.v))

pub loop-a-preserved : goal.loop-a-preserved
loop-a-preserved c = sought_next c.args.instance.now _ _ _ _ _ _ c.args.e
    (λ k rule. (m : ℕ) × (m < box_count c.args.instance.now) × (rule ≡ Cycle c.args.e.dim k c.args.e.u m c.args.e.v))
    c.loop-a.a c.loop-a.invariant c.in_ok-cycles_from.ensures

pub returns : goal.returns
returns c = sought_all c.args.instance.now _ _ _ _ c.args.e
    (λ k rule. (m : ℕ) × (m < box_count c.args.instance.now) × (rule ≡ Cycle c.args.e.dim k c.args.e.u m c.args.e.v))
    c.loop-a.a (box_count c.args.instance.now)
    (let l = c.loop-a-test.false in let f = c.len-a-end.ensures.value in omega (arith, l, f)) c.loop-a.invariant
