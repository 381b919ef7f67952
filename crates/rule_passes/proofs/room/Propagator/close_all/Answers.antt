use Rattle.std.proofs.Common.{refl, arith}
use Rattle.packing_terms.specs.Rules.{Pair}
use Rattle.packing_terms.proofs.Applied.{extends_trans}
use Rattle.edge_state.proofs.Settled.{pairs_both, settled_pairs, chained_pairs}
use Rattle.rule_passes.proofs.room.Propagator.close_all.Goals as goal

pub close_from-requires-clause-settled : goal.close_from-requires-clause-settled
close_from-requires-clause-settled c =
    settled_pairs c.args.instance.now _ _ _ c.first.ensures
    (omega (arith, c.requires.dims, c.dims-sizes.ensures.limits.dimensions.0))
    (pairs_both c.args.instance.now _ _
    (λ i u v less is. c.pass_pairs.ensures.done c.if-pass_pairs.false (Pair i u v)
    (i, is.0, (u, is.1.0, (v, is.1.2.0, (less, refl))))))

pub close_from-requires-clause-chained : goal.close_from-requires-clause-chained
close_from-requires-clause-chained c i h =
    chained_pairs c.args.instance.now i _ _ _ c.first.ensures
    (pairs_both c.args.instance.now _ _
    (λ j u v less is. c.pass_pairs.ensures.done c.if-pass_pairs.false (Pair j u v)
    (j, is.0, (u, is.1.0, (v, is.1.2.0, (less, refl))))))

pub returns-clause-extends : goal.returns-clause-extends
returns-clause-extends c = extends_trans _ _ _ _ c.pass_pairs.ensures.extends c.close_from.ensures.extends
