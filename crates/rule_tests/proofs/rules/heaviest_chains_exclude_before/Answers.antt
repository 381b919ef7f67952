use Rattle.std.proofs.Common.{refl, [], ◌∷◌}
use Rattle.packing_terms.specs.declared.Rel.TheVariants.{Overlap, After}
use Rattle.packing_terms.specs.Exclusions.{exclusion_at}
use Rattle.packing_terms.proofs.ChainsMore.{head_more, tail_more}
use Rattle.rule_tests.proofs.WrittenStates.{full_by_test}
use Rattle.rule_tests.proofs.rules.heaviest_chains_exclude_before.Goals as goal

pub heads-requires-clause-full : goal.heads-requires-clause-full
heads-requires-clause-full g c =
    rw c.in_ok-state.ensures (full_by_test 2 3 (exclusion_at 0 0 1 After ∷ exclusion_at 0 0 1 Overlap ∷ []) refl
    c.in_ok-instance.instance c.in_ok-instance.ensures.0 c.in_ok-instance.ensures.1)

pub tails-requires-clause-full : goal.tails-requires-clause-full
tails-requires-clause-full g c =
    rw c.in_ok-state.ensures (full_by_test 2 3 (exclusion_at 0 0 1 After ∷ exclusion_at 0 0 1 Overlap ∷ []) refl
    c.in_ok-instance.instance c.in_ok-instance.ensures.0 c.in_ok-instance.ensures.1)

pub apply_chain-requires-2-clause-heads : goal.apply_chain-requires-2-clause-heads
apply_chain-requires-2-clause-heads g c x hx =
    head_more _ _ _ c.apply_chain.ensures.step.extends.kept _ _ _ (c.heads.ensures x hx).some

pub apply_chain-requires-2-clause-tails : goal.apply_chain-requires-2-clause-tails
apply_chain-requires-2-clause-tails g c x hx =
    tail_more _ _ _ c.apply_chain.ensures.step.extends.kept _ _ _ (c.tails.ensures x hx).some

pub apply_chain-requires-3-clause-heads : goal.apply_chain-requires-3-clause-heads
apply_chain-requires-3-clause-heads g c x hx =
    head_more _ _ _ c.apply_chain-2.ensures.step.extends.kept _ _ _
    (head_more _ _ _ c.apply_chain.ensures.step.extends.kept _ _ _ (c.heads.ensures x hx).some)

pub apply_chain-requires-3-clause-tails : goal.apply_chain-requires-3-clause-tails
apply_chain-requires-3-clause-tails g c x hx =
    tail_more _ _ _ c.apply_chain-2.ensures.step.extends.kept _ _ _
    (tail_more _ _ _ c.apply_chain.ensures.step.extends.kept _ _ _ (c.tails.ensures x hx).some)
