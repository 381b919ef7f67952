use Rattle.std.proofs.Common.{◌≡◌, ◌≢◌, ◌<◌, ◌⊎◌, inl, ℕ}
use Rattle.packing_terms.specs.Packing.{dims}
use Rattle.packing_terms.specs.Rules.{Rule, Pair, Apart}
use Rattle.edge_state.proofs.Worked.{worked_applied, worked_as, worked_then, sizes_worked}
use Rattle.rule_passes.proofs.pairs.pair_at.Goals as goal

pub aparts-requires-clause-sizes : goal.aparts-requires-clause-sizes
aparts-requires-clause-sizes c =
    let first = worked_applied c.args.instance.now _ _ _ (Pair c.args.dim c.args.u c.args.v) c.apply_pair.ensures.state
    c.apply_pair.ensures.applied in
    sizes_worked _ _ _ _ _ _ first c.requires.sizes

pub returns : goal.returns
returns c =
    let i = c.args.dim in
    let u = c.args.u in
    let v = c.args.v in
    let first = worked_applied c.args.instance.now _ _ _ (Pair i u v) c.apply_pair.ensures.state
    c.apply_pair.ensures.applied in
    worked_as _ _ _ _ (λ (rule : Rule). (rule ≡ Pair i u v)
    ⊎ ((j : ℕ) × (j < dims c.args.instance.now) × ((i ≢ j) × (rule ≡ Apart j u v))))
    (λ (rule : Rule). rule ≡ Pair i u v)
    (λ rule e. inl e)
    (worked_then _ _ _ _ _ (λ (rule : Rule). rule ≡ Pair i u v)
    (λ (rule : Rule). (j : ℕ) × (j < dims c.args.instance.now) × ((i ≢ j) × (rule ≡ Apart j u v)))
    first c.aparts.ensures)
