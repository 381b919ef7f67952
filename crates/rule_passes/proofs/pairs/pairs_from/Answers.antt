use Rattle.std.proofs.Common.{◌≡◌, ◌<◌, ◌+◌, ℕ, arith}
use Rattle.packing_terms.specs.Rules.{Rule, Pair}
use Rattle.edge_state.proofs.Worked.{worked_none, worked_as, worked_next, worked_lost, worked_kept, sizes_worked}
use Rattle.rule_passes.proofs.pairs.pairs_from.Goals as goal

pub loop-v-init : goal.loop-v-init
loop-v-init c =
    worked_none _ _ (λ rule. (v : ℕ) × (v < c.args.u + 1) × ((c.args.u < v) × (rule ≡ Pair c.args.dim c.args.u v)))
    (λ rule h. absurd (omega (arith, h.1, h.2.0)))

pub pair_at-requires-clause-sizes : goal.pair_at-requires-clause-sizes
pair_at-requires-clause-sizes c = sizes_worked _ _ _ _ _ _ c.loop-v.invariant c.requires.sizes

pub returns-then-pair_at : goal.returns-then-pair_at
returns-then-pair_at c = worked_lost _ _ _ _ _ _ _ _ c.if-pair_at.true c.loop-v.invariant c.pair_at.ensures

pub loop-v-preserved : goal.loop-v-preserved
loop-v-preserved c =
    let here = worked_kept _ _ _ _ _ c.if-pair_at.false c.pair_at.ensures in
    worked_next _ _ _ _ _ _ (λ v rule. (c.args.u < v) × (rule ≡ Pair c.args.dim c.args.u v)) c.loop-v.invariant
    (worked_as _ _ _ _ (λ (rule : Rule). rule ≡ Pair c.args.dim c.args.u c.loop-v.v)
    (λ (rule : Rule). (c.args.u < c.loop-v.v) × (rule ≡ Pair c.args.dim c.args.u c.loop-v.v))
    (λ rule e. e.1) here)
