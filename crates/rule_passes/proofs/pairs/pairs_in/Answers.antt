use Rattle.std.proofs.Common.{◌≡◌, ◌<◌, ℕ}
use Rattle.packing_terms.specs.Packing.{box_count}
use Rattle.packing_terms.specs.Rules.{Pair}
use Rattle.edge_state.proofs.Worked.{worked_start, worked_next, worked_lost, worked_kept, sizes_worked}
use Rattle.rule_passes.proofs.pairs.pairs_in.Goals as goal

pub loop-u-init : goal.loop-u-init
loop-u-init c = worked_start _ _
    (λ u rule. (v : ℕ) × (v < box_count c.args.instance.now) × ((u < v) × (rule ≡ Pair c.args.dim u v)))

pub pairs_from-requires-clause-sizes : goal.pairs_from-requires-clause-sizes
pairs_from-requires-clause-sizes c = sizes_worked _ _ _ _ _ _ c.loop-u.invariant c.requires

pub returns-then-pairs_from : goal.returns-then-pairs_from
returns-then-pairs_from c = worked_lost _ _ _ _ _ _ _ _ c.if-pairs_from.true c.loop-u.invariant c.pairs_from.ensures

pub loop-u-preserved : goal.loop-u-preserved
loop-u-preserved c =
    worked_next _ _ _ _ _ _ (λ u rule. (v : ℕ) × (v < box_count c.args.instance.now)
    × ((u < v) × (rule ≡ Pair c.args.dim u v))) c.loop-u.invariant
    (worked_kept _ _ _ _ _ c.if-pairs_from.false c.pairs_from.ensures)
