use Rattle.std.proofs.Common.{◌≡◌, ◌<◌, ◌∙◌, ℕ, arith}
use Rattle.packing_terms.specs.Packing.{box_count}
use Rattle.packing_terms.specs.Rules.{Pair}
use Rattle.edge_state.proofs.Worked.{worked_start, worked_next, worked_lost, worked_kept}
use Rattle.rule_passes.proofs.pairs.pass_pairs.Goals as goal

pub loop-dim-init : goal.loop-dim-init
loop-dim-init c = worked_start _ _
    (λ i rule. (u : ℕ) × (u < box_count c.args.instance.now)
    × ((v : ℕ) × (v < box_count c.args.instance.now) × ((u < v) × (rule ≡ Pair i u v))))

pub pairs_in-requires : goal.pairs_in-requires
pairs_in-requires c = record {
  same_dims = c.loop-dim.invariant.same_dims ∙ c.requires.dims;
  same_boxes = c.loop-dim.invariant.same_boxes ∙ c.requires.boxes;
  there = omega arith;
}

pub returns-then-pairs_in : goal.returns-then-pairs_in
returns-then-pairs_in c = worked_lost _ _ _ _ _ _ _ _ c.if-pairs_in.true c.loop-dim.invariant c.pairs_in.ensures

pub loop-dim-preserved : goal.loop-dim-preserved
loop-dim-preserved c =
    worked_next _ _ _ _ _ _ (λ i rule. (u : ℕ) × (u < box_count c.args.instance.now)
    × ((v : ℕ) × (v < box_count c.args.instance.now) × ((u < v) × (rule ≡ Pair i u v)))) c.loop-dim.invariant
    (worked_kept _ _ _ _ _ c.if-pairs_in.false c.pairs_in.ensures)
