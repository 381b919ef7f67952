use Rattle.std.proofs.Common.{◌≡◌, ◌<◌, ℕ, false}
use Rattle.packing_terms.specs.Packing.{box_count}
use Rattle.packing_terms.specs.Rules.{Pair}
use Rattle.edge_state.specs.Work.{HasApplied}
use Rattle.rule_passes.proofs.pairs.pass_pairs.Given as goal

abbrev pub invariant-loop-dim : goal.invariant-loop-dim
invariant-loop-dim l = HasApplied l.instance l.fn.state l.state false
    (λ rule. (dim : ℕ) × (dim < l.dim)
    × ((u : ℕ) × (u < box_count l.instance)
    × ((v : ℕ) × (v < box_count l.instance) × ((u < v) × (rule ≡ Pair dim u v)))))
