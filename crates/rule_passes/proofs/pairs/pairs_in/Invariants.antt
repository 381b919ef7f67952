use Rattle.std.proofs.Common.{◌≡◌, ◌<◌, ℕ, false}
use Rattle.packing_terms.specs.Packing.{box_count}
use Rattle.packing_terms.specs.Rules.{Pair}
use Rattle.edge_state.specs.Work.{HasApplied}
use Rattle.rule_passes.proofs.pairs.pairs_in.Given as goal

abbrev pub invariant-loop-u : goal.invariant-loop-u
invariant-loop-u l = HasApplied l.instance l.fn.state l.state false
    (λ rule. (u : ℕ) × (u < l.u) × ((v : ℕ) × (v < box_count l.instance) × ((u < v) × (rule ≡ Pair l.dim u v))))
