use Rattle.std.proofs.Common.{◌≡◌, ◌<◌, ℕ, false}
use Rattle.packing_terms.specs.Rules.{Pair}
use Rattle.edge_state.specs.Work.{HasApplied}
use Rattle.rule_passes.proofs.pairs.pairs_from.Given as goal

abbrev pub invariant-loop-v : goal.invariant-loop-v
invariant-loop-v l = HasApplied l.instance l.fn.state l.state false
    (λ rule. (v : ℕ) × (v < l.v) × ((l.u < v) × (rule ≡ Pair l.dim l.u v)))
