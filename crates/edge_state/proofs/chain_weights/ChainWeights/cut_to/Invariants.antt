use Rattle.std.proofs.Common.{length, ℕ, List}
use Rattle.packing_terms.specs.declared.Exclusion.{Exclusion}
use Rattle.edge_state.specs.ChainWeights.{AreOf}
use Rattle.edge_state.proofs.chain_weights.ChainWeights.cut_to.Given as goal

abbrev pub invariant-loop-end : goal.invariant-loop-end
invariant-loop-end l = (d n : ℕ) (es : List Exclusion) → AreOf d n es l.fn.self → AreOf d n es l.self

abbrev pub decreases-loop-end : goal.decreases-loop-end
decreases-loop-end l = length l.self.ends
