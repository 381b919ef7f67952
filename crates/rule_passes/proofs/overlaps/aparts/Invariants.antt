use Rattle.std.proofs.Common.{◌≡◌, ◌≢◌, ◌<◌, ℕ, false}
use Rattle.packing_terms.specs.Rules.{Apart}
use Rattle.edge_state.specs.Work.{HasApplied}
use Rattle.rule_passes.proofs.overlaps.aparts.Given as goal

abbrev pub invariant-loop-i : goal.invariant-loop-i
invariant-loop-i g l = HasApplied l.instance l.fn.state l.state false
    (λ rule. (i : ℕ) × (i < l.i) × ((l.dim ≢ i) × (rule ≡ Apart i l.u l.v)))
