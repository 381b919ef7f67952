use Rattle.std.proofs.Common.{◌≡◌, take, drop}
use Rattle.packing_terms.specs.Exclusions.{excludes}
use Rattle.verdict_terms.specs.FamilyJudging.{are_aside}
use Rattle.refutation_check.proofs.joining.are_aside.Given as goal

abbrev pub invariant-loop-k : goal.invariant-loop-k
invariant-loop-k l = are_aside (excludes l.state.trail) l.dim (take l.begun l.family) (drop l.begun l.family)
    ≡ are_aside (excludes l.state.trail) l.dim (take l.k l.family) (drop l.k l.family)
