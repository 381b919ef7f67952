use Rattle.std.proofs.Common.{◌<◌, ◌≢◌, ℕ}
use Rattle.packing_terms.specs.Exclusions.{excludes, IsJoined}
use Rattle.rule_passes.proofs.overlaps.joined_beside.Given as goal

abbrev pub invariant-loop-other : goal.invariant-loop-other
invariant-loop-other g l = (k : ℕ) → k < l.other → k ≢ l.i → IsJoined (excludes l.state.trail) k l.u l.v
