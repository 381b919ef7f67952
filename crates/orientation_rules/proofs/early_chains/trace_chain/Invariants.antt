use Rattle.std.proofs.Common.{◌≡◌, ◌<◌, length}
use Rattle.orientation_rules.proofs.early_chains.trace_chain.Given as goal

abbrev pub invariant-loop : goal.invariant-loop
invariant-loop g l = (l.v < l.state.boxes) × (length l.into ≡ length l.fn.into)
