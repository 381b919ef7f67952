use Rattle.std.proofs.Common.{ℕ, ◌<◌, ◌-◌, slice_index}
use Rattle.packing_terms.specs.Packing.{side}
use Rattle.refutation_steps.specs.Chains.{IsNoNextBox}
use Rattle.refutation_steps.proofs.chains.next_box.Given as goal

abbrev pub invariant-loop-w : goal.invariant-loop-w
invariant-loop-w l =
    (k : ℕ) → k < l.w → IsNoNextBox l.instance l.state l.dim l.direction l.weights
    (slice_index l.weights l.v - side l.instance l.v l.dim) l.v k
