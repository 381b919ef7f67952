use Rattle.std.proofs.Common.{◌≡◌, ◌<◌, ℕ}
use Rattle.packing_terms.specs.Rules.Rule.{Triple}
use Rattle.refutation_steps.specs.Places.{IsSought}
use Rattle.refutation_steps.proofs.places.seek_triple.Given as goal

abbrev pub invariant-loop-x : goal.invariant-loop-x
invariant-loop-x l =
    IsSought l.instance l.fn.state l.state l.fn.lines l.lines l.e
    (λ rule. (x : ℕ) × (x < l.x) × (rule ≡ Triple l.e.dim l.e.u l.e.v x))
