use Rattle.std.proofs.Common.{◌≡◌, ◌<◌, ℕ}
use Rattle.packing_terms.specs.Rules.Rule.{Order}
use Rattle.refutation_steps.specs.Places.{IsSought}
use Rattle.refutation_steps.proofs.places.orders_with.Given as goal

abbrev pub invariant-loop-d : goal.invariant-loop-d
invariant-loop-d l =
    IsSought l.instance l.fn.state l.state l.fn.lines l.lines l.e
    (λ rule. (d : ℕ) × (d < l.d) × (rule ≡ Order l.e.dim l.a l.e.v l.e.u d))
