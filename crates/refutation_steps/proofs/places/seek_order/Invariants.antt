use Rattle.std.proofs.Common.{◌≡◌, ◌<◌, ℕ}
use Rattle.packing_terms.specs.Packing.{box_count}
use Rattle.packing_terms.specs.Rules.Rule.{Order}
use Rattle.refutation_steps.specs.Places.{IsSought}
use Rattle.refutation_steps.proofs.places.seek_order.Given as goal

abbrev pub invariant-loop-a : goal.invariant-loop-a
invariant-loop-a l =
    IsSought l.instance l.fn.state l.state l.fn.lines l.lines l.e
    (λ rule. (a : ℕ) × (a < l.a) × ((d : ℕ) × (d < box_count l.instance) × (rule ≡ Order l.e.dim a l.e.v l.e.u d)))
