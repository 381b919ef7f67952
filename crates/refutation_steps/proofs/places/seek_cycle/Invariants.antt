use Rattle.std.proofs.Common.{◌≡◌, ◌<◌, ℕ}
use Rattle.packing_terms.specs.Packing.{box_count}
use Rattle.packing_terms.specs.Rules.Rule.{Cycle}
use Rattle.refutation_steps.specs.Places.{IsSought}
use Rattle.refutation_steps.proofs.places.seek_cycle.Given as goal

abbrev pub invariant-loop-a : goal.invariant-loop-a
invariant-loop-a l =
    IsSought l.instance l.fn.state l.state l.fn.lines l.lines l.e
    (λ rule. (a : ℕ) × (a < l.a) × ((c : ℕ) × (c < box_count l.instance) × (rule ≡ Cycle l.e.dim a l.e.u c l.e.v)))
