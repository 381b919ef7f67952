use Rattle.std.proofs.Common.{◌≡◌, ◌<◌, ℕ}
use Rattle.packing_terms.specs.Rules.Rule.{Cycle}
use Rattle.refutation_steps.specs.Places.{IsSought}
use Rattle.refutation_steps.proofs.places.cycles_with.Given as goal

abbrev pub invariant-loop-c : goal.invariant-loop-c
invariant-loop-c l =
    IsSought l.instance l.fn.state l.state l.fn.lines l.lines l.e
    (λ rule. (c : ℕ) × (c < l.c) × (rule ≡ Cycle l.e.dim l.a l.e.u c l.e.v))
