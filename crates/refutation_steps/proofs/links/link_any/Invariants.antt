use Rattle.std.proofs.Common.{◌<◌, ℕ}
use Rattle.packing_terms.specs.Packing.{box_count}
use Rattle.packing_terms.specs.Exclusions.{excludes}
use Rattle.refutation_steps.specs.Links.{IsLinkedAt}
use Rattle.refutation_steps.proofs.Linked.{IsTrying}
use Rattle.refutation_steps.proofs.links.link_any.Given as goal

abbrev pub invariant-loop-u : goal.invariant-loop-u
invariant-loop-u l = IsTrying l.instance l.fn.state l.state l.fn.lines l.lines
    (λ s k. (v : ℕ) → v < box_count l.instance → (x : ℕ) → x < box_count l.instance
    → IsLinkedAt (box_count l.instance) (excludes s.trail) l.dim k v x) l.u
