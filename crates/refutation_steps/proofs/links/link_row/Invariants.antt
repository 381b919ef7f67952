use Rattle.packing_terms.specs.Packing.{box_count}
use Rattle.packing_terms.specs.Exclusions.{excludes}
use Rattle.refutation_steps.specs.Links.{IsLinkedAt}
use Rattle.refutation_steps.proofs.Linked.{IsTrying}
use Rattle.refutation_steps.proofs.links.link_row.Given as goal

abbrev pub invariant-loop-x : goal.invariant-loop-x
invariant-loop-x l = IsTrying l.instance l.fn.state l.state l.fn.lines l.lines
    (λ s k. IsLinkedAt (box_count l.instance) (excludes s.trail) l.dim l.u l.v k) l.x
