use Rattle.std.proofs.Common.{◌<◌, ℕ}
use Rattle.packing_terms.specs.Packing.{box_count}
use Rattle.packing_terms.specs.Exclusions.{excludes}
use Rattle.refutation_steps.specs.Links.{IsLinkedAt}
use Rattle.refutation_steps.proofs.Linked.{IsTrying}
use Rattle.refutation_steps.proofs.links.link_from.Given as goal

abbrev pub invariant-loop-v : goal.invariant-loop-v
invariant-loop-v l = IsTrying l.instance l.fn.state l.state l.fn.lines l.lines
    (λ s k. (x : ℕ) → x < box_count l.instance → IsLinkedAt (box_count l.instance) (excludes s.trail) l.dim l.u k x) l.v
