use Rattle.std.proofs.Common.{◌∙◌, sym, subst, List}
use Rattle.packing_terms.specs.declared.Exclusion.{Exclusion}
use Rattle.tree_terms.specs.Heights.{DecideHeights}
use Rattle.tree_terms.proofs.Heights.{facts_decide}
use Rattle.strip_solver.proofs.least.least_height_reduced.Goals as goal

pub least_from-requires-after_bounds : goal.least_from-requires-after_bounds
least_from-requires-after_bounds g c κs within =
    subst (λ (es : List Exclusion). DecideHeights c.args.instance.now es)
    (sym (c.as_slice.ensures.value ∙ c.in_ok-start.ensures))
    (facts_decide c.args.instance.now c.len-limits.ensures.limits)
