use Rattle.std.proofs.Common.{◌≡◌, ◌∙◌, sym, subst, ap, IfOk, List}
use Rattle.std.proofs.lemmas.Result.{IfOk-weaker}
use Rattle.packing_terms.specs.declared.Exclusion.{Exclusion}
use Rattle.packing_terms.proofs.Internal.{some_dimension}
use Rattle.packing_terms.specs.Exclusions.{AreAtEdges}
use Rattle.tree_terms.specs.Trees.{outcome, under_budget}
use Rattle.work_share.specs.Outcomes.{plain_outcome}
use Rattle.class_search.specs.Tree.{PlainClassTree, shape}
use Rattle.class_search.proofs.Rights.{class_told}
use Rattle.packing_terms.specs.Facts.{symmetry_facts}
use Rattle.packing_terms.proofs.SymmetryMembers.{facts_at_edges}
use Rattle.symmetry_facts.proofs.Reduced.{reduced_right, reduced_decides}
use Rattle.symmetry_facts.proofs.decision.decide_reduced.Goals as goal

pub starting-requires : goal.starting-requires
starting-requires g c =
    subst (λ (es : List Exclusion). AreAtEdges c.args.instance.now es)
    (sym (c.as_slice.ensures.value ∙ c.in_ok-start.ensures))
    (facts_at_edges c.args.instance.now (some_dimension c.args.instance.now c.len-limits.ensures.limits))

pub returns-clause-outcome : goal.returns-clause-outcome
returns-clause-outcome g c =
    let tree : c.in_ok-tree.tree ≡ record {
      instance = c.args.instance.now;
      start = symmetry_facts c.args.instance.now;
      scales = c.args.settings.now.scales;
    } =
    c.in_ok-tree.ensures ∙ ap (λ (es : List Exclusion).
    record { instance = c.args.instance.now; start = es; scales = c.args.settings.now.scales })
    (c.as_slice.ensures.value ∙ c.in_ok-start.ensures) in
    subst (λ (t : PlainClassTree). IfOk c.solve.result
    (λ r. plain_outcome r ≡ under_budget c.args.settings.now.budget (outcome (shape t)))) tree c.solve.ensures

pub returns-clause-right : goal.returns-clause-right
returns-clause-right g c =
    IfOk-weaker c.solve.result _ _
    (λ r h. reduced_right c.args.instance.now c.len-limits.ensures.limits c.args.settings.now.scales
    c.args.settings.now.budget (plain_outcome r) h)
    (returns-clause-outcome g c)

pub returns-clause-decides : goal.returns-clause-decides
returns-clause-decides g c =
    IfOk-weaker c.solve.result _ _
    (λ r h. reduced_decides c.args.instance.now c.len-limits.ensures.limits c.args.settings.now.scales
    c.args.settings.now.budget (plain_outcome r) h)
    (returns-clause-outcome g c)

pub returns-clause-enough : goal.returns-clause-enough
returns-clause-enough g c l =
    IfOk-weaker c.solve.result _ _
    (λ r h. class_told c.args.instance.now c.len-limits.ensures.limits (symmetry_facts c.args.instance.now)
    c.args.settings.now.scales c.args.settings.now.budget (plain_outcome r) h l)
    (returns-clause-outcome g c)
