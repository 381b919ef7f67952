-- The trees of checkers to which no token was fed, and the stages of phases.
use Rattle.std.proofs.Common.{◌≡◌, ℕ, ◌-◌, ◌∙◌, arith, refl, sym, ap, subst, List, [], ◌∷◌, Option, Some, None}
use Rattle.std.proofs.Math.ListN.{length-set}
use Rattle.packing_terms.specs.declared.Exclusion.{Exclusion}
use Rattle.packing_terms.specs.Exclusions.{AreAtEdges}
use Rattle.packing_terms.specs.Limits.{IsInternalInstance}
use Rattle.packing_terms.proofs.Internal.{some_dimension}
use Rattle.packing_terms.proofs.SymmetryMembers.{facts_at_edges}
use Rattle.packing_terms.proofs.Levels.{level_facts}
use Rattle.packing_terms.specs.Packing.{PlainInstance, dims}
use Rattle.packing_terms.specs.Goals.{with_last_side}
use Rattle.box_instances.specs.Sets.{all_boxes}
use Rattle.verdict_terms.specs.Checking.{starting}
use Rattle.refutation_check.specs.Refuters.{PlainRefuter}
use Rattle.refutation_check.proofs.Whole.{whole_set}
use Rattle.verdict_terms.specs.declared.heading.Heading.{Heading}
use Rattle.verdict_terms.specs.declared.heading.Heading.TheVariants.{Answer, Reduced, Bounded}
use Rattle.text_terms.specs.declared.claim.Claim.{Claim}
use Rattle.text_terms.specs.declared.claim.Claim.TheVariants.{Fitting}
use Rattle.verdict_terms.specs.Stages.{Stage, placed, refutation_goal, claimed, start_exclusions}
use Rattle.verdict_terms.specs.Stages.Stage.{Placing, Ending}
use Rattle.verdict_terms.specs.Trees.{Refuted}
use Rattle.verdict_terms.specs.Trees.Tree.{InnerTree}
use Rattle.document_lines.specs.Reading.{IsAt}
use Rattle.document_lines.specs.Checkers.{shown_inner_tree}

pub inner_begun : (r : PlainRefuter) (instance : PlainInstance) (es : List Exclusion)
    → r ≡ record { instance = instance; keep = all_boxes instance; checked = starting es }
    → shown_inner_tree r ≡ InnerTree instance (es ∷ [])
inner_begun r instance es e = ap shown_inner_tree e ∙ ap (λ i. InnerTree i (es ∷ [])) (whole_set instance)

-- what the tree of a no begins with is at edges that are there
pub start_edges : (heading : Heading) (instance : PlainInstance) → IsInternalInstance instance
    → AreAtEdges instance (start_exclusions heading instance)
start_edges Answer instance limits = tt
start_edges Bounded instance limits = tt
start_edges Reduced instance limits = facts_at_edges instance (some_dimension instance limits)

-- and so it is at every height
pub level_edges : (heading : Heading) (instance : PlainInstance) (h : ℕ) → IsInternalInstance instance
    → AreAtEdges (with_last_side instance h) (start_exclusions heading instance)
level_edges Answer instance h limits = tt
level_edges Bounded instance h limits = tt
level_edges Reduced instance h limits =
    subst (λ (es : List Exclusion). AreAtEdges (with_last_side instance h) es) (level_facts instance h)
    (facts_at_edges (with_last_side instance h)
    (let same = length-set instance.container (dims instance - 1) h in let some = some_dimension instance limits in
    omega (arith, same, some)))

-- what a stage is where the claim is known
pub fitting_placed : (heading : Heading) (claim : Claim) (refuted : Refuted) → claim ≡ Fitting
    → placed heading claim refuted ≡ Ending Fitting None
fitting_placed heading claim refuted is = ap (λ c. placed heading c refuted) is

pub fitting_claimed : (heading : Heading) (instance : PlainInstance) (claim : Claim) → claim ≡ Fitting
    → Placing heading instance claim (refutation_goal heading instance claim) [] ≡ claimed heading instance claim
fitting_claimed heading instance claim is =
    subst (λ (c : Claim). Placing heading instance c (refutation_goal heading instance c) [] ≡ claimed heading instance c)
    (sym is) refl

-- where the document stands behind the lines of a judge
pub at_behind : (behind : Option Stage) (stage next : Stage) → IsAt behind stage → behind ≡ Some next → stage ≡ next
at_behind behind stage next at e = subst (λ b. IsAt b stage) e at
