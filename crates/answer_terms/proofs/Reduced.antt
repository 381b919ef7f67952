-- What is answered from the symmetry facts on is shown and true, and when it is undecided.
use Rattle.std.proofs.Common.{ℕ, Bool, refl, subst}
use Rattle.packing_terms.specs.Packing.{PlainInstance}
use Rattle.packing_terms.specs.Limits.{IsInternalInstance}
use Rattle.packing_terms.proofs.Internal.{written_internal, internal_sides, some_dimension}
use Rattle.packing_terms.specs.Facts.{symmetry_facts}
use Rattle.packing_terms.proofs.Levels.{none_fits_under}
use Rattle.packing_terms.proofs.SymmetryMembers.{facts_at_edges}
use Rattle.tree_terms.specs.Trees.{outcome}
use Rattle.tree_terms.specs.ClassTree.{class_tree, first_too_wide}
use Rattle.tree_terms.proofs.Decisions.{class_tree_right}
use Rattle.tree_terms.proofs.Heights.{facts_decide}
use Rattle.answer_terms.specs.declared.job.ReducedJob.{ReducedJob}
use Rattle.answer_terms.specs.declared.job.ReducedJob.TheVariants.{Fit, Strip}
use Rattle.answer_terms.specs.Reduced.{reduced_solved, solving_job, ReducedAnswersAreShown, ReducedAnswersAreTrue}
use Rattle.answer_terms.specs.Reduced.{ReducedUndecidedExactlyPast}
use Rattle.answer_terms.proofs.Shown.{IsAnswerFrom, fit_from, strip_from}
use Rattle.answer_terms.proofs.True.{shown_true, told_undecided}

reduced_is : (job : ReducedJob) (instance : PlainInstance) → IsInternalInstance instance → (budget : ℕ) (scales : Bool)
    → IsAnswerFrom (symmetry_facts instance) (solving_job job) instance (reduced_solved job budget scales instance)
unfolding reduced_solved
reduced_is Fit instance limits budget scales =
    fit_from (symmetry_facts instance) instance budget (outcome (class_tree instance (symmetry_facts instance) scales))
    (class_tree_right instance limits (symmetry_facts instance)
    (facts_at_edges instance (some_dimension instance limits)) scales)
reduced_is Strip instance limits budget scales =
    strip_from (symmetry_facts instance) instance limits (facts_decide instance limits) budget scales
    (first_too_wide instance) refl

pub reduced_shown : ReducedAnswersAreShown
reduced_shown job budget scales instance claim numbers tokens limits e =
    subst (IsAnswerFrom (symmetry_facts instance) (solving_job job) instance) e
    (reduced_is job instance (written_internal instance limits) budget scales)

pub reduced_true : ReducedAnswersAreTrue
reduced_true job budget scales instance claim numbers tokens limits e =
    let internal : IsInternalInstance instance = written_internal instance limits in
    shown_true instance limits (symmetry_facts instance) (facts_decide instance internal)
    (none_fits_under instance (internal_sides instance internal) (some_dimension instance internal))
    claim numbers tokens (reduced_shown job budget scales instance claim numbers tokens limits e).shown

pub reduced_past : ReducedUndecidedExactlyPast
unfolding reduced_solved
reduced_past budget scales instance =
    told_undecided budget (outcome (class_tree instance (symmetry_facts instance) scales))
