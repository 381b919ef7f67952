-- What the answer of `fit` says.
use Rattle.std.proofs.Common.{ℕ, ◌≡◌, ◌≤◌, ◌<◌, inl, inr, Bool, true, false, refl, ltb, if◌then◌else◌, List, [], sym}
use Rattle.std.proofs.Common.{subst}
use Rattle.std.proofs.lemmas.Bool.{ltb-true, ltb-false}
use Rattle.std.specs.declared.option.Option.{Option}
use Rattle.packing_terms.specs.Packing.{PlainInstance}
use Rattle.packing_terms.specs.Limits.{IsInstance, IsInternalInstance}
use Rattle.packing_terms.proofs.Internal.{written_internal, internal_sides}
use Rattle.packing_terms.proofs.Refuted.{none_fits}
use Rattle.packing_terms.proofs.Excess.{excess_law}
use Rattle.tree_terms.specs.Trees.{Verdict, Yes, No, Decided, Past, outcome, count_of}
use Rattle.tree_terms.specs.ClassTree.{class_tree}
use Rattle.tree_terms.specs.Search.{IsRightUnder}
use Rattle.tree_terms.proofs.Decisions.{class_tree_right}
use Rattle.answer_terms.specs.declared.job.DocumentJob.TheVariants.{Solving as Solves}
use Rattle.text_terms.specs.declared.claim.SolvingJob.TheVariants.{Fit}
use Rattle.answer_terms.specs.Answers.{answer_text, status_of}
use Rattle.answer_terms.specs.Solved.{solved, fit_answer}
use Rattle.pack_streams.specs.Moves.{Appended}
use Rattle.text_terms.specs.declared.settings.Settings.{Settings}
use Rattle.pack_command.specs.Answered.{answer_for, branchings, IsDecided}

-- the answer of `fit` is yes with a packing, no with a refutation, or undecided
pub fit_decided : (settings : Settings) (instance : PlainInstance) → IsInstance instance → (old new : Option (List ℕ))
    → Appended old new (answer_for (Solves Fit) settings instance).text
    → IsDecided instance settings old new (answer_for (Solves Fit) settings instance).status
unfolding solved
fit_decided settings instance limits old new gains =
    go (ltb settings.budget (branchings settings instance)) (outcome (class_tree instance [] settings.scales)) refl refl
    (class_tree_right instance internal [] tt settings.scales) gains
  where
    internal : IsInternalInstance instance
    internal = written_internal instance limits

    go : (b : Bool) (v : Verdict) → b ≡ ltb settings.budget (count_of v)
        → v ≡ outcome (class_tree instance [] settings.scales) → IsRightUnder instance [] v
        → Appended old new (answer_text instance (fit_answer (if b then Past else Decided v)))
        → IsDecided instance settings old new (status_of (fit_answer (if b then Past else Decided v)))
    go true v e f r g =
        let l : settings.budget < count_of v = ltb-true settings.budget (count_of v) (sym e) in
        inr (inr (record { status_is = refl; past = subst (λ w. settings.budget < count_of w) f l; written = g }))
    go false (Yes ns c) e f r g =
        let l : c ≤ settings.budget = ltb-false settings.budget c (sym e) in
        inl (record {
          status_is = refl;
          places = ns;
          packing = r;
          within = subst (λ w. count_of w ≤ settings.budget) f l;
          written = g;
        })
    go false (No ts c) e f r g =
        let l : c ≤ settings.budget = ltb-false settings.budget c (sym e) in
        inr (inl (record {
          status_is = refl;
          none = none_fits excess_law instance (internal_sides instance internal) ts r;
          tokens = ts;
          refutation = r;
          within = subst (λ w. count_of w ≤ settings.budget) f l;
          written = g;
        }))
