-- What the answer of `fit` with proposals says.
use Rattle.std.proofs.Common.{ℕ, ◌≡◌, ◌+◌, ◌≤◌, ◌<◌, inl, inr, arith, refl, sym, subst, false, List, []}
use Rattle.std.specs.declared.option.Option.{Option}
use Rattle.packing_terms.specs.Packing.{PlainInstance}
use Rattle.packing_terms.specs.Limits.{IsInstance, IsInternalInstance}
use Rattle.packing_terms.proofs.Internal.{written_internal, internal_sides, some_dimension}
use Rattle.packing_terms.proofs.Refuted.{none_fits}
use Rattle.packing_terms.proofs.Excess.{excess_law}
use Rattle.tree_terms.specs.Trees.{PlainOutcome, Decided, Past, Yes, No}
use Rattle.tree_terms.proofs.Counts.{class_count}
use Rattle.text_terms.specs.declared.settings.Settings.{Settings}
use Rattle.text_terms.specs.declared.claim.SolvingJob.TheVariants.{Fit as SolvesFit}
use Rattle.answer_terms.specs.Answers.{Answer, answer_text, status_of}
use Rattle.answer_terms.specs.Solved.{fit_answer}
use Rattle.class_search.specs.Right.{IsRight}
use Rattle.proof_tree.specs.declared.outcome.Outcome.{Outcome}
use Rattle.work_share.specs.Outcomes.{plain_outcome}
use Rattle.proposed_answers.specs.Behind.{IsWithoutScales}
use Rattle.answer_streams.specs.declared.solution.Solution.TheVariants.{Fit}
use Rattle.pack_streams.specs.Moves.{Appended}
use Rattle.pack_command.specs.Answered.{branchings, class_bound}
use Rattle.pack_command.specs.Decides.{StatusDecidesFit}
use Rattle.pack_command.specs.Proposed.{IsProposedFit, IsProposedSolution, IsProposedFitDecided}
use Rattle.pack_command.proofs.Found.{right_placed}
use Rattle.pack_command.proofs.ProposedOwn.{IsOwnAnswer}

-- an outcome that was found is a solution
pub fit_proposed : (settings : Settings) (instance : PlainInstance) (o : Outcome)
    → IsRight instance [] (plain_outcome o)
    → (plain_outcome o ≡ Past → settings.budget < branchings settings instance)
    → (settings.scales ≡ false → IsWithoutScales (plain_outcome o))
    → IsProposedSolution SolvesFit settings instance (Fit o)
fit_proposed settings instance o right past plain = record {
  is = record { outcome = plain_outcome o; right = right; past = past; plain = plain; answer_is = refl };
  text = refl;
  placed = right_placed instance [] (plain_outcome o) right;
}

-- yes with a packing, no with a refutation, or undecided
decided_by : (settings : Settings) (instance : PlainInstance) → IsInternalInstance instance
    → (old new : Option (List ℕ)) (o : PlainOutcome)
    → IsRight instance [] o → (o ≡ Past → settings.budget < branchings settings instance)
    → (settings.scales ≡ false → IsWithoutScales o) → Appended old new (answer_text instance (fit_answer o))
    → IsProposedFitDecided instance settings old new (status_of (fit_answer o))
decided_by settings instance limits old new (Decided (Yes places count)) right past plain written =
    inl (record { status_is = refl; places = places; packing = right; written = written })
decided_by settings instance limits old new (Decided (No tokens count)) right past plain written =
    inr (inl (record {
      status_is = refl;
      none = none_fits excess_law instance (internal_sides instance limits) tokens right;
      tokens = tokens;
      refutation = right;
      plain = plain;
      written = written;
    }))
decided_by settings instance limits old new Past right past plain written =
    inr (inr (record { status_is = refl; past = past refl; written = written }))

own_by : (instance : PlainInstance) (o : PlainOutcome) → IsRight instance [] o
    → IsOwnAnswer SolvesFit instance (fit_answer o)
own_by instance (Decided (Yes places count)) right = (refl, right)
own_by instance (Decided (No tokens count)) right = (refl, right)
own_by instance Past right = tt

module _ (settings : Settings) (instance : PlainInstance) (limits : IsInstance instance) (answer : Answer)
    (is : IsProposedFit settings instance answer) where
  pub fit_own : IsOwnAnswer SolvesFit instance answer
  fit_own = subst (λ (a : Answer). IsOwnAnswer SolvesFit instance a) (sym is.answer_is)
      (own_by instance is.outcome is.right)

  module _ (old new : Option (List ℕ)) (written : Appended old new (answer_text instance answer)) where
    of_outcome : Appended old new (answer_text instance (fit_answer is.outcome))
    of_outcome = subst (λ (a : Answer). Appended old new (answer_text instance a)) is.answer_is written

    pub fit_proposed_decided : IsProposedFitDecided instance settings old new (status_of answer)
    fit_proposed_decided =
        subst (λ (a : Answer). IsProposedFitDecided instance settings old new (status_of a)) (sym is.answer_is)
        (decided_by settings instance (written_internal instance limits) old new is.outcome is.right is.past is.plain
        of_outcome)

module _ (settings : Settings) (instance : PlainInstance) (old new : Option (List ℕ)) (status : ℕ) where
  pub fit_within : IsProposedFitDecided instance settings old new status
      → branchings settings instance ≤ settings.budget → ¬ (status ≡ 3)
  fit_within (inl y) few three = let e = y.status_is in omega (arith, e, three)
  fit_within (inr (inl n)) few three = let e = n.status_is in omega (arith, e, three)
  fit_within (inr (inr u)) few three = let p = u.past in omega (arith, p, few)

  -- with a budget that is enough the status says exactly whether the instance fits
  pub fit_proposed_exactly : IsInstance instance → class_bound instance ≤ settings.budget + 1
      → IsProposedFitDecided instance settings old new status → StatusDecidesFit instance status
  fit_proposed_exactly limits enough (inl y) =
      let e = y.status_is in
      record {
        yes = ((λ zero. (y.places, y.packing)), (λ fits. e));
        no = ((λ one. absurd (omega (arith, e, one))), (λ none. absurd (none (y.places, y.packing))));
      }
  fit_proposed_exactly limits enough (inr (inl n)) =
      let e = n.status_is in
      record {
        yes = ((λ zero. absurd (omega (arith, e, zero))), (λ fits. absurd (n.none fits)));
        no = ((λ one. n.none), (λ none. e));
      }
  fit_proposed_exactly limits enough (inr (inr u)) =
      let p = u.past in
      let b = class_count instance (some_dimension instance (written_internal instance limits)) [] settings.scales in
      absurd (omega (arith, p, b, enough))
