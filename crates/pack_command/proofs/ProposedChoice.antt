-- What the answer of `knapsack` with proposals says.
use Rattle.std.proofs.Common.{ℕ, suc, ◌≡◌, ◌≤◌, ◌<◌, ◌⊎◌, inl, inr, arith, refl, sym, subst, List}
use Rattle.std.specs.declared.option.Option.{Option}
use Rattle.std.proofs.lemmas.Bool.{cases_lt}
use Rattle.packing_terms.specs.Packing.{PlainInstance}
use Rattle.packing_terms.specs.Goals.{ReachesValue}
use Rattle.packing_terms.specs.Limits.{IsInstance, IsInternalInstance}
use Rattle.packing_terms.proofs.Internal.{written_internal}
use Rattle.tree_terms.specs.OuterSearch.{AreTakenNumbers}
use Rattle.text_terms.specs.declared.settings.Settings.{Settings}
use Rattle.text_terms.specs.declared.claim.SolvingJob.TheVariants.{Knapsack as SolvesKnapsack}
use Rattle.answer_terms.specs.Answers.{Answer, answer_text, status_of}
use Rattle.answer_streams.specs.declared.solution.Solution.TheVariants.{Knapsack}
use Rattle.answer_streams.specs.Solutions.{choice_found}
use Rattle.bin_knapsack.specs.declared.choice.Choice.{Choice as FoundChoice}
use Rattle.bin_knapsack.specs.declared.choice.Choice.TheVariants.{Greatest, Between}
use Rattle.bin_knapsack.specs.Choices.{IsTrueChoice}
use Rattle.proposed_answers.specs.Shares.{level_share}
use Rattle.proposed_answers.specs.Values.{value_count, IsLimitedChoice, AreNeighboursPastBudget}
use Rattle.proposed_answers.proofs.Tops.{top_small}
use Rattle.pack_streams.specs.Moves.{Appended}
use Rattle.pack_command.specs.Proposed.{IsProposedChoice, IsProposedSolution, IsProposedValueDecided}
use Rattle.pack_command.proofs.ProposedOwn.{IsOwnAnswer}

-- what was found is a solution
pub choice_proposed : (settings : Settings) (instance : PlainInstance) (choice : FoundChoice)
    → IsTrueChoice instance choice
    → IsLimitedChoice instance choice → AreNeighboursPastBudget instance settings.budget settings.scales choice
    → IsProposedSolution SolvesKnapsack settings instance (Knapsack choice)
choice_proposed settings instance choice right limited past = record {
  is = record { choice = choice; right = right; limited = limited; past = past; answer_is = refl };
  text = refl;
  placed = tt;
}

-- ---- its document is shown

module _ (instance : PlainInstance) (limits : IsInternalInstance instance) where
  own_by : (choice : FoundChoice) → IsTrueChoice instance choice → IsLimitedChoice instance choice
      → IsOwnAnswer SolvesKnapsack instance (choice_found choice)
  own_by (Greatest value numbers tokens) t limited =
      let s = top_small instance limits in (
        refl,
        record {
          rising = omega arith;
          most = omega (arith, limited, s);
          packing = t.packed;
          refutation = t.refuted;
        },
      )
  own_by (Between placed numbers refuted tokens) t limited =
      let s = top_small instance limits in
      (refl, record { rising = t.order; most = omega (arith, limited, s); packing = t.packed; refutation = t.refutes })

-- ---- and it is the greatest value, or two values

below_by : (instance : PlainInstance) (refuted t : ℕ) → ((y : ℕ) → refuted ≤ y → ¬ ReachesValue instance y)
    → ReachesValue instance t → t < refuted
below_by instance refuted t none reached = go (cases_lt t refuted)
  where
    go : (t < refuted) ⊎ (refuted ≤ t) → t < refuted
    go (inl l) = l
    go (inr l) = absurd (none t l reached)

reached_by : (instance : PlainInstance) (value : ℕ) (numbers : List ℕ) → AreTakenNumbers instance value numbers
    → ReachesValue instance value
reached_by instance value numbers shown = (shown.taken, shown.set, shown.reached, (shown.places, shown.packing))

decided_by : (settings : Settings) (instance : PlainInstance) (old new : Option (List ℕ)) (choice : FoundChoice)
    → IsTrueChoice instance choice
    → AreNeighboursPastBudget instance settings.budget settings.scales choice
    → Appended old new (answer_text instance (choice_found choice))
    → IsProposedValueDecided instance settings old new (status_of (choice_found choice))
decided_by settings instance old new (Greatest value numbers tokens) t past written = inl (record {
  status_is = refl;
  value = value;
  greatest = t.greatest;
  numbers = numbers.items;
  packing = t.packed;
  tokens = tokens;
  refutation = t.refuted;
  written = written;
})
decided_by settings instance old new (Between placed numbers refuted tokens) t past written = inr (record {
  status_is = refl;
  placed = placed;
  refuted = refuted;
  order = t.order;
  between = record {
    reached = reached_by instance placed numbers.items t.packed;
    below = (λ y reached. below_by instance refuted y t.none_reaches reached);
  };
  numbers = numbers.items;
  packing = t.packed;
  tokens = tokens;
  refutation = t.refutes;
  past_above = past.0;
  past_below = past.1;
  written = written;
})

module _ (settings : Settings) (instance : PlainInstance) (answer : Answer)
    (is : IsProposedChoice settings instance answer) where
  pub choice_own : IsInstance instance → IsOwnAnswer SolvesKnapsack instance answer
  choice_own limits =
      subst (λ (a : Answer). IsOwnAnswer SolvesKnapsack instance a) (sym is.answer_is)
      (own_by instance (written_internal instance limits) is.choice is.right is.limited)

  pub choice_proposed_decided : (old new : Option (List ℕ)) → Appended old new (answer_text instance answer)
      → IsProposedValueDecided instance settings old new (status_of answer)
  choice_proposed_decided old new written =
      subst (λ (a : Answer). IsProposedValueDecided instance settings old new (status_of a)) (sym is.answer_is)
      (decided_by settings instance old new is.choice is.right is.past
      (subst (λ (a : Answer). Appended old new (answer_text instance a)) is.answer_is written))

-- it isn't two values where the tree of no value is past the budget
pub choice_within : (settings : Settings) (instance : PlainInstance) (old new : Option (List ℕ)) (status : ℕ)
    → IsProposedValueDecided instance settings old new status
    → ((t : ℕ) → value_count instance settings.scales t ≤ level_share settings.budget) → ¬ (status ≡ 3)
choice_within settings instance old new status (inl g) few three = let e = g.status_is in omega (arith, e, three)
choice_within settings instance old new status (inr b) few three = let p = b.past_above in let f = few (suc b.placed) in
    omega (arith, p, f)
