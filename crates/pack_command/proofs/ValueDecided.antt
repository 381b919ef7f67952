-- What the answer of `knapsack` says.
use Rattle.std.proofs.Common.{ℕ, ◌≡◌, inl, inr, Bool, true, false, refl, sym, ap, ◌∙◌, List, Option}
use Rattle.std.proofs.lemmas.Bool.{true≢false}
use Rattle.packing_terms.specs.Packing.{PlainInstance}
use Rattle.packing_terms.specs.Limits.{IsInstance}
use Rattle.tree_terms.specs.Levels.{PlainReached, value_run}
use Rattle.tree_terms.proofs.SpentRuns.{value_spent}
use Rattle.answer_terms.specs.declared.job.DocumentJob.TheVariants.{Solving as Solves}
use Rattle.text_terms.specs.declared.claim.SolvingJob.TheVariants.{Knapsack}
use Rattle.text_terms.specs.declared.claim.Claim.TheVariants.{GreatestValue, ValueBetween}
use Rattle.answer_terms.specs.Answers.{answer_text, status_of}
use Rattle.answer_terms.specs.Answers.Answer.{Claimed}
use Rattle.answer_terms.specs.Solved.{solved, reached_claim}
use Rattle.answer_terms.proofs.Shown.{answers_shown}
use Rattle.answer_terms.proofs.True.{answers_true}
use Rattle.pack_streams.specs.Moves.{Appended}
use Rattle.text_terms.specs.declared.settings.Settings.{Settings}
use Rattle.pack_command.specs.Answered.{answer_for}
use Rattle.pack_command.specs.GreatestValues.{IsValueDecided}

module _ (settings : Settings) (instance : PlainInstance) (limits : IsInstance instance)
    (old new : Option (List ℕ)) where
  abbrev run : PlainReached
  run = value_run instance settings.budget settings.scales

  -- the answer, by whether a decision was spent
  by_spent : (b : Bool) → run.spent ≡ b
      → solved Knapsack settings.budget settings.scales instance
      ≡ Claimed (reached_claim b (GreatestValue run.placed) (ValueBetween run.placed run.refuted))
      run.numbers run.tokens
  unfolding solved
  by_spent b s =
      ap (λ (x : Bool). Claimed (reached_claim x (GreatestValue run.placed) (ValueBetween run.placed run.refuted))
      run.numbers run.tokens) s

  reached : (b : Bool) → run.spent ≡ b
      → Appended old new (answer_text instance
      (Claimed (reached_claim b (GreatestValue run.placed) (ValueBetween run.placed run.refuted)) run.numbers
      run.tokens))
      → IsValueDecided instance settings old new
      (status_of (Claimed (reached_claim b (GreatestValue run.placed) (ValueBetween run.placed run.refuted)) run.numbers
      run.tokens))
  reached false s g =
      let is = by_spent false s in
      let shown = (answers_shown Knapsack settings.budget settings.scales instance (GreatestValue run.placed)
      run.numbers run.tokens limits is).shown in
      inl (record {
        status_is = refl;
        value = run.placed;
        greatest = answers_true Knapsack settings.budget settings.scales instance (GreatestValue run.placed) run.numbers
            run.tokens limits is;
        numbers = run.numbers;
        packing = shown.packing;
        tokens = run.tokens;
        refutation = shown.refutation;
        within = (λ large. true≢false (sym ((value_spent instance settings.budget settings.scales).1 large) ∙ s));
        written = g;
      })
  reached true s g =
      let is = by_spent true s in
      let shown = (answers_shown Knapsack settings.budget settings.scales instance (ValueBetween run.placed run.refuted)
      run.numbers run.tokens limits is).shown in
      inr (record {
        status_is = refl;
        placed = run.placed;
        refuted = run.refuted;
        order = shown.rising;
        between = answers_true Knapsack settings.budget settings.scales instance (ValueBetween run.placed run.refuted)
            run.numbers run.tokens limits is;
        numbers = run.numbers;
        packing = shown.packing;
        tokens = run.tokens;
        refutation = shown.refutation;
        past = (value_spent instance settings.budget settings.scales).0 s;
        written = g;
      })

  -- the answer of `knapsack` is the greatest value, or two values between which it lies
  pub value_decided : Appended old new (answer_for (Solves Knapsack) settings instance).text
      → IsValueDecided instance settings old new (answer_for (Solves Knapsack) settings instance).status
  unfolding solved
  value_decided g = reached run.spent refl g
