-- What the answer of `bins` says.
use Rattle.std.proofs.Common.{ℕ, ◌≡◌, inl, inr, Bool, true, false, refl, sym, ap, ◌∙◌, List, Option, Some, None}
use Rattle.std.proofs.lemmas.Bool.{true≢false}
use Rattle.packing_terms.specs.Packing.{PlainInstance}
use Rattle.packing_terms.specs.Limits.{IsInstance}
use Rattle.tree_terms.specs.ClassTree.{first_too_large_box}
use Rattle.tree_terms.specs.Levels.{PlainReached, bin_run}
use Rattle.tree_terms.proofs.FirstFound.{first_large_is}
use Rattle.tree_terms.proofs.SpentRuns.{bins_spent}
use Rattle.answer_terms.specs.declared.job.DocumentJob.TheVariants.{Solving as Solves}
use Rattle.text_terms.specs.declared.claim.SolvingJob.TheVariants.{Bins}
use Rattle.text_terms.specs.declared.claim.Claim.TheVariants.{LeastBins, BinsBetween, NoBins}
use Rattle.answer_terms.specs.Answers.{answer_text, status_of}
use Rattle.answer_terms.specs.Answers.Answer.{Claimed}
use Rattle.answer_terms.specs.Solved.{solved, bins_answer, reached_claim}
use Rattle.answer_terms.proofs.Shown.{answers_shown}
use Rattle.answer_terms.proofs.True.{answers_true}
use Rattle.pack_streams.specs.Moves.{Appended}
use Rattle.text_terms.specs.declared.settings.Settings.{Settings}
use Rattle.pack_command.specs.Answered.{answer_for}
use Rattle.pack_command.specs.FewestBins.{AreBinsDecided}

module _ (settings : Settings) (instance : PlainInstance) (limits : IsInstance instance)
    (old new : Option (List ℕ)) where
  abbrev run : PlainReached
  run = bin_run instance settings.budget settings.scales

  -- the answer, by the first box that is too large, and by whether a decision was spent
  by_large : (p : Option (ℕ × ℕ)) → first_too_large_box instance ≡ p
      → solved Bins settings.budget settings.scales instance ≡ bins_answer p run
  unfolding solved
  by_large p e = ap (λ (q : Option (ℕ × ℕ)). bins_answer q run) e

  by_spent : (b : Bool) → first_too_large_box instance ≡ None → run.spent ≡ b
      → solved Bins settings.budget settings.scales instance
      ≡ Claimed (reached_claim b (LeastBins run.placed) (BinsBetween run.refuted run.placed)) run.numbers run.tokens
  by_spent b e s =
      by_large None e
      ∙ ap (λ (x : Bool). Claimed (reached_claim x (LeastBins run.placed) (BinsBetween run.refuted run.placed))
      run.numbers run.tokens) s

  reached : (b : Bool) → first_too_large_box instance ≡ None → run.spent ≡ b
      → Appended old new (answer_text instance
      (Claimed (reached_claim b (LeastBins run.placed) (BinsBetween run.refuted run.placed)) run.numbers
      run.tokens))
      → AreBinsDecided instance settings old new
      (status_of (Claimed (reached_claim b (LeastBins run.placed) (BinsBetween run.refuted run.placed)) run.numbers
      run.tokens))
  reached false e s g =
      let is = by_spent false e s in
      let shown = (answers_shown Bins settings.budget settings.scales instance (LeastBins run.placed) run.numbers
      run.tokens limits is).shown in
      inl (record {
        status_is = refl;
        bins = run.placed;
        least = answers_true Bins settings.budget settings.scales instance (LeastBins run.placed) run.numbers
            run.tokens limits is;
        numbers = run.numbers;
        packing = shown.packing;
        tokens = run.tokens;
        refutation = shown.refutation;
        within = (λ large. true≢false (sym ((bins_spent instance settings.budget settings.scales).1 large) ∙ s));
        written = g;
      })
  reached true e s g =
      let is = by_spent true e s in
      let shown = (answers_shown Bins settings.budget settings.scales instance (BinsBetween run.refuted run.placed)
      run.numbers run.tokens limits is).shown in
      inr (inl (record {
        status_is = refl;
        refuted = run.refuted;
        placed = run.placed;
        order = shown.rising;
        between = answers_true Bins settings.budget settings.scales instance (BinsBetween run.refuted run.placed)
            run.numbers run.tokens limits is;
        numbers = run.numbers;
        packing = shown.packing;
        tokens = run.tokens;
        refutation = shown.refutation;
        past = (bins_spent instance settings.budget settings.scales).0 s;
        written = g;
      }))

  by_first : (p : Option (ℕ × ℕ)) → first_too_large_box instance ≡ p
      → Appended old new (answer_text instance (bins_answer p run))
      → AreBinsDecided instance settings old new (status_of (bins_answer p run))
  by_first (Some p) e g =
      let none = answers_true Bins settings.budget settings.scales instance NoBins _ _ limits (by_large (Some p) e) in
      inr (inr (record {
        status_is = refl;
        none = (λ (h, l). none h l.fits);
        box_no = p.0;
        dim = p.1;
        first = (first_large_is instance p.0 p.1).0 e;
        written = g;
      }))
  by_first None e g = reached run.spent e refl g

  -- the answer of `bins` is the least number of bins, two numbers between which it lies, or none
  pub bins_decided : Appended old new (answer_for (Solves Bins) settings instance).text
      → AreBinsDecided instance settings old new (answer_for (Solves Bins) settings instance).status
  unfolding solved
  bins_decided g = by_first (first_too_large_box instance) refl g
