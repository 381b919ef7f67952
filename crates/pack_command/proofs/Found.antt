-- What a job finds is the answer of the definition.
use Rattle.std.proofs.Common.{ℕ, ◌≡◌, ◌-◌, ◌*◌, arith, sym, ap, subst, ◌∙◌, Bool, List, [], length, None, Option}
use Rattle.std.proofs.Math.ListN.{length-set}
use Rattle.packing_terms.specs.declared.Exclusion.{Exclusion}
use Rattle.packing_terms.specs.Facts.{symmetry_facts}
use Rattle.packing_terms.specs.Packing.{PlainInstance, dims, box_count}
use Rattle.packing_terms.specs.Goals.{with_last_side}
use Rattle.tree_terms.specs.Trees.{PlainOutcome, Decided, Past, Yes, No, outcome, under_budget}
use Rattle.tree_terms.specs.ClassTree.{class_tree, first_too_large_box, first_too_wide}
use Rattle.tree_terms.specs.Levels.{PlainReached, bin_run, value_run}
use Rattle.tree_terms.specs.Heights.{height_run_from}
use Rattle.tree_terms.proofs.FirstFound.{first_large_is, none_large_is, first_too_wide_is, none_too_wide_is}
use Rattle.answer_terms.specs.declared.job.DocumentJob.TheVariants.{Solving as Solves, Reduced as Reduces}
use Rattle.answer_terms.specs.declared.job.ReducedJob.TheVariants.{Fit as FromFit, Strip as FromStrip}
use Rattle.text_terms.specs.declared.claim.SolvingJob.TheVariants.{Fit as SolvesFit, Strip as SolvesStrip}
use Rattle.text_terms.specs.declared.claim.SolvingJob.TheVariants.{Bins as SolvesBins, Knapsack as SolvesKnapsack}
use Rattle.answer_terms.specs.Answers.{Answer, answer_text, status_of}
use Rattle.answer_terms.specs.Reduced.{reduced_solved, reduced_text}
use Rattle.answer_terms.specs.Solved.{solved, fit_answer, strip_answer, bins_answer, knapsack_answer}
use Rattle.proof_tree.specs.declared.outcome.Outcome.{Outcome}
use Rattle.work_share.specs.Outcomes.{plain_outcome}
use Rattle.class_search.specs.Right.{IsRight}
use Rattle.strip_solver.specs.declared.strip.Strip.{Strip as FoundStrip}
use Rattle.strip_solver.specs.declared.strip.Strip.TheVariants.{Least, Between, NoneFits}
use Rattle.strip_solver.specs.Strips.{IsAnswerFrom, IsTrueStripFrom, IsAnswer, IsTrueStrip}
use Rattle.bin_knapsack.specs.declared.bins.Bins.{Bins as FoundBins}
use Rattle.bin_knapsack.specs.declared.bins.Bins.TheVariants.{Least as LeastCount, Between as CountBetween}
use Rattle.bin_knapsack.specs.declared.bins.Bins.TheVariants.{NoneFits as NoBin}
use Rattle.bin_knapsack.specs.declared.choice.Choice.{Choice as FoundChoice}
use Rattle.bin_knapsack.specs.declared.choice.Choice.TheVariants.{Greatest, Between as WorthBetween}
use Rattle.bin_knapsack.specs.BinAnswers.{IsAnswer as IsBinsAnswer, AreTrueBins}
use Rattle.bin_knapsack.specs.Choices.{IsAnswer as IsChoiceAnswer}
use Rattle.text_terms.specs.declared.settings.Settings.{Settings}
use Rattle.answer_streams.specs.Placed.{IsPlaced}
use Rattle.answer_streams.specs.declared.solution.Solution.TheVariants.{Fit, Strip, Bins, Knapsack, Reduced}
use Rattle.answer_streams.specs.declared.solution.Solution.TheVariants.{ReducedStrip}
use Rattle.answer_streams.specs.Solutions.{strip_found, bins_found, choice_found, IsPlacedStrip, ArePlacedBins}
use Rattle.answer_streams.specs.Solutions.{IsSolution}

pub right_placed : (instance : PlainInstance) (es : List Exclusion) (o : PlainOutcome) → IsRight instance es o
    → IsPlaced instance o
right_placed instance es (Decided (Yes numbers count)) h = h.count
right_placed instance es (Decided (No tokens count)) h = tt
right_placed instance es Past h = tt

pub fit_solution : (settings : Settings) (instance : PlainInstance) (o : Outcome)
    → plain_outcome o ≡ under_budget settings.budget (outcome (class_tree instance [] settings.scales))
    → IsRight instance [] (plain_outcome o) → IsSolution (Solves SolvesFit) settings instance (Fit o)
unfolding solved
fit_solution settings instance o e right = record {
  status = ap (λ (x : PlainOutcome). status_of (fit_answer x)) e;
  text = ap (λ (x : PlainOutcome). answer_text instance (fit_answer x)) e;
  placed = right_placed instance [] (plain_outcome o) right;
}

pub reduced_solution : (settings : Settings) (instance : PlainInstance) (o : Outcome)
    → plain_outcome o ≡ under_budget settings.budget (outcome (class_tree instance (symmetry_facts instance) settings.scales))
    → IsRight instance (symmetry_facts instance) (plain_outcome o)
    → IsSolution (Reduces FromFit) settings instance (Reduced o)
unfolding reduced_solved
reduced_solution settings instance o e right = record {
  status = ap (λ (x : PlainOutcome). status_of (fit_answer x)) e;
  text = ap (λ (x : PlainOutcome). reduced_text instance (fit_answer x)) e;
  placed = right_placed instance (symmetry_facts instance) (plain_outcome o) right;
}

-- a strip, with trees that begin with these exclusions
module _ (start : List Exclusion) (instance : PlainInstance) where
  strip_placed : (strip : FoundStrip) (budget : ℕ) (scales : Bool) → IsAnswerFrom start instance budget scales strip
      → IsTrueStripFrom start instance strip → IsPlacedStrip instance strip
  strip_placed (Least height places tokens) budget scales a t =
      let d : dims (with_last_side instance height) ≡ dims instance =
      length-set instance.container (dims instance - 1) height in
      subst (λ (x : ℕ). length places.items ≡ box_count instance * x) d (t.packed).count
  strip_placed (Between refuted tokens height places) budget scales a t =
      let d : dims (with_last_side instance height) ≡ dims instance =
      length-set instance.container (dims instance - 1) height in
      subst (λ (x : ℕ). length places.items ≡ box_count instance * x) d (t.packed).count
  strip_placed (NoneFits v i) budget scales a t = let r = a.in_range in (a.there, omega (arith, r))

  strip_answered : (strip : FoundStrip) (budget : ℕ) (scales : Bool) → IsAnswerFrom start instance budget scales strip
      → strip_found strip ≡ strip_answer (first_too_wide instance) (height_run_from start instance budget scales)
  strip_answered (Least height places tokens) budget scales a =
      sym (ap (λ (p : Option (ℕ × ℕ)). strip_answer p (height_run_from start instance budget scales))
      ((none_too_wide_is instance).1 a.0)
      ∙ ap (λ (r : PlainReached). strip_answer None r) a.1)
  strip_answered (Between refuted tokens height places) budget scales a =
      sym (ap (λ (p : Option (ℕ × ℕ)). strip_answer p (height_run_from start instance budget scales))
      ((none_too_wide_is instance).1 a.0)
      ∙ ap (λ (r : PlainReached). strip_answer None r) a.1)
  strip_answered (NoneFits v i) budget scales a =
      sym (ap (λ (p : Option (ℕ × ℕ)). strip_answer p (height_run_from start instance budget scales))
      ((first_too_wide_is instance v i).1 a))

pub strip_solution : (settings : Settings) (instance : PlainInstance) (strip : FoundStrip)
    → IsAnswer instance settings.budget settings.scales strip
    → IsTrueStrip instance strip → IsSolution (Solves SolvesStrip) settings instance (Strip strip)
unfolding solved
strip_solution settings instance strip a t = record {
  status = ap status_of (strip_answered [] instance strip settings.budget settings.scales a);
  text = ap (λ (x : Answer). answer_text instance x)
      (strip_answered [] instance strip settings.budget settings.scales a);
  placed = strip_placed [] instance strip settings.budget settings.scales a t;
}

pub reduced_strip_solution : (settings : Settings) (instance : PlainInstance) (strip : FoundStrip)
    → IsAnswerFrom (symmetry_facts instance) instance settings.budget settings.scales strip
    → IsTrueStripFrom (symmetry_facts instance) instance strip
    → IsSolution (Reduces FromStrip) settings instance (ReducedStrip strip)
unfolding reduced_solved
reduced_strip_solution settings instance strip a t = record {
  status = ap status_of (strip_answered (symmetry_facts instance) instance strip settings.budget settings.scales a);
  text = ap (λ (x : Answer). reduced_text instance x)
      (strip_answered (symmetry_facts instance) instance strip settings.budget settings.scales a);
  placed = strip_placed (symmetry_facts instance) instance strip settings.budget settings.scales a t;
}

module _ (instance : PlainInstance) where
  pub bins_placed : (bins : FoundBins) (budget : ℕ) (scales : Bool) → IsBinsAnswer instance budget scales bins
      → AreTrueBins instance bins → ArePlacedBins instance bins
  bins_placed (LeastCount bins numbers tokens) budget scales a t = (t.packed).count
  bins_placed (CountBetween refuted tokens bins numbers) budget scales a t = (t.packed).count
  bins_placed (NoBin v i) budget scales a t = (a.there, a.in_range)

  pub bins_answered : (bins : FoundBins) (budget : ℕ) (scales : Bool) → IsBinsAnswer instance budget scales bins
      → bins_found bins ≡ bins_answer (first_too_large_box instance) (bin_run instance budget scales)
  bins_answered (LeastCount bins numbers tokens) budget scales a =
      sym (ap (λ (p : Option (ℕ × ℕ)). bins_answer p (bin_run instance budget scales)) ((none_large_is instance).1 a.0)
      ∙ ap (λ (r : PlainReached). bins_answer None r) a.1)
  bins_answered (CountBetween refuted tokens bins numbers) budget scales a =
      sym (ap (λ (p : Option (ℕ × ℕ)). bins_answer p (bin_run instance budget scales)) ((none_large_is instance).1 a.0)
      ∙ ap (λ (r : PlainReached). bins_answer None r) a.1)
  bins_answered (NoBin v i) budget scales a =
      sym (ap (λ (p : Option (ℕ × ℕ)). bins_answer p (bin_run instance budget scales))
      ((first_large_is instance v i).1 a))

pub bins_solution : (settings : Settings) (instance : PlainInstance) (bins : FoundBins)
    → IsBinsAnswer instance settings.budget settings.scales bins
    → AreTrueBins instance bins → IsSolution (Solves SolvesBins) settings instance (Bins bins)
unfolding solved
bins_solution settings instance bins a t = record {
  status = ap status_of (bins_answered instance bins settings.budget settings.scales a);
  text = ap (λ (x : Answer). answer_text instance x) (bins_answered instance bins settings.budget settings.scales a);
  placed = bins_placed instance bins settings.budget settings.scales a t;
}

pub choice_answered : (instance : PlainInstance) (choice : FoundChoice) (budget : ℕ) (scales : Bool)
    → IsChoiceAnswer instance budget scales choice
    → choice_found choice ≡ knapsack_answer (value_run instance budget scales)
choice_answered instance (Greatest value numbers tokens) budget scales a = sym (ap knapsack_answer a)
choice_answered instance (WorthBetween placed numbers refuted tokens) budget scales a = sym (ap knapsack_answer a)

pub choice_solution : (settings : Settings) (instance : PlainInstance) (choice : FoundChoice)
    → IsChoiceAnswer instance settings.budget settings.scales choice
    → IsSolution (Solves SolvesKnapsack) settings instance (Knapsack choice)
unfolding solved
choice_solution settings instance choice a = record {
  status = ap status_of (choice_answered instance choice settings.budget settings.scales a);
  text = ap (λ (x : Answer). answer_text instance x)
      (choice_answered instance choice settings.budget settings.scales a);
  placed = tt;
}
