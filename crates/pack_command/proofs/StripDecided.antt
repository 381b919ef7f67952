-- What the answer of `strip` says, by what its trees begin with.
use Rattle.std.proofs.Common.{ℕ, ◌≡◌, inl, inr, Bool, true, false, refl, sym, ap, subst, ◌∙◌, List, [], Option, Some}
use Rattle.std.proofs.Common.{None}
use Rattle.std.proofs.lemmas.Bool.{true≢false}
use Rattle.packing_terms.specs.Packing.{PlainInstance}
use Rattle.packing_terms.specs.Limits.{IsInstance}
use Rattle.packing_terms.specs.Tokens.{PlainToken}
use Rattle.packing_terms.specs.Facts.{symmetry_facts}
use Rattle.tree_terms.specs.ClassTree.{first_too_wide}
use Rattle.tree_terms.specs.Levels.{PlainReached}
use Rattle.tree_terms.specs.Heights.{height_run_from}
use Rattle.tree_terms.proofs.Heights.{spent_from}
use Rattle.tree_terms.proofs.FirstFound.{first_too_wide_is}
use Rattle.answer_terms.specs.declared.job.ReducedJob.TheVariants.{Strip as FromStrip}
use Rattle.text_terms.specs.declared.claim.SolvingJob.TheVariants.{Strip}
use Rattle.text_terms.specs.declared.claim.Claim.{Claim}
use Rattle.text_terms.specs.declared.claim.Claim.TheVariants.{LeastHeight, HeightBetween, NoHeight}
use Rattle.text_terms.specs.Claims.{IsTrueOf}
use Rattle.answer_streams.specs.declared.tree_start.TreeStart.{TreeStart}
use Rattle.answer_streams.specs.declared.tree_start.TreeStart.TheVariants.{Nothing, Facts}
use Rattle.answer_terms.specs.Answers.{Answer, status_of}
use Rattle.answer_terms.specs.Answers.Answer.{Claimed}
use Rattle.answer_terms.specs.Reduced.{reduced_solved}
use Rattle.answer_terms.specs.Shown.{IsShownFrom}
use Rattle.answer_terms.specs.Solved.{solved, strip_answer, reached_claim}
use Rattle.answer_terms.proofs.Shown.{answers_shown}
use Rattle.answer_terms.proofs.True.{answers_true}
use Rattle.answer_terms.proofs.Reduced.{reduced_shown, reduced_true}
use Rattle.answer_streams.specs.Headed.{headed_text, start_facts}
use Rattle.pack_streams.specs.Moves.{Appended}
use Rattle.text_terms.specs.declared.settings.Settings.{Settings}
use Rattle.pack_command.specs.Strips.{IsStripDecided}

-- the answer, by what its trees begin with
abbrev pub solved_under : TreeStart → ℕ → Bool → PlainInstance → Answer
solved_under Nothing budget scales instance = solved Strip budget scales instance
solved_under Facts budget scales instance = reduced_solved FromStrip budget scales instance

solved_is : (start : TreeStart) (budget : ℕ) (scales : Bool) (instance : PlainInstance) (p : Option (ℕ × ℕ))
    → first_too_wide instance ≡ p
    → solved_under start budget scales instance
    ≡ strip_answer p (height_run_from (start_facts start instance) instance budget scales)
unfolding solved reduced_solved
solved_is Nothing budget scales instance p e =
    ap (λ (q : Option (ℕ × ℕ)). strip_answer q (height_run_from [] instance budget scales)) e
solved_is Facts budget scales instance p e =
    ap (λ (q : Option (ℕ × ℕ)). strip_answer q (height_run_from (symmetry_facts instance) instance budget scales)) e

shown_under : (start : TreeStart) (budget : ℕ) (scales : Bool) (instance : PlainInstance) (claim : Claim)
    (numbers : List ℕ) (tokens : List PlainToken)
    → IsInstance instance → solved_under start budget scales instance ≡ Claimed claim numbers tokens
    → IsShownFrom (start_facts start instance) Strip instance claim numbers tokens
shown_under Nothing budget scales instance claim numbers tokens limits e =
    answers_shown Strip budget scales instance claim numbers tokens limits e
shown_under Facts budget scales instance claim numbers tokens limits e =
    reduced_shown FromStrip budget scales instance claim numbers tokens limits e

true_under : (start : TreeStart) (budget : ℕ) (scales : Bool) (instance : PlainInstance) (claim : Claim)
    (numbers : List ℕ) (tokens : List PlainToken)
    → IsInstance instance → solved_under start budget scales instance ≡ Claimed claim numbers tokens
    → IsTrueOf instance claim
true_under Nothing budget scales instance claim numbers tokens limits e =
    answers_true Strip budget scales instance claim numbers tokens limits e
true_under Facts budget scales instance claim numbers tokens limits e =
    reduced_true FromStrip budget scales instance claim numbers tokens limits e

module _ (start : TreeStart) (settings : Settings) (instance : PlainInstance) (limits : IsInstance instance)
    (old new : Option (List ℕ)) where
  abbrev run : PlainReached
  run = height_run_from (start_facts start instance) instance settings.budget settings.scales

  abbrev found : Answer
  found = solved_under start settings.budget settings.scales instance

  -- the answer, by the first box that is too wide, and by whether a decision was spent
  by_wide : (p : Option (ℕ × ℕ)) → first_too_wide instance ≡ p → found ≡ strip_answer p run
  by_wide p e = solved_is start settings.budget settings.scales instance p e

  by_spent : (b : Bool) → first_too_wide instance ≡ None → run.spent ≡ b
      → found
      ≡ Claimed (reached_claim b (LeastHeight run.placed) (HeightBetween run.refuted run.placed)) run.numbers run.tokens
  by_spent b e s =
      by_wide None e
      ∙ ap (λ (x : Bool). Claimed (reached_claim x (LeastHeight run.placed) (HeightBetween run.refuted run.placed))
      run.numbers run.tokens) s

  reached : (b : Bool) → first_too_wide instance ≡ None → run.spent ≡ b
      → Appended old new (headed_text start instance
      (Claimed (reached_claim b (LeastHeight run.placed) (HeightBetween run.refuted run.placed)) run.numbers
      run.tokens))
      → IsStripDecided start instance settings old new
      (status_of (Claimed (reached_claim b (LeastHeight run.placed) (HeightBetween run.refuted run.placed)) run.numbers
      run.tokens))
  reached false e s g =
      let is = by_spent false e s in
      let shown = (shown_under start settings.budget settings.scales instance (LeastHeight run.placed) run.numbers
      run.tokens limits is).shown in
      inl (record {
        status_is = refl;
        height = run.placed;
        least = true_under start settings.budget settings.scales instance (LeastHeight run.placed) run.numbers
            run.tokens limits is;
        places = run.numbers;
        packing = shown.packing;
        tokens = run.tokens;
        refutation = shown.refutation;
        within = (λ large. true≢false (sym
            ((spent_from instance (start_facts start instance) settings.budget settings.scales).1 large) ∙ s));
        written = g;
      })
  reached true e s g =
      let is = by_spent true e s in
      let shown = (shown_under start settings.budget settings.scales instance (HeightBetween run.refuted run.placed)
      run.numbers run.tokens limits is).shown in
      inr (inl (record {
        status_is = refl;
        refuted = run.refuted;
        placed = run.placed;
        order = shown.rising;
        between = true_under start settings.budget settings.scales instance (HeightBetween run.refuted run.placed)
            run.numbers run.tokens limits is;
        places = run.numbers;
        packing = shown.packing;
        tokens = run.tokens;
        refutation = shown.refutation;
        past = (spent_from instance (start_facts start instance) settings.budget settings.scales).0 s;
        written = g;
      }))

  by_first : (p : Option (ℕ × ℕ)) → first_too_wide instance ≡ p
      → Appended old new (headed_text start instance (strip_answer p run))
      → IsStripDecided start instance settings old new (status_of (strip_answer p run))
  by_first (Some p) e g =
      let none = true_under start settings.budget settings.scales instance NoHeight _ _ limits (by_wide (Some p) e) in
      inr (inr (record {
        status_is = refl;
        none = (λ (h, l). none h l.fits);
        box_no = p.0;
        dim = p.1;
        first = (first_too_wide_is instance p.0 p.1).0 e;
        written = g;
      }))
  by_first None e g = reached run.spent e refl g

  -- the answer of `strip` is the least height, two heights between which it lies, or none
  pub strip_decided : Appended old new (headed_text start instance found)
      → IsStripDecided start instance settings old new (status_of found)
  strip_decided g =
      let e = by_wide (first_too_wide instance) refl in
      subst (λ (a : Answer). IsStripDecided start instance settings old new (status_of a)) (sym e)
      (by_first (first_too_wide instance) refl
      (subst (λ (a : Answer). Appended old new (headed_text start instance a)) e g))
