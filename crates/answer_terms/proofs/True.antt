-- What the answers of the jobs claim is true.
use Rattle.std.proofs.Common.{◌≡◌, ℕ, zero, suc, pred, ◌-◌, ◌<◌, ◌≤◌, ◌⊎◌, ◌↔◌, inl, inr, Bool, true, false, refl, sym}
use Rattle.std.proofs.Common.{ap, subst, arith, List, [], if◌then◌else◌}
use Rattle.std.proofs.lemmas.Bool.{true≢false, cases_lt, lt-ltb, le-ltb}
use Rattle.packing_terms.specs.declared.Exclusion.{Exclusion}
use Rattle.packing_terms.specs.Packing.{PlainInstance, Fits}
use Rattle.packing_terms.specs.Goals.{with_last_side, FitsInBins, ReachesValue}
use Rattle.packing_terms.specs.Limits.{IsInstance, IsInternalInstance}
use Rattle.packing_terms.specs.Tokens.{PlainToken}
use Rattle.packing_terms.specs.Refutation.{Refutes}
use Rattle.packing_terms.proofs.Internal.{written_internal, internal_sides}
use Rattle.packing_terms.proofs.Refuted.{none_fits}
use Rattle.packing_terms.proofs.BinsRefuted.{none_fits_bins}
use Rattle.packing_terms.proofs.ValueRefuted.{none_reaches}
use Rattle.packing_terms.proofs.TooLarge.{too_wide, too_large}
use Rattle.packing_terms.proofs.Neighbours.{fits_higher, fits_in_more, reaches_lower, least_height, least_bins}
use Rattle.packing_terms.proofs.Neighbours.{greatest_value}
use Rattle.packing_terms.proofs.Excess.{excess_law}
use Rattle.tree_terms.specs.Trees.{Verdict, Yes, No, Decided, Past, outcome, under_budget, count_of}
use Rattle.tree_terms.specs.ClassTree.{class_tree}
use Rattle.tree_terms.specs.Heights.{DecideHeights}
use Rattle.tree_terms.proofs.Heights.{none_decides}
use Rattle.tree_terms.specs.OuterSearch.{AreTakenNumbers, bins_in, places_in}
use Rattle.text_terms.specs.declared.claim.Claim.{Claim}
use Rattle.text_terms.specs.Claims.{IsTrueOf}
use Rattle.text_terms.specs.declared.claim.Claim.TheVariants.{Fitting, NotFitting, LeastHeight, HeightBetween}
use Rattle.text_terms.specs.declared.claim.Claim.TheVariants.{NoHeight, LeastBins, BinsBetween, NoBins}
use Rattle.text_terms.specs.declared.claim.Claim.TheVariants.{GreatestValue, ValueBetween}
use Rattle.answer_terms.specs.Answers.Answer.{Undecided, Claimed}
use Rattle.answer_terms.specs.Answers.{Answer}
use Rattle.answer_terms.specs.Solved.{solved, fit_answer}
use Rattle.answer_terms.specs.Shown.{ShowsFrom, ShowsHeight, ShowsBins, ShowsValue, AnswersAreTrue}
use Rattle.answer_terms.specs.Shown.{UndecidedExactlyPast}
use Rattle.answer_terms.proofs.Shown.{answers_shown}

-- where what is refuted under the exclusions doesn't fit
module _ (instance : PlainInstance) (limits : IsInstance instance) (start : List Exclusion)
    (decide : DecideHeights instance start)
    (never : (tokens : List PlainToken) → Refutes instance start tokens → ¬ Fits instance) where
  internal : IsInternalInstance instance
  internal = written_internal instance limits

  -- what fits at no height up to the refuted one
  no_lower : {a b : ℕ} {ns : List ℕ} {ts : List PlainToken} → ShowsHeight start instance a b ns ts → (h : ℕ)
      → Fits (with_last_side instance h) → a < h
  no_lower {a = a} s h f = go (cases_lt a h)
    where
      go : (a < h) ⊎ (h ≤ a) → a < h
      go (inl l) = l
      go (inr l) = absurd (decide.refuted a _ s.refutation (fits_higher instance h a l f))

  no_fewer : {a b : ℕ} {ns : List ℕ} {ts : List PlainToken} → ShowsBins instance a b ns ts → (k : ℕ)
      → FitsInBins instance k → a < k
  no_fewer {a = a} s k f = go (cases_lt a k)
    where
      go : (a < k) ⊎ (k ≤ a) → a < k
      go (inl l) = l
      go (inr l) = absurd (none_fits_bins excess_law instance (internal_sides instance internal) a _ s.refutation
          (fits_in_more instance k a l f))

  no_greater : {a b : ℕ} {ns : List ℕ} {ts : List PlainToken} → ShowsValue instance a b ns ts → (t : ℕ)
      → ReachesValue instance t → t < b
  no_greater {b = b} s t f = go (cases_lt t b)
    where
      go : (t < b) ⊎ (b ≤ t) → t < b
      go (inl l) = l
      go (inr l) = absurd (none_reaches excess_law instance (internal_sides instance internal) b _ s.refutation
          (reaches_lower instance b t l f))

  reached : (t : ℕ) (ns : List ℕ) → AreTakenNumbers instance t ns → ReachesValue instance t
  reached t ns p = (p.taken, p.set, p.reached, (p.places, p.packing))

  pub shown_true : (claim : Claim) (numbers : List ℕ) (tokens : List PlainToken)
      → ShowsFrom start instance claim numbers tokens → IsTrueOf instance claim
  shown_true Fitting numbers tokens s = (numbers, s)
  shown_true NotFitting numbers tokens s = never tokens s
  shown_true (LeastHeight h) numbers tokens s = go h s
    where
      go : (k : ℕ) → ShowsHeight start instance (pred k) k numbers tokens → IsTrueOf instance (LeastHeight k)
      go zero t = let r = t.rising in absurd (omega (arith, r))
      go (suc k) t = least_height instance k (numbers, t.packing) (decide.refuted k tokens t.refutation)
  shown_true (HeightBetween a b) numbers tokens s = record { above = no_lower s; fits = (numbers, s.packing) }
  shown_true NoHeight numbers tokens s =
      λ h. too_wide instance h (let l = s.large in
      let a = l.box_from in let b = l.box_to in let c = l.dim_from in let d = s.among in
      record {
        box_no = pred s.box_no;
        dim = pred s.dim;
        there = omega (arith, a, b);
        not_last = omega (arith, c, d);
        large = l.large;
      })
  shown_true (LeastBins k) numbers tokens s = go k s
    where
      go : (k : ℕ) → ShowsBins instance (pred k) k numbers tokens → IsTrueOf instance (LeastBins k)
      go zero t = let r = t.rising in absurd (omega (arith, r))
      go (suc k) t = least_bins instance k (bins_in instance numbers, places_in instance numbers, (t.packing).packing)
          (none_fits_bins excess_law instance (internal_sides instance internal) k tokens t.refutation)
  shown_true (BinsBetween a b) numbers tokens s =
      record { above = no_fewer s; fits = (bins_in instance numbers, places_in instance numbers, (s.packing).packing) }
  shown_true NoBins numbers tokens s =
      λ k. too_large instance k (let l = s.large in
      let a = l.box_from in let b = l.box_to in let c = l.dim_from in let d = l.dim_to in
      record {
        box_no = pred s.box_no;
        dim = pred s.dim;
        there = omega (arith, a, b);
        in_range = omega (arith, c, d);
        large = l.large;
      })
  shown_true (GreatestValue v) numbers tokens s = greatest_value instance v (reached v numbers s.packing)
      (none_reaches excess_law instance (internal_sides instance internal) (suc v) tokens s.refutation)
  shown_true (ValueBetween a b) numbers tokens s =
      record { reached = reached a numbers s.packing; below = no_greater s }

pub answers_true : AnswersAreTrue
answers_true job budget scales instance claim numbers tokens limits e =
    let internal : IsInternalInstance instance = written_internal instance limits in
    shown_true instance limits [] (none_decides instance internal)
    (none_fits excess_law instance (internal_sides instance internal)) claim numbers tokens
    (answers_shown job budget scales instance claim numbers tokens limits e).shown

-- whether an answer is undecided
abbrev is_undecided : Answer → Bool
is_undecided Undecided = true
is_undecided (Claimed claim numbers tokens) = false

-- the outcome of a tree under a budget is undecided exactly where the tree's count is past the budget
module _ (budget : ℕ) where
  claimed : (v : Verdict) → ¬ (fit_answer (Decided v) ≡ Undecided)
  claimed (Yes ns c) e = true≢false (sym (ap is_undecided e))
  claimed (No ts c) e = true≢false (sym (ap is_undecided e))

  pub told_undecided : (v : Verdict) → (fit_answer (under_budget budget v) ≡ Undecided) ↔ (budget < count_of v)
  told_undecided v = (there, back)
    where
      there : fit_answer (under_budget budget v) ≡ Undecided → budget < count_of v
      there e = go (cases_lt budget (count_of v))
        where
          go : (budget < count_of v) ⊎ (count_of v ≤ budget) → budget < count_of v
          go (inl l) = l
          go (inr l) = absurd (claimed v
              (subst (λ b. fit_answer (if b then Past else Decided v) ≡ Undecided) (le-ltb budget (count_of v) l) e))

      back : budget < count_of v → fit_answer (under_budget budget v) ≡ Undecided
      back l = rw (lt-ltb budget (count_of v) l) refl

pub undecided_past : UndecidedExactlyPast
unfolding solved
undecided_past budget scales instance = told_undecided budget (outcome (class_tree instance [] scales))
