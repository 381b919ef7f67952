-- The answers of the jobs are shown.
use Rattle.std.proofs.Common.{◌≡◌, ℕ, zero, suc, pred, ◌+◌, ◌-◌, ◌*◌, ◌≤◌, Bool, true, false, refl, subst, arith, List}
use Rattle.std.proofs.Common.{[], ◌∷◌, Option, Some, None, if◌then◌else◌, get_or, ltb}
use Rattle.std.specs.List.{range_with_len}
use Rattle.std.proofs.lemmas.List.Sums.{sum_by-cons}
use Rattle.packing_terms.specs.declared.Exclusion.{Exclusion}
use Rattle.packing_terms.specs.Packing.{PlainInstance, dims, box_count, no_box}
use Rattle.packing_terms.specs.Goals.{HasTooWideBox, HasTooLargeBox, worth}
use Rattle.packing_terms.specs.Limits.{IsInstance, IsInternalInstance}
use Rattle.packing_terms.specs.TooLarge.{IsFirstLongerBelow}
use Rattle.packing_terms.specs.Tokens.PlainToken.{TooLarge}
use Rattle.packing_terms.proofs.Internal.{written_internal}
use Rattle.tree_terms.specs.Trees.{Verdict, Yes, No, Decided, Past, outcome, under_budget, count_of}
use Rattle.tree_terms.specs.ClassTree.{class_tree, first_too_large_box, first_too_wide}
use Rattle.tree_terms.specs.Search.{IsRightUnder}
use Rattle.tree_terms.specs.Levels.{PlainReached, bin_run, value_run}
use Rattle.tree_terms.proofs.Decisions.{class_tree_right}
use Rattle.tree_terms.proofs.FirstFound.{first_large_is, first_too_wide_is, none_large_is, none_too_wide_is}
use Rattle.tree_terms.proofs.Optima.{stack_small, bins_keep, values_keep}
use Rattle.tree_terms.proofs.SpentRuns.{bins_end, value_end}
use Rattle.tree_terms.specs.Heights.{height_run_from, DecideHeights}
use Rattle.tree_terms.proofs.Heights.{none_decides, keeps_from, end_from}
use Rattle.text_terms.specs.declared.claim.SolvingJob.{SolvingJob}
use Rattle.text_terms.specs.Claims.{max_worth}
use Rattle.text_terms.specs.declared.claim.SolvingJob.TheVariants.{Fit, Strip, Bins, Knapsack}
use Rattle.text_terms.specs.declared.claim.Claim.TheVariants.{LeastHeight, HeightBetween, LeastBins, BinsBetween}
use Rattle.text_terms.specs.declared.claim.Claim.TheVariants.{GreatestValue, ValueBetween}
use Rattle.answer_terms.specs.Answers.{Answer}
use Rattle.answer_terms.specs.Answers.Answer.{Undecided, Claimed}
use Rattle.answer_terms.specs.Solved.{solved, fit_answer, reached_claim, strip_answer, bins_answer, knapsack_answer}
use Rattle.answer_terms.specs.Shown.{ShowsHeight, ShowsBins, ShowsValue, ShowsNone, IsShownFrom, AnswersAreShown}

-- an answer of a job: undecided, or a claim of the job that is shown from these exclusions on
abbrev pub IsAnswerFrom : List Exclusion → SolvingJob → PlainInstance → Answer → Type 0
IsAnswerFrom start job instance Undecided = Unit {0}
IsAnswerFrom start job instance (Claimed claim numbers tokens) = IsShownFrom start job instance claim numbers tokens

-- the same from none
abbrev IsAnswer : SolvingJob → PlainInstance → Answer → Type 0
IsAnswer job instance answer = IsAnswerFrom [] job instance answer

-- ---- fit

pub fit_from : (start : List Exclusion) (instance : PlainInstance) (budget : ℕ) (v : Verdict)
    → IsRightUnder instance start v → IsAnswerFrom start Fit instance (fit_answer (under_budget budget v))
fit_from start instance budget v h = go (ltb budget (count_of v)) v h
  where
    go : (b : Bool) (w : Verdict) → IsRightUnder instance start w
        → IsAnswerFrom start Fit instance (fit_answer (if b then Past else Decided w))
    go true w k = tt
    go false (Yes ns c) k = record { of_job = refl; shown = k }
    go false (No ts c) k = record { of_job = refl; shown = k }

-- ---- a box that is too large

large_named : (instance : PlainInstance) (m : ℕ) (p : ℕ × ℕ) → m ≤ dims instance → IsFirstLongerBelow instance m p.0 p.1
    → ShowsNone instance m (TooLarge (suc p.0) (suc p.1) ∷ [])
large_named instance m p few f =
    let a = f.there in
    let b = f.in_range in
    record {
      box_no = suc p.0;
      dim = suc p.1;
      are = refl;
      large = record {
        box_from = omega arith;
        box_to = omega (arith, a);
        dim_from = omega arith;
        dim_to = omega (arith, b, few);
        large = f.large;
      };
      among = omega (arith, b);
    }

-- ---- strip

module _ (start : List Exclusion) (instance : PlainInstance) (limits : IsInternalInstance instance)
    (decide : DecideHeights instance start) (budget : ℕ) (scales : Bool) where
  abbrev r : PlainReached
  r = height_run_from start instance budget scales

  heights_shown : ¬ HasTooWideBox instance
      → IsAnswerFrom start Strip instance (strip_answer None (height_run_from start instance budget scales))
  heights_shown narrow = go r.spent refl
    where
      shown : ShowsHeight start instance r.refuted r.placed r.numbers r.tokens
      shown =
          let keeps = keeps_from instance limits start decide narrow budget scales in
          let ends = end_from instance start budget scales limits in
          let high = ends.high in
          let most = stack_small instance limits in
          record { rising = ends.order; most = omega (arith, high, most); packing = keeps.1; refutation = keeps.0 }

      go : (spent : Bool) → r.spent ≡ spent
          → IsAnswerFrom start Strip instance
          (Claimed (reached_claim spent (LeastHeight r.placed) (HeightBetween r.refuted r.placed)) r.numbers r.tokens)
      go true s = record { of_job = refl; shown = shown }
      go false s =
          let c = (end_from instance start budget scales limits).beside s in
          let same : r.refuted ≡ pred r.placed = omega (arith, c) in
          record {
            of_job = refl;
            shown = subst (λ a. ShowsHeight start instance a r.placed r.numbers r.tokens)
                same shown;
          }

  pub strip_from : (p : Option (ℕ × ℕ)) → first_too_wide instance ≡ p
      → IsAnswerFrom start Strip instance (strip_answer p (height_run_from start instance budget scales))
  strip_from (Some p) e = record {
    of_job = refl;
    shown = large_named instance (dims instance - 1) p (omega arith) ((first_too_wide_is instance p.0 p.1).0 e);
  }
  strip_from None e = heights_shown ((none_too_wide_is instance).0 e)

module _ (instance : PlainInstance) (limits : IsInstance instance) (budget : ℕ) (scales : Bool) where
  internal : IsInternalInstance instance
  internal = written_internal instance limits

  -- ---- bins

  bins_shown : ¬ HasTooLargeBox instance → IsAnswer Bins instance (bins_answer None (bin_run instance budget scales))
  bins_shown small = go (bin_run instance budget scales).spent refl
    where
      shown : ShowsBins instance (bin_run instance budget scales).refuted (bin_run instance budget scales).placed
          (bin_run instance budget scales).numbers (bin_run instance budget scales).tokens
      shown =
          let keeps = bins_keep instance internal small budget scales in
          let ends = bins_end instance internal budget scales in
          record { rising = ends.order; most = ends.high; packing = keeps.1; refutation = keeps.0 }

      go : (spent : Bool) → (bin_run instance budget scales).spent ≡ spent
          → IsAnswer Bins instance (Claimed (reached_claim spent (LeastBins (bin_run instance budget scales).placed)
          (BinsBetween (bin_run instance budget scales).refuted (bin_run instance budget scales).placed))
          (bin_run instance budget scales).numbers (bin_run instance budget scales).tokens)
      go true s = record { of_job = refl; shown = shown }
      go false s =
          let c = (bins_end instance internal budget scales).beside s in
          let same : (bin_run instance budget scales).refuted ≡ pred (bin_run instance budget scales).placed =
          omega (arith, c) in
          record {
            of_job = refl;
            shown = subst (λ a. ShowsBins instance a (bin_run instance budget scales).placed
                (bin_run instance budget scales).numbers
                (bin_run instance budget scales).tokens) same shown;
          }

  bins_is : (p : Option (ℕ × ℕ)) → first_too_large_box instance ≡ p
      → IsAnswer Bins instance (bins_answer p (bin_run instance budget scales))
  bins_is (Some p) e = record {
    of_job = refl;
    shown = large_named instance (dims instance) p (omega arith) ((first_large_is instance p.0 p.1).0 e);
  }
  bins_is None e = bins_shown ((none_large_is instance).0 e)

  -- ---- knapsack

  worth_small : (a n : ℕ) → a + n ≤ box_count instance → worth instance (range_with_len a n) ≤ n * 1000000000
  worth_small a zero h = omega arith
  worth_small a (suc n) h =
      let rest = worth_small (a + 1) n (omega (arith, h)) in
      let one : (get_or instance.boxes a no_box).value ≤ 1000000000 = (limits.boxes.each a (omega (arith, h))).value in
      let sum = sum_by-cons (λ v. (get_or instance.boxes v no_box).value) a (range_with_len (a + 1) n) in
      omega (arith, rest, one, sum)

  values_shown : IsAnswer Knapsack instance (knapsack_answer (value_run instance budget scales))
  values_shown = go (value_run instance budget scales).spent refl
    where
      most : (value_run instance budget scales).refuted ≤ max_worth
      most =
          let high = (value_end instance budget scales).high in
          let all = worth_small 0 (box_count instance) (omega arith) in
          let n = limits.boxes.count.1 in
          omega (arith, high, all, n)

      shown : ShowsValue instance (value_run instance budget scales).placed (value_run instance budget scales).refuted
          (value_run instance budget scales).numbers (value_run instance budget scales).tokens
      shown =
          let keeps = values_keep instance internal budget scales in
          record {
            rising = (value_end instance budget scales).order;
            most = most;
            packing = keeps.1;
            refutation = keeps.0;
          }

      go : (spent : Bool) → (value_run instance budget scales).spent ≡ spent
          → IsAnswer Knapsack instance (Claimed
          (reached_claim spent (GreatestValue (value_run instance budget scales).placed)
          (ValueBetween (value_run instance budget scales).placed (value_run instance budget scales).refuted))
          (value_run instance budget scales).numbers (value_run instance budget scales).tokens)
      go true s = record { of_job = refl; shown = shown }
      go false s =
          let c = (value_end instance budget scales).beside s in
          let same : (value_run instance budget scales).refuted ≡ suc (value_run instance budget scales).placed =
          omega (arith, c) in
          record {
            of_job = refl;
            shown = subst (λ b. ShowsValue instance (value_run instance budget scales).placed b
                (value_run instance budget scales).numbers
                (value_run instance budget scales).tokens) same shown;
          }

  -- ---- all jobs

  solved_is : (job : SolvingJob) → IsAnswer job instance (solved job budget scales instance)
  unfolding solved
  solved_is Fit = fit_from [] instance budget (outcome (class_tree instance [] scales))
      (class_tree_right instance internal [] tt scales)
  solved_is Strip = strip_from [] instance internal (none_decides instance internal) budget scales
      (first_too_wide instance) refl
  solved_is Bins = bins_is (first_too_large_box instance) refl
  solved_is Knapsack = values_shown

pub answers_shown : AnswersAreShown
answers_shown job budget scales instance claim numbers tokens limits e =
    subst (IsAnswer job instance) e (solved_is instance limits budget scales job)
