-- A claim that is shown has a document.
use Rattle.std.proofs.Common.{◌≡◌, ℕ, suc, pred, ◌-◌, ◌^◌, ◌<◌, ◌≤◌, ◌≢◌, ◌⊎◌, inl, inr, refl, ap, sym, subst, arith}
use Rattle.std.proofs.Common.{List, [], ◌∷◌, ◌++◌, get_or, codes}
use Rattle.std.specs.Fmt.{decimal}
use Rattle.std.proofs.Math.ListN.{length-set}
use Rattle.std.proofs.lemmas.Bool.{cases_eq}
use Rattle.std.proofs.lemmas.List.{get_or-set_same, get_or-set_other}
use Rattle.packing_terms.specs.declared.Exclusion.{Exclusion}
use Rattle.packing_terms.specs.Packing.{PlainInstance, dims, box_count, kerf, written_container, IsPacking}
use Rattle.packing_terms.specs.Goals.{with_last_side}
use Rattle.packing_terms.specs.Limits.{IsInstance, IsInternalInstance, max_height}
use Rattle.packing_terms.specs.Refutation.{Refutes}
use Rattle.packing_terms.specs.Tokens.{PlainToken}
use Rattle.packing_terms.specs.Tokens.PlainToken.{TooLarge}
use Rattle.packing_terms.proofs.Internal.{written_internal}
use Rattle.text_terms.specs.TokenLines.{token_words}
use Rattle.text_terms.specs.Form.{IsNumber}
use Rattle.text_terms.specs.Spelling.{instance_words, lines_text}
use Rattle.text_terms.proofs.Spelled.{AreWords, number_decimal}
use Rattle.text_terms.proofs.Back.{word_decimal, is_decimal}
use Rattle.text_terms.specs.declared.claim.SolvingJob.{SolvingJob}
use Rattle.text_terms.specs.declared.claim.SolvingJob.TheVariants.{Fit, Strip, Bins, Knapsack}
use Rattle.text_terms.specs.declared.claim.Claim.{Claim}
use Rattle.text_terms.specs.Claims.{job_of, job_word, result_words}
use Rattle.text_terms.specs.declared.claim.Claim.TheVariants.{Fitting, NotFitting, LeastHeight, HeightBetween}
use Rattle.text_terms.specs.declared.claim.Claim.TheVariants.{NoHeight, LeastBins, BinsBetween, NoBins}
use Rattle.text_terms.specs.declared.claim.Claim.TheVariants.{GreatestValue, ValueBetween}
use Rattle.verdict_terms.specs.Trees.{ToFit, ToFitIn, ToReach}
use Rattle.verdict_terms.specs.declared.heading.Heading.{Heading}
use Rattle.verdict_terms.specs.declared.heading.Heading.TheVariants.{Answer, Reduced, Bounded}
use Rattle.verdict_terms.specs.Stages.{heading_word, start_exclusions}
use Rattle.verdict_terms.specs.Form.{RefuteHeight, RefuteValue, IsResult, BacksUnder, MayName, IsHeadedDocument, AreProved, AreRefuting, ArePlaced}
use Rattle.verdict_terms.specs.Form.{AreShared, AreTaken, IsExceedingLine}
use Rattle.answer_terms.specs.Answers.{Lines, answer_text, headed_lines, document_lines, backing_lines, place_lines}
use Rattle.answer_terms.specs.Answers.{bin_lines, take_lines, token_lines, proved_lines}
use Rattle.answer_terms.specs.Answers.Answer.{Claimed}
use Rattle.answer_terms.specs.Shown.{ShowsFrom, ShowsHeight, ShowsBins, ShowsValue, ShowsNone}
use Rattle.answer_terms.specs.Own.{ShownClaimsHaveDocuments, OwnDocumentsAreVerified}
use Rattle.answer_terms.proofs.Shown.{answers_shown}
use Rattle.verdict_terms.proofs.FormGiven.{documents_have_form}
use Rattle.answer_terms.proofs.Filled.{AreFilled, filled_append, clean_text, filled_text, filled_instance}
use Rattle.answer_terms.proofs.Filled.{instance_form}
use Rattle.answer_terms.proofs.OwnWritten.{IsBounded, internal_bounded, HaveLines, tokens_filled, tokens_are_lines}
use Rattle.answer_terms.proofs.OwnWritten.{refuted_written, large_written}
use Rattle.answer_terms.proofs.OuterWritten.{bins_written, value_written}
use Rattle.answer_terms.proofs.Numbered.{bins_filled, bins_shared, taken_filled, taken_taken}
use Rattle.text_terms.specs.Claims.{max_worth}
use Rattle.answer_terms.proofs.Placed.{packing_filled, packing_placed, rows_words}

job_plain : (job : SolvingJob) → AreWords (job_word job ∷ [])
job_plain Fit = (omega arith, refl, tt)
job_plain Strip = (omega arith, refl, tt)
job_plain Bins = (omega arith, refl, tt)
job_plain Knapsack = (omega arith, refl, tt)

-- ---- whole documents

pub record IsBacked (heading : Heading) (instance : PlainInstance) (claim : Claim) (numbers : List ℕ)
    (tokens : List PlainToken) : Type 0 where
  pub words : AreWords (result_words claim)
  pub result : IsResult instance claim (result_words claim)
  pub filled : AreFilled (backing_lines instance claim numbers tokens)
  pub backs : BacksUnder heading instance claim (backing_lines instance claim numbers tokens)

heading_plain : (heading : Heading) (job : SolvingJob) → AreWords (heading_word heading ∷ job_word job ∷ [])
heading_plain Answer job = (omega arith, refl, job_plain job)
heading_plain Reduced job = (omega arith, refl, job_plain job)
heading_plain Bounded job = (omega arith, refl, job_plain job)

pub filled_document : (heading : Heading) (instance : PlainInstance) (job : SolvingJob) (result : List (List ℕ))
    (backing : Lines) → IsInstance instance → AreWords result → AreFilled backing
    → AreFilled (document_lines (heading_word heading) instance job result backing)
filled_document heading instance job result backing limits words lines =
    let last : AreFilled ((codes "end" ∷ []) ∷ []) = ((omega arith, refl, tt), refl, tt) in
    let after : AreFilled ((codes "result" ∷ result) ∷ (backing ++ (codes "end" ∷ []) ∷ [])) =
    ((omega arith, refl, words), refl, filled_append backing ((codes "end" ∷ []) ∷ []) lines last) in (
      heading_plain heading job,
      refl,
      filled_append (instance_words instance) ((codes "result" ∷ result) ∷ (backing ++ (codes "end" ∷ []) ∷ []))
          (filled_instance instance limits) after,
    )

-- the text under a heading is a document of the claim, and the instance in it is this one
pub record IsHeadedAbout (heading : Heading) (instance : PlainInstance) (text : List ℕ) (claim : Claim) : Type 0 where
  pub document : IsHeadedDocument heading text claim
  pub about : document.instance ≡ instance

backed_document : (heading : Heading) (instance : PlainInstance) (claim : Claim) (numbers : List ℕ)
    (tokens : List PlainToken) → IsInstance instance → MayName heading (job_of claim)
    → IsBacked heading instance claim numbers tokens
    → IsHeadedAbout heading instance
    (lines_text (headed_lines (heading_word heading) instance (Claimed claim numbers tokens))) claim
backed_document heading instance claim numbers tokens limits headed backed =
    let filled : AreFilled (headed_lines (heading_word heading) instance (Claimed claim numbers tokens)) =
    filled_document heading instance (job_of claim) (result_words claim) (backing_lines instance claim numbers tokens)
    limits backed.words backed.filled in
    record {
      document = record {
        instance = instance;
        written = instance_words instance;
        result = result_words claim;
        backing = backing_lines instance claim numbers tokens;
        headed = headed;
        clean = clean_text (headed_lines (heading_word heading) instance (Claimed claim numbers tokens)) filled;
        are = filled_text (headed_lines (heading_word heading) instance (Claimed claim numbers tokens)) filled;
        is_instance = instance_form instance limits;
        is_result = backed.result;
        backed = backed.backs;
      };
      about = refl;
    }

-- ---- the parts

pub tokens_refuting : (start : List Exclusion) (instance : PlainInstance) (tokens : List PlainToken)
    → IsBounded instance → Refutes instance start tokens
    → AreRefuting (ToFit instance start) (token_lines tokens)
tokens_refuting start instance tokens b h = record {
  tokens = tokens;
  are_lines = tokens_are_lines (dims instance) tokens (refuted_written instance b h);
  refute = h;
}

pub refuting_filled : (start : List Exclusion) (instance : PlainInstance) (tokens : List PlainToken)
    → IsBounded instance → Refutes instance start tokens → AreFilled (token_lines tokens)
refuting_filled start instance tokens b h = tokens_filled (dims instance) tokens (refuted_written instance b h)

pub proved_filled : (front : Lines) (tokens : List PlainToken) → AreFilled front → AreFilled (token_lines tokens)
    → AreFilled (proved_lines front tokens)
proved_filled front tokens h k =
    let back : AreFilled ((codes "proof" ∷ []) ∷ token_lines tokens) = ((omega arith, refl, tt), refl, k) in
    filled_append front ((codes "proof" ∷ []) ∷ token_lines tokens) h back

pub decimal_number : (low high n : ℕ) → low ≤ n → n ≤ high → high < 10 ^ 19 → IsNumber low high (decimal n) n
decimal_number low high n l h small = is_decimal low high n l h (omega arith)

-- ---- fit

fit_yes : (heading : Heading) (instance : PlainInstance) (numbers : List ℕ) (tokens : List PlainToken)
    → IsInstance instance → IsPacking instance numbers → IsBacked heading instance Fitting numbers tokens
fit_yes heading instance numbers tokens limits p =
    let internal : IsInternalInstance instance = written_internal instance limits in
    let b : IsBounded instance = internal_bounded instance internal in
    let d = limits.dimensions.0 in
    record {
      words = (omega arith, refl, tt);
      result = refl;
      filled = packing_filled instance numbers b p;
      backs = packing_placed instance numbers (omega (arith, d)) b p;
    }

fit_no : (heading : Heading) (instance : PlainInstance) (numbers : List ℕ) (tokens : List PlainToken)
    → IsInstance instance → Refutes instance (start_exclusions heading instance) tokens
    → IsBacked heading instance NotFitting numbers tokens
fit_no heading instance numbers tokens limits h =
    let b : IsBounded instance = internal_bounded instance (written_internal instance limits) in
    record {
      words = (omega arith, refl, tt);
      result = refl;
      filled = refuting_filled (start_exclusions heading instance) instance tokens b h;
      backs = tokens_refuting (start_exclusions heading instance) instance tokens b h;
    }

-- ---- strip

-- a level of a strip
pub level_bounded : (instance : PlainInstance) (h : ℕ) → IsInstance instance → h ≤ max_height
    → IsBounded (with_last_side instance h)
level_bounded instance h limits l = record {
  dimensions = (let d = limits.dimensions.1 in omega (arith, d, same));
  boxes = (let n = limits.boxes.count.1 in omega (arith, n));
  sides = λ i m. (let k = kerf_small i (omega (arith, m, same)) in
      let w = written_small i (omega (arith, m, same)) (cases_eq i (dims instance - 1)) in omega (arith, k, w));
}
  where
    same : dims (with_last_side instance h) ≡ dims instance
    same = length-set instance.container (dims instance - 1) h

    kerf_small : (i : ℕ) → i < dims instance → kerf instance i ≤ 100000
    kerf_small i m = limits.kerf.each i m

    written_small : (i : ℕ) → i < dims instance → (i ≡ dims instance - 1) ⊎ (i ≢ dims instance - 1)
        → written_container (with_last_side instance h) i ≤ max_height
    written_small i m (inl e) =
        let d = limits.dimensions.0 in
        let a : get_or (with_last_side instance h).container (dims instance - 1) 0 ≡ h =
        get_or-set_same instance.container (dims instance - 1) h 0 (omega (arith, d)) in
        subst (λ (x : ℕ). get_or (with_last_side instance h).container x 0 ≤ max_height) (sym e) (omega (arith, a, l))
    written_small i m (inr n) =
        let a : get_or (with_last_side instance h).container i 0 ≡ get_or instance.container i 0 =
        get_or-set_other instance.container (dims instance - 1) i h 0 n in
        let s = limits.container i m in
        omega (arith, a, s)

-- its place lines are those of the instance
pub level_lines : (instance : PlainInstance) (h : ℕ) (numbers : List ℕ) → place_lines (with_last_side instance h) numbers
    ≡ place_lines instance numbers
level_lines instance h numbers =
    ap (λ d. rows_words d (box_count instance) numbers) (length-set instance.container (dims instance - 1) h)

record AreLevels (start : List Exclusion) (instance : PlainInstance) (a b : ℕ) (numbers : List ℕ)
    (tokens : List PlainToken) : Type 0 where
  pub filled : AreFilled (proved_lines (place_lines instance numbers) tokens)
  pub backs : AreProved (ArePlaced (with_last_side instance b)) (AreRefuting (ToFit (with_last_side instance a) start))
      (proved_lines (place_lines instance numbers) tokens)

heights_backed : (start : List Exclusion) (instance : PlainInstance) (a b : ℕ) (numbers : List ℕ)
    (tokens : List PlainToken) → IsInstance instance → ShowsHeight start instance a b numbers tokens
    → AreLevels start instance a b numbers tokens
heights_backed start instance a b numbers tokens limits h =
    let most = h.most in
    let rising = h.rising in
    let high : IsBounded (with_last_side instance b) = level_bounded instance b limits most in
    let low : IsBounded (with_last_side instance a) = level_bounded instance a limits (omega (arith, most, rising)) in
    let d = limits.dimensions.0 in
    let same : dims (with_last_side instance b) ≡ dims instance = length-set instance.container (dims instance - 1) b in
    record {
      filled = proved_filled (place_lines instance numbers) tokens
          (subst AreFilled (level_lines instance b numbers)
          (packing_filled (with_last_side instance b) numbers high h.packing))
          (refuting_filled start (with_last_side instance a) tokens low h.refutation);
      backs = record {
        front = place_lines instance numbers;
        back = token_lines tokens;
        are = refl;
        is_front = subst (ArePlaced (with_last_side instance b)) (level_lines instance b numbers)
            (packing_placed (with_last_side instance b) numbers (omega (arith, d, same)) high h.packing);
        is_back = tokens_refuting start (with_last_side instance a) tokens low h.refutation;
      };
    }

pub number_plain : (n : ℕ) → n < 2 ^ 64 → AreWords (decimal n ∷ [])
number_plain n small = word_decimal n small [] tt

pub numbers_plain : (a b : ℕ) → a < 2 ^ 64 → b < 2 ^ 64 → AreWords (decimal a ∷ decimal b ∷ [])
numbers_plain a b small less = word_decimal a small (decimal b ∷ []) (number_plain b less)

-- the headings under which a height and a value are refuted by plain tokens
abbrev pub TakesPlain : Heading → Type 0
TakesPlain Answer = Unit {0}
TakesPlain Reduced = Unit {0}
TakesPlain Bounded = ⊥

height_plain : (heading : Heading) (instance : PlainInstance) (a b : ℕ) (lines : Lines) → TakesPlain heading
    → AreProved (ArePlaced (with_last_side instance b))
    (AreRefuting (ToFit (with_last_side instance a) (start_exclusions heading instance))) lines
    → AreProved (ArePlaced (with_last_side instance b)) (RefuteHeight heading instance a) lines
height_plain Answer instance a b lines plain backs = backs
height_plain Reduced instance a b lines plain backs = backs
height_plain Bounded instance a b lines plain backs = absurd plain

least_height_backed : (heading : Heading) (instance : PlainInstance) (h : ℕ) (numbers : List ℕ)
    (tokens : List PlainToken) → IsInstance instance → TakesPlain heading
    → ShowsHeight (start_exclusions heading instance) instance (pred h) h numbers tokens
    → IsBacked heading instance (LeastHeight h) numbers tokens
least_height_backed heading instance h numbers tokens limits plain shown =
    let levels = heights_backed (start_exclusions heading instance) instance (pred h) h numbers tokens limits shown in
    let m = shown.most in
    let r = shown.rising in
    record {
      words = (omega arith, refl, number_plain h (omega (arith, m)));
      result = record {
        number = decimal h;
        are = refl;
        is_number = decimal_number 1 max_height h (omega (arith, r)) m (omega arith);
      };
      filled = levels.filled;
      backs = height_plain heading instance (pred h) h _ plain levels.backs;
    }

between_heights_backed : (heading : Heading) (instance : PlainInstance) (a b : ℕ) (numbers : List ℕ)
    (tokens : List PlainToken) → IsInstance instance → TakesPlain heading
    → ShowsHeight (start_exclusions heading instance) instance a b numbers tokens
    → IsBacked heading instance (HeightBetween a b) numbers tokens
between_heights_backed heading instance a b numbers tokens limits plain shown =
    let levels = heights_backed (start_exclusions heading instance) instance a b numbers tokens limits shown in
    let m = shown.most in
    let r = shown.rising in
    record {
      words = (omega arith, refl, numbers_plain a b (omega (arith, m, r)) (omega (arith, m)));
      result = record {
        first = decimal a;
        second = decimal b;
        are = refl;
        is_first = number_decimal a (omega (arith, m, r));
        is_second = number_decimal b (omega (arith, m));
        rising = r;
        most = m;
      };
      filled = levels.filled;
      backs = height_plain heading instance a b _ plain levels.backs;
    }

-- ---- none

record IsNamedLarge (instance : PlainInstance) (m : ℕ) (tokens : List PlainToken) : Type 0 where
  pub filled : AreFilled (token_lines tokens)
  pub backs : IsExceedingLine instance m (token_lines tokens)

none_backed : (instance : PlainInstance) (m : ℕ) (tokens : List PlainToken) → IsInstance instance
    → ShowsNone instance m tokens → IsNamedLarge instance m tokens
none_backed instance m tokens limits shown =
    let b : IsBounded instance = internal_bounded instance (written_internal instance limits) in
    let one : HaveLines (dims instance) (TooLarge shown.box_no shown.dim ∷ []) =
    (large_written instance shown.box_no shown.dim b shown.large, tt) in
    subst (IsNamedLarge instance m) (sym shown.are) (record {
      filled = tokens_filled (dims instance) (TooLarge shown.box_no shown.dim ∷ []) one;
      backs = record {
        words = token_words (TooLarge shown.box_no shown.dim);
        box_no = shown.box_no;
        dim = shown.dim;
        are = refl;
        is_token = (tokens_are_lines (dims instance) (TooLarge shown.box_no shown.dim ∷ []) one).0;
        large = shown.large;
        among = shown.among;
      };
    })

pub no_height_backed : (heading : Heading) (instance : PlainInstance) (numbers : List ℕ) (tokens : List PlainToken)
    → IsInstance instance
    → ShowsNone instance (dims instance - 1) tokens → IsBacked heading instance NoHeight numbers tokens
no_height_backed heading instance numbers tokens limits shown =
    let line = none_backed instance (dims instance - 1) tokens limits shown in
    record { words = (omega arith, refl, tt); result = refl; filled = line.filled; backs = line.backs }

no_bins_backed : (heading : Heading) (instance : PlainInstance) (numbers : List ℕ) (tokens : List PlainToken)
    → IsInstance instance
    → ShowsNone instance (dims instance) tokens → IsBacked heading instance NoBins numbers tokens
no_bins_backed heading instance numbers tokens limits shown =
    let line = none_backed instance (dims instance) tokens limits shown in
    record { words = (omega arith, refl, tt); result = refl; filled = line.filled; backs = line.backs }

-- ---- bins

record AreBins (instance : PlainInstance) (a b : ℕ) (numbers : List ℕ) (tokens : List PlainToken) : Type 0 where
  pub filled : AreFilled (proved_lines (bin_lines instance numbers) tokens)
  pub backs : AreProved (AreShared instance b) (AreRefuting (ToFitIn instance a))
      (proved_lines (bin_lines instance numbers) tokens)

bins_backed : (instance : PlainInstance) (a b : ℕ) (numbers : List ℕ) (tokens : List PlainToken) → IsInstance instance
    → ShowsBins instance a b numbers tokens
    → AreBins instance a b numbers tokens
bins_backed instance a b numbers tokens limits shown =
    let bounded : IsBounded instance = internal_bounded instance (written_internal instance limits) in
    let written : HaveLines (dims instance) tokens =
    bins_written instance bounded limits.boxes.count.1 a tokens shown.refutation in
    record {
      filled = proved_filled (bin_lines instance numbers) tokens
          (bins_filled instance b numbers bounded shown.most shown.packing)
          (tokens_filled (dims instance) tokens written);
      backs = record {
        front = bin_lines instance numbers;
        back = token_lines tokens;
        are = refl;
        is_front = bins_shared instance b numbers bounded shown.most shown.packing;
        is_back = record {
          tokens = tokens;
          are_lines = tokens_are_lines (dims instance) tokens written;
          refute = shown.refutation;
        };
      };
    }

least_bins_backed : (heading : Heading) (instance : PlainInstance) (k : ℕ) (numbers : List ℕ) (tokens : List PlainToken)
    → IsInstance instance
    → ShowsBins instance (pred k) k numbers tokens → IsBacked heading instance (LeastBins k) numbers tokens
least_bins_backed heading instance k numbers tokens limits shown =
    let bins = bins_backed instance (pred k) k numbers tokens limits shown in
    let m = shown.most in
    let r = shown.rising in
    let n = limits.boxes.count.1 in
    record {
      words = (omega arith, refl, number_plain k (omega (arith, m, n)));
      result = record {
        number = decimal k;
        are = refl;
        is_number = decimal_number 1 (box_count instance) k (omega (arith, r)) m (omega (arith, n));
      };
      filled = bins.filled;
      backs = bins.backs;
    }

between_bins_backed : (heading : Heading) (instance : PlainInstance) (a b : ℕ) (numbers : List ℕ)
    (tokens : List PlainToken) → IsInstance instance
    → ShowsBins instance a b numbers tokens → IsBacked heading instance (BinsBetween a b) numbers tokens
between_bins_backed heading instance a b numbers tokens limits shown =
    let bins = bins_backed instance a b numbers tokens limits shown in
    let m = shown.most in
    let r = shown.rising in
    let n = limits.boxes.count.1 in
    record {
      words = (omega arith, refl, numbers_plain a b (omega (arith, m, r, n)) (omega (arith, m, n)));
      result = record {
        first = decimal a;
        second = decimal b;
        are = refl;
        is_first = number_decimal a (omega (arith, m, r, n));
        is_second = number_decimal b (omega (arith, m, n));
        rising = r;
        most = m;
      };
      filled = bins.filled;
      backs = bins.backs;
    }

-- ---- knapsack

record AreValues (instance : PlainInstance) (a b : ℕ) (numbers : List ℕ) (tokens : List PlainToken) : Type 0 where
  pub filled : AreFilled (proved_lines (take_lines instance numbers) tokens)
  pub backs : AreProved (AreTaken instance a) (AreRefuting (ToReach instance b))
      (proved_lines (take_lines instance numbers) tokens)

values_backed : (instance : PlainInstance) (a b : ℕ) (numbers : List ℕ) (tokens : List PlainToken) → IsInstance instance
    → ShowsValue instance a b numbers tokens
    → AreValues instance a b numbers tokens
values_backed instance a b numbers tokens limits shown =
    let bounded : IsBounded instance = internal_bounded instance (written_internal instance limits) in
    let written : HaveLines (dims instance) tokens =
    value_written instance bounded limits.boxes.count.1 b tokens shown.refutation in
    let d = limits.dimensions.0 in
    record {
      filled = proved_filled (take_lines instance numbers) tokens
          (taken_filled instance a numbers bounded shown.packing)
          (tokens_filled (dims instance) tokens written);
      backs = record {
        front = take_lines instance numbers;
        back = token_lines tokens;
        are = refl;
        is_front = taken_taken instance a numbers (omega (arith, d)) bounded shown.packing;
        is_back = record {
          tokens = tokens;
          are_lines = tokens_are_lines (dims instance) tokens written;
          refute = shown.refutation;
        };
      };
    }

value_plain : (heading : Heading) (instance : PlainInstance) (reached refuted : ℕ) (lines : Lines) → TakesPlain heading
    → AreProved (AreTaken instance reached) (AreRefuting (ToReach instance refuted)) lines
    → AreProved (AreTaken instance reached) (RefuteValue heading instance refuted) lines
value_plain Answer instance reached refuted lines plain backs = backs
value_plain Reduced instance reached refuted lines plain backs = backs
value_plain Bounded instance reached refuted lines plain backs = absurd plain

greatest_value_backed : (heading : Heading) (instance : PlainInstance) (v : ℕ) (numbers : List ℕ)
    (tokens : List PlainToken) → IsInstance instance → TakesPlain heading
    → ShowsValue instance v (suc v) numbers tokens → IsBacked heading instance (GreatestValue v) numbers tokens
greatest_value_backed heading instance v numbers tokens limits plain shown =
    let values = values_backed instance v (suc v) numbers tokens limits shown in
    let m = shown.most in
    record {
      words = (omega arith, refl, number_plain v (omega (arith, m)));
      result = record {
        number = decimal v;
        are = refl;
        is_number = decimal_number 0 max_worth v (omega arith) (omega (arith, m)) (omega arith);
      };
      filled = values.filled;
      backs = value_plain heading instance v (suc v) _ plain values.backs;
    }

between_values_backed : (heading : Heading) (instance : PlainInstance) (a b : ℕ) (numbers : List ℕ)
    (tokens : List PlainToken) → IsInstance instance → TakesPlain heading
    → ShowsValue instance a b numbers tokens → IsBacked heading instance (ValueBetween a b) numbers tokens
between_values_backed heading instance a b numbers tokens limits plain shown =
    let values = values_backed instance a b numbers tokens limits shown in
    let m = shown.most in
    let r = shown.rising in
    record {
      words = (omega arith, refl, numbers_plain a b (omega (arith, m, r)) (omega (arith, m)));
      result = record {
        first = decimal a;
        second = decimal b;
        are = refl;
        is_first = number_decimal a (omega (arith, m, r));
        is_second = number_decimal b (omega (arith, m));
        rising = r;
        most = m;
      };
      filled = values.filled;
      backs = value_plain heading instance a b _ plain values.backs;
    }

-- ---- all claims

backed : (heading : Heading) (instance : PlainInstance) (claim : Claim) (numbers : List ℕ) (tokens : List PlainToken)
    → IsInstance instance → TakesPlain heading → ShowsFrom (start_exclusions heading instance) instance claim numbers tokens
    → IsBacked heading instance claim numbers tokens
backed heading instance Fitting numbers tokens limits plain h = fit_yes heading instance numbers tokens limits h
backed heading instance NotFitting numbers tokens limits plain h = fit_no heading instance numbers tokens limits h
backed heading instance (LeastHeight n) numbers tokens limits plain h =
    least_height_backed heading instance n numbers tokens limits plain h
backed heading instance (HeightBetween a b) numbers tokens limits plain h =
    between_heights_backed heading instance a b numbers tokens limits plain h
backed heading instance NoHeight numbers tokens limits plain h = no_height_backed heading instance numbers tokens limits h
backed heading instance (LeastBins k) numbers tokens limits plain h =
    least_bins_backed heading instance k numbers tokens limits h
backed heading instance (BinsBetween a b) numbers tokens limits plain h =
    between_bins_backed heading instance a b numbers tokens limits h
backed heading instance NoBins numbers tokens limits plain h = no_bins_backed heading instance numbers tokens limits h
backed heading instance (GreatestValue v) numbers tokens limits plain h =
    greatest_value_backed heading instance v numbers tokens limits plain h
backed heading instance (ValueBetween a b) numbers tokens limits plain h =
    between_values_backed heading instance a b numbers tokens limits plain h

pub shown_headed : (heading : Heading) (instance : PlainInstance) (claim : Claim) (numbers : List ℕ)
    (tokens : List PlainToken) → IsInstance instance → TakesPlain heading → MayName heading (job_of claim)
    → ShowsFrom (start_exclusions heading instance) instance claim numbers tokens
    → IsHeadedAbout heading instance
    (lines_text (headed_lines (heading_word heading) instance (Claimed claim numbers tokens))) claim
shown_headed heading instance claim numbers tokens limits plain headed h =
    backed_document heading instance claim numbers tokens limits headed
    (backed heading instance claim numbers tokens limits plain h)

pub shown_documents : ShownClaimsHaveDocuments
unfolding answer_text
shown_documents instance claim numbers tokens limits h =
    let is = shown_headed Answer instance claim numbers tokens limits tt tt h in
    record { document = is.document; about = is.about }

pub own_verified : OwnDocumentsAreVerified
own_verified job budget scales instance claim numbers tokens limits e =
    let shown = answers_shown job budget scales instance claim numbers tokens limits e in
    let is = shown_documents instance claim numbers tokens limits shown.shown in
    record {
      of_job = shown.of_job;
      is = is;
      verified = (documents_have_form Answer (answer_text instance (Claimed claim numbers tokens)) claim).1 is.document;
    }
