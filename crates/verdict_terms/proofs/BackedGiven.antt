-- What backs a claim is taken, up to `end`.
use Rattle.std.proofs.Common.{◌≡◌, ℕ, zero, suc, pred, ◌+◌, ◌-◌, ◌*◌, ◌<◌, ◌≤◌, refl, ap, ◌∙◌, arith, false, cond, ◌&&◌}
use Rattle.std.proofs.Common.{List, [], ◌∷◌, ◌++◌, append_assoc, Some, None, Ok, Err, codes}
use Rattle.std.specs.Prelude.{nat_le, nat_lt}
use Rattle.std.proofs.Math.ListN.{length-set}
use Rattle.std.proofs.lemmas.Bool.{and_from, le-leb, lt-ltb}
use Rattle.packing_terms.specs.Packing.{PlainInstance, dims, box_count, container_side, side}
use Rattle.packing_terms.specs.Goals.{with_last_side}
use Rattle.packing_terms.specs.Tokens.PlainToken.{TooLarge}
use Rattle.text_terms.specs.Lines.{number_of, same_bytes}
use Rattle.packing_terms.specs.Results.{◌>>=◌}
use Rattle.text_terms.specs.Form.{IsNumber}
use Rattle.verdict_terms.specs.Judging.{names_box}
use Rattle.text_terms.specs.declared.claim.Claim.{Claim}
use Rattle.text_terms.specs.Claims.{job_of}
use Rattle.text_terms.specs.declared.claim.Claim.TheVariants.{Fitting, NotFitting, LeastHeight, HeightBetween}
use Rattle.text_terms.specs.declared.claim.Claim.TheVariants.{NoHeight, LeastBins, BinsBetween, NoBins}
use Rattle.text_terms.specs.declared.claim.Claim.TheVariants.{GreatestValue, ValueBetween}
use Rattle.verdict_terms.specs.declared.heading.Heading.{Heading}
use Rattle.verdict_terms.specs.declared.heading.Heading.TheVariants.{Answer}
use Rattle.verdict_terms.specs.Reasons.{form, range}
use Rattle.packing_terms.specs.Limits.{max_height}
use Rattle.text_terms.specs.Claims.{max_worth}
use Rattle.verdict_terms.specs.Numbers.{require, wanted}
use Rattle.text_terms.specs.TokenLines.{token_of}
use Rattle.verdict_terms.specs.Trees.{Refuted, ToFit, ToFitIn}
use Rattle.verdict_terms.specs.Results.{one_claim, two_claim, claim_of}
use Rattle.verdict_terms.specs.Stages.{start_exclusions, claimed, placed, refutation_goal, is_word, tree_token}
use Rattle.verdict_terms.specs.Stages.{exceeding_token, exceeding_line, value_stage}
use Rattle.verdict_terms.specs.Stages.Stage.{Placing, Sharing, Taking, Exceeding, Ending}
use Rattle.verdict_terms.specs.Form.{IsResult, ArePlaced, AreShared, AreTaken, IsExceedingLine, BacksUnder}
use Rattle.verdict_terms.proofs.Walk.{read_words}
use Rattle.verdict_terms.proofs.Taken.{is_same, required, bound, wanted_is}
use Rattle.verdict_terms.proofs.TreesGiven.{end_given, not_end, refuting_given}
use Rattle.verdict_terms.proofs.BoundsGiven.{passing_given}
use Rattle.verdict_terms.proofs.FamiliesGiven.{proof_given, height_given}
use Rattle.verdict_terms.proofs.PlacesGiven.{no_places_reason, no_bins_reason, no_taken_reason, places_given}
use Rattle.verdict_terms.proofs.PlacesGiven.{shares_given, takes_given}

-- ---- the result line

one_given : (key : List ℕ) (low high n : ℕ) (make : ℕ → Claim) (number : List ℕ) → IsNumber low high number n
    → one_claim key low high make key number ≡ Ok (make n)
one_given key low high n make number is =
    ap (λ b. cond b (wanted number >>= λ n. require (nat_le low n && nat_le n high) range (Ok (make n))) (Err form))
    (is_same key)
    ∙ bound (wanted number) n (λ n. require (nat_le low n && nat_le n high) range (Ok (make n)))
    (wanted_is number n is.number)
    ∙ required (nat_le low n && nat_le n high) range (Ok (make n))
    (and_from _ _ (le-leb low n is.least) (le-leb n high is.most))

two_given : (high a b : ℕ) (make : ℕ → ℕ → Claim) (first second : List ℕ) → number_of first ≡ Some a
    → number_of second ≡ Some b → a < b → b ≤ high
    → two_claim high make (codes "between") first second ≡ Ok (make a b)
two_given high a b make first second is_a is_b less most =
    ap (λ t. cond t (wanted first >>= λ a. wanted second >>= λ b. require (nat_lt a b && nat_le b high) range
    (Ok (make a b))) (Err form)) (is_same (codes "between"))
    ∙ bound (wanted first) a (λ a. wanted second >>= λ b. require (nat_lt a b && nat_le b high) range (Ok (make a b)))
    (wanted_is first a is_a)
    ∙ bound (wanted second) b (λ b. require (nat_lt a b && nat_le b high) range (Ok (make a b)))
    (wanted_is second b is_b)
    ∙ required (nat_lt a b && nat_le b high) range (Ok (make a b)) (and_from _ _ (lt-ltb a b less) (le-leb b high most))

pub result_given : (instance : PlainInstance) (claim : Claim) (words : List (List ℕ)) → IsResult instance claim words
    → claim_of (job_of claim) instance words ≡ Ok claim
unfolding claim_of same_bytes
result_given instance Fitting words is = ap (claim_of (job_of Fitting) instance) is
result_given instance NotFitting words is = ap (claim_of (job_of NotFitting) instance) is
result_given instance (LeastHeight h) words is =
    ap (claim_of (job_of (LeastHeight h)) instance) is.are ∙ one_given (codes "least") 1 max_height h LeastHeight
    is.number is.is_number
result_given instance (HeightBetween a b) words is =
    ap (claim_of (job_of (HeightBetween a b)) instance) is.are ∙ two_given max_height a b HeightBetween is.first
    is.second is.is_first is.is_second is.rising is.most
result_given instance NoHeight words is = ap (claim_of (job_of NoHeight) instance) is
result_given instance (LeastBins k) words is =
    ap (claim_of (job_of (LeastBins k)) instance) is.are ∙ one_given (codes "least") 1 (box_count instance) k LeastBins
    is.number is.is_number
result_given instance (BinsBetween a b) words is =
    ap (claim_of (job_of (BinsBetween a b)) instance) is.are ∙ two_given (box_count instance) a b BinsBetween is.first
    is.second is.is_first is.is_second is.rising is.most
result_given instance NoBins words is = ap (claim_of (job_of NoBins) instance) is
result_given instance (GreatestValue v) words is =
    ap (claim_of (job_of (GreatestValue v)) instance) is.are ∙ one_given (codes "greatest") 0 max_worth v GreatestValue
    is.number is.is_number
result_given instance (ValueBetween a b) words is =
    ap (claim_of (job_of (ValueBetween a b)) instance) is.are ∙ two_given max_worth a b ValueBetween is.first is.second
    is.is_first is.is_second is.rising is.most

-- ---- what stands behind it

-- lines of one kind, a proof behind them, and `end`, in another bracketing
joined : (front back lines : List (List (List ℕ))) → lines ≡ front ++ (codes "proof" ∷ []) ∷ back
    → lines ++ (codes "end" ∷ []) ∷ [] ≡ front ++ ((codes "proof" ∷ []) ∷ (back ++ (codes "end" ∷ []) ∷ []))
joined front back lines e = ap (λ ls. ls ++ (codes "end" ∷ []) ∷ []) e
    ∙ append_assoc front ((codes "proof" ∷ []) ∷ back) ((codes "end" ∷ []) ∷ [])

some_room : (n d : ℕ) → 1 ≤ n → 1 ≤ d → 0 < n * d
some_room zero d h k = absurd (omega (arith, h))
some_room (suc n) zero h k = absurd (omega (arith, k))
some_room (suc n) (suc d) h k = let e : suc n * suc d ≡ suc (n * suc d + d) = grind arith in omega (arith, e)

module _ (instance : PlainInstance) (some_dims : 1 ≤ dims instance) (some_boxes : 1 ≤ box_count instance) where
  placed_given : (heading : Heading) (target : PlainInstance) (claim : Claim) (refuted : Refuted) (front back : List (List (List ℕ)))
      → dims target ≡ dims instance → box_count target ≡ box_count instance
      → ArePlaced target front → read_words (Placing heading target claim refuted []) (front ++ back)
      ≡ read_words (placed heading claim refuted) back
  placed_given heading target claim refuted front back same_dims same_boxes p =
      let d : 1 ≤ dims target = omega (arith, same_dims, some_dims) in
      let n : 1 ≤ box_count target = omega (arith, same_boxes, some_boxes) in
      places_given heading target claim refuted [] p.places front back d p.are_lines p.packing.count
      (some_room (box_count target) (dims target) n d) (no_places_reason target p.places p.packing)

  shared_given : (claim : Claim) (k : ℕ) (front back : List (List (List ℕ))) → AreShared instance k front
      → read_words (Sharing instance claim k [] []) (front ++ back)
      ≡ read_words (placed Answer claim (refutation_goal Answer instance claim)) back
  shared_given claim k front back p =
      shares_given instance claim k [] [] p.bins p.places front back p.are_lines p.packing.count
      (omega (arith, some_boxes)) (no_bins_reason instance k p.bins p.places p.packing)

  taken_given : (heading : Heading) (claim : Claim) (value : ℕ) (front back : List (List (List ℕ))) → AreTaken instance value front
      → read_words (Taking heading instance claim value [] []) (front ++ (codes "proof" ∷ []) ∷ back)
      ≡ read_words (value_stage heading instance claim) back
  taken_given heading claim value front back p =
      takes_given heading instance claim value [] [] p.taken p.places front back p.are_lines p.set.rising
      (no_taken_reason instance value p.taken p.places p.packing p.enough)

  exceeding_given : (claim : Claim) (m : ℕ) (lines : List (List (List ℕ))) → IsExceedingLine instance m lines
      → read_words (Exceeding instance claim m) (lines ++ (codes "end" ∷ []) ∷ []) ≡ Ok claim
  exceeding_given claim m lines p =
      ap (λ ls. read_words (Exceeding instance claim m) (ls ++ (codes "end" ∷ []) ∷ [])) p.are
      ∙ bound (exceeding_line instance claim m p.words) (Ending claim (Some (dims instance)))
      (λ next. read_words next ((codes "end" ∷ []) ∷ []))
      (bound (tree_token (is_word (codes "end") p.words) (token_of (dims instance) p.words)) (TooLarge p.box_no p.dim)
      (λ t. exceeding_token instance claim m t)
      (ap (λ b. tree_token b (token_of (dims instance) p.words))
      (not_end (dims instance) p.words (TooLarge p.box_no p.dim) p.is_token) ∙ ap (tree_token false) p.is_token)
      ∙ required (names_box instance p.box_no && (nat_le 1 p.dim && nat_le p.dim m)) range _
      (and_from _ _ (and_from _ _ (le-leb 1 p.box_no p.large.box_from)
      (le-leb p.box_no (box_count instance) p.large.box_to))
      (and_from _ _ (le-leb 1 p.dim p.large.dim_from) (le-leb p.dim m p.among)))
      ∙ required (nat_lt (container_side instance (pred p.dim)) (side instance (pred p.box_no) (pred p.dim))) _
      (Ok (Ending claim (Some (dims instance)))) (lt-ltb _ _ p.large.large))
      ∙ end_given claim (Some (dims instance))

  higher_dims : (h : ℕ) → dims (with_last_side instance h) ≡ dims instance
  higher_dims h = length-set instance.container (dims instance - 1) h

  pub backed_given : (heading : Heading) (claim : Claim) (lines : List (List (List ℕ)))
      → BacksUnder heading instance claim lines
      → read_words (claimed heading instance claim) (lines ++ (codes "end" ∷ []) ∷ []) ≡ Ok claim
  backed_given heading Fitting lines b =
      placed_given heading instance Fitting (refutation_goal heading instance Fitting) lines ((codes "end" ∷ []) ∷ []) refl refl b
      ∙ end_given Fitting None
  backed_given heading NotFitting lines b =
      refuting_given NotFitting (ToFit instance (start_exclusions heading instance)) lines b
  backed_given heading (LeastHeight h) lines b =
      ap (read_words (claimed heading instance (LeastHeight h))) (joined b.front b.back lines b.are)
      ∙ placed_given heading (with_last_side instance h) (LeastHeight h)
      (ToFit (with_last_side instance (pred h)) (start_exclusions heading instance)) b.front
      ((codes "proof" ∷ []) ∷ (b.back ++ (codes "end" ∷ []) ∷ [])) (higher_dims h) refl b.is_front
      ∙ height_given heading instance (LeastHeight h) (pred h) b.back b.is_back
  backed_given heading (HeightBetween x y) lines b =
      ap (read_words (claimed heading instance (HeightBetween x y))) (joined b.front b.back lines b.are)
      ∙ placed_given heading (with_last_side instance y) (HeightBetween x y)
      (ToFit (with_last_side instance x) (start_exclusions heading instance)) b.front
      ((codes "proof" ∷ []) ∷ (b.back ++ (codes "end" ∷ []) ∷ [])) (higher_dims y) refl b.is_front
      ∙ height_given heading instance (HeightBetween x y) x b.back b.is_back
  backed_given heading NoHeight lines b = exceeding_given NoHeight (dims instance - 1) lines b
  backed_given heading (LeastBins k) lines b =
      ap (read_words (claimed heading instance (LeastBins k))) (joined b.front b.back lines b.are)
      ∙ shared_given (LeastBins k) k b.front ((codes "proof" ∷ []) ∷ (b.back ++ (codes "end" ∷ []) ∷ [])) b.is_front
      ∙ proof_given (LeastBins k) (ToFitIn instance (pred k)) b.back b.is_back
  backed_given heading (BinsBetween x y) lines b =
      ap (read_words (claimed heading instance (BinsBetween x y))) (joined b.front b.back lines b.are)
      ∙ shared_given (BinsBetween x y) y b.front ((codes "proof" ∷ []) ∷ (b.back ++ (codes "end" ∷ []) ∷ [])) b.is_front
      ∙ proof_given (BinsBetween x y) (ToFitIn instance x) b.back b.is_back
  backed_given heading NoBins lines b = exceeding_given NoBins (dims instance) lines b
  backed_given heading (GreatestValue v) lines b =
      ap (read_words (claimed heading instance (GreatestValue v))) (joined b.front b.back lines b.are)
      ∙ taken_given heading (GreatestValue v) v b.front (b.back ++ (codes "end" ∷ []) ∷ []) b.is_front
      ∙ passing_given heading instance (GreatestValue v) (suc v) refl refl refl b.back b.is_back
  backed_given heading (ValueBetween x y) lines b =
      ap (read_words (claimed heading instance (ValueBetween x y))) (joined b.front b.back lines b.are)
      ∙ taken_given heading (ValueBetween x y) x b.front (b.back ++ (codes "end" ∷ []) ∷ []) b.is_front
      ∙ passing_given heading instance (ValueBetween x y) y refl refl refl b.back b.is_back
