-- The claim of a document is true of the instance in it.
use Rattle.std.proofs.Common.{ℕ, zero, suc, ◌-◌, ◌<◌, ◌≤◌, ◌⊎◌, inl, inr, arith, List}
use Rattle.std.proofs.Math.ListN.{length-set}
use Rattle.std.proofs.lemmas.Bool.{cases_lt}
use Rattle.packing_terms.specs.Packing.{PlainInstance, HasPositiveSides, Fits, dims}
use Rattle.packing_terms.specs.Goals.{with_last_side, HasTooWideBox, HasTooLargeBox, ReachesValue}
use Rattle.packing_terms.specs.Tokens.{PlainToken}
use Rattle.packing_terms.specs.Refutation.{Refutes, IsTooLarge}
use Rattle.packing_terms.specs.Limits.{IsInternalInstance}
use Rattle.packing_terms.proofs.Internal.{internal_sides, written_internal, some_dimension}
use Rattle.packing_terms.proofs.Neighbours.{fits_higher, fits_in_more, reaches_lower, least_height, least_bins}
use Rattle.packing_terms.proofs.Neighbours.{greatest_value}
use Rattle.packing_terms.proofs.TooLarge.{too_wide, too_large}
use Rattle.packing_terms.proofs.Refuted.{none_fits}
use Rattle.packing_terms.proofs.BinsRefuted.{none_fits_bins}
use Rattle.packing_terms.proofs.ValueRefuted.{none_reaches}
use Rattle.verdict_terms.proofs.BoundedSound.{none_reaches_bounded}
use Rattle.verdict_terms.proofs.FamilySound.{none_fits_families}
use Rattle.packing_terms.proofs.Excess.{excess_law}
use Rattle.text_terms.specs.declared.claim.Claim.{Claim}
use Rattle.text_terms.specs.Claims.{IsTrueOf}
use Rattle.text_terms.specs.declared.claim.Claim.TheVariants.{Fitting, NotFitting, LeastHeight, HeightBetween}
use Rattle.text_terms.specs.declared.claim.Claim.TheVariants.{NoHeight, LeastBins, BinsBetween, NoBins}
use Rattle.text_terms.specs.declared.claim.Claim.TheVariants.{GreatestValue, ValueBetween}
use Rattle.verdict_terms.specs.declared.heading.Heading.{Heading}
use Rattle.verdict_terms.specs.declared.heading.Heading.TheVariants.{Answer, Reduced, Bounded}
use Rattle.packing_terms.proofs.Levels.{none_fits_under, none_fits_at}
use Rattle.verdict_terms.proofs.FormGiven.{document_limits}
use Rattle.verdict_terms.specs.Stages.{start_exclusions}
use Rattle.verdict_terms.specs.Form.{IsResult, AreTaken, RefuteHeight, RefuteValue, BacksUnder, DocumentsAreTrue}

module _ (instance : PlainInstance) (sides : HasPositiveSides instance) (some : 1 ≤ dims instance) where
  higher_sides : (h : ℕ) → HasPositiveSides (with_last_side instance h)
  higher_sides h v i l m = sides v i l
      (let e = length-set instance.container (dims instance - 1) h in omega (arith, e, m))

  wide : (v i : ℕ) → IsTooLarge instance v i → i ≤ dims instance - 1 → HasTooWideBox instance
  wide zero i t m = absurd (let h = t.box_from in omega (arith, h))
  wide (suc v) zero t m = absurd (let h = t.dim_from in omega (arith, h))
  wide (suc v) (suc i) t m = record {
    box_no = v;
    dim = i;
    there = let h = t.box_to in omega (arith, h);
    not_last = omega (arith, m);
    large = t.large;
  }

  large : (v i : ℕ) → IsTooLarge instance v i → HasTooLargeBox instance
  large zero i t = absurd (let h = t.box_from in omega (arith, h))
  large (suc v) zero t = absurd (let h = t.dim_from in omega (arith, h))
  large (suc v) (suc i) t = record {
    box_no = v;
    dim = i;
    there = let h = t.box_to in omega (arith, h);
    in_range = let h = t.dim_to in omega (arith, h);
    large = t.large;
  }

  taken_reaches : (value : ℕ) (lines : List (List (List ℕ))) → AreTaken instance value lines
      → ReachesValue instance value
  taken_reaches value lines t = (t.taken, t.set, t.enough, (t.places, t.packing))

  -- what is refuted under what the trees of a heading begin with doesn't fit
  never_fits : (heading : Heading) (tokens : List PlainToken)
      → Refutes instance (start_exclusions heading instance) tokens → ¬ Fits instance
  never_fits Answer tokens refutes = none_fits excess_law instance sides tokens refutes
  never_fits Bounded tokens refutes = none_fits excess_law instance sides tokens refutes
  never_fits Reduced tokens refutes = none_fits_under instance sides some tokens refutes

  never_fits_at : (heading : Heading) (h : ℕ) (lines : List (List (List ℕ))) → RefuteHeight heading instance h lines
      → ¬ Fits (with_last_side instance h)
  never_fits_at Answer h lines r = none_fits excess_law (with_last_side instance h) (higher_sides h) r.tokens r.refute
  never_fits_at Reduced h lines r = none_fits_at instance h (higher_sides h) some r.tokens r.refute
  never_fits_at Bounded h lines r =
      none_fits_families excess_law (with_last_side instance h) (higher_sides h) r.tokens r.refute

  -- nor is what is refuted for a value reached
  never_reaches : (heading : Heading) (value : ℕ) (lines : List (List (List ℕ)))
      → RefuteValue heading instance value lines → ¬ ReachesValue instance value
  never_reaches Answer value lines r = none_reaches excess_law instance sides value r.tokens r.refute
  never_reaches Reduced value lines r = none_reaches excess_law instance sides value r.tokens r.refute
  never_reaches Bounded value lines r = none_reaches_bounded excess_law instance sides value r.tokens r.refute

  backed_true : (heading : Heading) (claim : Claim) (words : List (List ℕ)) (lines : List (List (List ℕ)))
      → IsResult instance claim words → BacksUnder heading instance claim lines
      → IsTrueOf instance claim
  backed_true heading Fitting words lines r b = (b.places, b.packing)
  backed_true heading NotFitting words lines r b = never_fits heading b.tokens b.refute
  backed_true heading (LeastHeight zero) words lines r b = absurd (let h = r.is_number.least in omega (arith, h))
  backed_true heading (LeastHeight (suc h)) words lines r b =
      least_height instance h (b.is_front.places, b.is_front.packing)
      (never_fits_at heading h b.back b.is_back)
  backed_true heading (HeightBetween x y) words lines r b = record {
    above = λ h f. go h f (cases_lt x h);
    fits = (b.is_front.places, b.is_front.packing);
  }
    where
      go : (h : ℕ) → Fits (with_last_side instance h) → (x < h) ⊎ (h ≤ x) → x < h
      go h f (inl l) = l
      go h f (inr l) =
          absurd (never_fits_at heading x b.back b.is_back (fits_higher instance h x l f))
  backed_true heading NoHeight words lines r b = λ h. too_wide instance h (wide b.box_no b.dim b.large b.among)
  backed_true heading (LeastBins zero) words lines r b = absurd (let h = r.is_number.least in omega (arith, h))
  backed_true heading (LeastBins (suc k)) words lines r b =
      least_bins instance k (b.is_front.bins, b.is_front.places, b.is_front.packing)
      (none_fits_bins excess_law instance sides k b.is_back.tokens b.is_back.refute)
  backed_true heading (BinsBetween x y) words lines r b = record {
    above = λ k f. go k f (cases_lt x k);
    fits = (b.is_front.bins, b.is_front.places, b.is_front.packing);
  }
    where
      go : (k : ℕ) → Rattle.packing_terms.specs.Goals.FitsInBins instance k → (x < k) ⊎ (k ≤ x) → x < k
      go k f (inl l) = l
      go k f (inr l) = absurd (none_fits_bins excess_law instance sides x b.is_back.tokens b.is_back.refute
          (fits_in_more instance k x l f))
  backed_true heading NoBins words lines r b = λ k. too_large instance k (large b.box_no b.dim b.large)
  backed_true heading (GreatestValue v) words lines r b =
      greatest_value instance v (taken_reaches v b.front b.is_front)
      (never_reaches heading (suc v) b.back b.is_back)
  backed_true heading (ValueBetween x y) words lines r b = record {
    reached = taken_reaches x b.front b.is_front;
    below = λ t f. go t f (cases_lt t y);
  }
    where
      go : (t : ℕ) → ReachesValue instance t → (t < y) ⊎ (y ≤ t) → t < y
      go t f (inl l) = l
      go t f (inr l) = absurd (never_reaches heading y b.back b.is_back (reaches_lower instance y t l f))

pub documents_are_true : DocumentsAreTrue
documents_are_true heading text claim document =
    let limits : IsInternalInstance document.instance =
    written_internal document.instance (document_limits heading text claim document) in
    backed_true document.instance (internal_sides document.instance limits) (some_dimension document.instance limits)
    heading claim document.result document.backing document.is_result document.backed
