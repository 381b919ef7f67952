-- What the heights of an answer say is true.
use Rattle.std.proofs.Common.{◌≡◌, ℕ, suc, ◌<◌, ◌≤◌, ◌⊎◌, inl, inr, refl, sym, subst, arith, Bool, true, false, cond}
use Rattle.std.specs.Prelude.{◌==◌}
use Rattle.std.proofs.lemmas.Bool.{eqb-true, eqb-false, cases_lt}
use Rattle.packing_terms.specs.Packing.{PlainInstance, Fits}
use Rattle.packing_terms.specs.Goals.{with_last_side, IsLeastHeight, HasTooWideBox}
use Rattle.packing_terms.specs.Limits.{IsInstance}
use Rattle.packing_terms.specs.TooLarge.{IsFirstTooWide}
use Rattle.packing_terms.proofs.Internal.{internal_sides, written_internal}
use Rattle.packing_terms.proofs.Neighbours.{fits_higher, least_height}
use Rattle.packing_terms.proofs.TooLarge.{too_wide}
use Rattle.packing_terms.proofs.Excess.{excess_law}
use Rattle.tree_terms.proofs.Optima.{internal_at}
use Rattle.text_terms.specs.declared.claim.Claim.TheVariants.{LeastHeight, HeightBetween}
use Rattle.text_terms.specs.Claims.{IsHeightBetween}
use Rattle.verdict_terms.proofs.FamilySound.{none_fits_families}
use Rattle.answer_terms.specs.HeightAnswers.{BoundedHeights, AreBoundedHeights, height_claim}
use Rattle.answer_terms.specs.HeightLaws.{BoundedStripsAreTrue, BoundedHeightsAreTold}

module _ (instance : PlainInstance) (limits : IsInstance instance) (heights : BoundedHeights)
    (are : AreBoundedHeights instance heights) where
  none_at_refuted : ¬ Fits (with_last_side instance heights.refuted)
  none_at_refuted =
      let rising = are.rising in
      let most = are.most in
      let small = internal_at instance (written_internal instance limits) heights.refuted (omega (arith, rising, most)) in
      none_fits_families excess_law (with_last_side instance heights.refuted)
      (internal_sides (with_last_side instance heights.refuted) small) heights.tokens are.refutation

  fits_at_placed : Fits (with_last_side instance heights.placed)
  fits_at_placed = (heights.places, are.packing)

  is_between : IsHeightBetween instance heights.refuted heights.placed
  is_between = record { above = λ h fits. go h fits (cases_lt heights.refuted h); fits = fits_at_placed }
    where
      go : (h : ℕ) → Fits (with_last_side instance h) → (heights.refuted < h) ⊎ (h ≤ heights.refuted)
          → heights.refuted < h
      go h fits (inl less) = less
      go h fits (inr more) = absurd (none_at_refuted (fits_higher instance h heights.refuted more fits))

  is_least : suc heights.refuted ≡ heights.placed → IsLeastHeight instance heights.placed
  is_least e =
      subst (λ (h : ℕ). IsLeastHeight instance h) e
      (least_height instance heights.refuted (subst (λ (h : ℕ). Fits (with_last_side instance h)) (sym e) fits_at_placed)
      none_at_refuted)

-- the first box that is too wide is one
wide_box : (instance : PlainInstance) (v i : ℕ) → IsFirstTooWide instance v i → HasTooWideBox instance
wide_box instance v i h = record {
  box_no = v;
  dim = i;
  there = h.there;
  not_last = (let r = h.in_range in omega (arith, r));
  large = h.large;
}

pub bounded_strips_true : BoundedStripsAreTrue
bounded_strips_true = (
  λ instance heights limits are. (is_least instance limits heights are, is_between instance limits heights are),
  λ instance v i limits wide h. too_wide instance h (wide_box instance v i wide),
)

pub bounded_heights_told : BoundedHeightsAreTold
unfolding height_claim
bounded_heights_told heights = go (suc heights.refuted == heights.placed) refl
  where
    go : (b : Bool) → (suc heights.refuted == heights.placed) ≡ b
        → (suc heights.refuted ≡ heights.placed
        → cond b (LeastHeight heights.placed) (HeightBetween heights.refuted heights.placed)
        ≡ LeastHeight heights.placed)
        × (¬ (suc heights.refuted ≡ heights.placed)
        → cond b (LeastHeight heights.placed) (HeightBetween heights.refuted heights.placed)
        ≡ HeightBetween heights.refuted heights.placed)
    go true e = (λ s. refl, λ n. absurd (n (eqb-true (suc heights.refuted) heights.placed e)))
    go false e = (λ s. absurd (eqb-false (suc heights.refuted) heights.placed e s), λ n. refl)
