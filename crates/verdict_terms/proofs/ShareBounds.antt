-- Boxes that fit together have shares of at most the whole. Their products of images are at most
-- that of the wholes, since a tuple that exceeds refutes the set; rounding down keeps the order.
use Rattle.std.proofs.Common.{◌≡◌, ℕ, ◌+◌, ◌*◌, ◌/◌, ◌<◌, ◌≤◌, ◌⊎◌, inl, inr, refl, ap, ◌∙◌}
use Rattle.std.proofs.Common.{arith, true, List, [], ◌∷◌, get_or, sum_by, nat_le}
use Rattle.std.specs.List.{range_with_len}
use Rattle.std.proofs.lemmas.Bool.{cases_lt, cases_eq, le-leb}
use Rattle.std.proofs.lemmas.Nat.{div-add-mod', mul-le}
use Rattle.std.proofs.Math.Nat.{div-zero}
use Rattle.std.proofs.lemmas.List.{length-map}
use Rattle.std.proofs.lemmas.List.Sums.{sum_by-cons}
use Rattle.packing_terms.specs.declared.ScaleFn.{ScaleFn}
use Rattle.packing_terms.specs.Packing.{PlainInstance, no_box, dims, box_count, container_side, side, Fits}
use Rattle.packing_terms.specs.Goals.{subset}
use Rattle.packing_terms.specs.Scales.{image_product, whole_product, IsTuple, SidesFit, HasExcess}
use Rattle.packing_terms.specs.ExcessLaw.{ExcessLaw}
use Rattle.packing_terms.specs.Sums.{sum_below}
use Rattle.packing_terms.proofs.InBins.{side_of}
use Rattle.packing_terms.proofs.Members.{IsIn, all_from, range_in, at_index}
use Rattle.packing_terms.proofs.Working.{working}
use Rattle.verdict_terms.specs.Shares.{whole_share, shares, fits_alone}
use Rattle.verdict_terms.proofs.Sums.{sum_each, sum_scaled, sum_first}

-- the images of the instance of a set are those of its boxes
set_images : (instance : PlainInstance) (fs : List ScaleFn) (keep : List ℕ)
    → sum_below (box_count (subset instance keep)) (λ k. image_product (subset instance keep) fs k)
    ≡ sum_by (λ v. image_product instance fs v) keep
set_images instance fs [] = refl
set_images instance fs (v ∷ vs) =
    let rest = set_images instance fs vs in
    let first = sum_first (box_count (subset instance vs)) (λ k. image_product (subset instance (v ∷ vs)) fs k) in
    omega (arith, rest, first, sum_by-cons (λ u. image_product instance fs u) v vs)

-- a quotient by 0 is 0
over_zero : (n d : ℕ) → d ≡ 0 → n / d ≡ 0
over_zero n d e = rw e (div-zero n)

-- parts of images that are together at most the whole are together at most the whole share
parts_fit : (whole : ℕ) (image : ℕ → ℕ) (keep : List ℕ) → sum_by image keep ≤ whole
    → sum_by (λ v. whole_share * image v / whole) keep ≤ whole_share
parts_fit whole image keep few = go (cases_eq whole 0)
  where
    part : ℕ → ℕ
    part v = whole_share * image v / whole

    turned : (a : ℕ) → whole * a ≡ a * whole
    turned a = grind arith

    scaled : whole * sum_by (λ v. whole_share * image v / whole) keep ≤ whole_share * sum_by image keep
    scaled =
        let each = sum_each (λ v. whole * (whole_share * image v / whole)) (λ v. whole_share * image v) keep
        (λ v i. let e = div-add-mod' (whole_share * image v) whole in
        let t = turned (whole_share * image v / whole) in omega (arith, e, t)) in
        let left = sum_scaled whole (λ v. whole_share * image v / whole) keep in
        let right = sum_scaled whole_share image keep in
        omega (arith, each, left, right)

    go : (whole ≡ 0) ⊎ (whole ≡ 0 → ⊥) → sum_by (λ v. whole_share * image v / whole) keep ≤ whole_share
    go (inl none) =
        let each = sum_each (λ v. whole_share * image v / whole) (λ v. 0 * image v) keep
        (λ v i. let e = over_zero (whole_share * image v) whole none in omega (arith, e)) in
        let zero_sum = sum_scaled 0 image keep in
        omega (arith, each, zero_sum)
    go (inr some) = pick (cases_lt whole_share (sum_by (λ v. whole_share * image v / whole) keep))
      where
        pick : (whole_share < sum_by (λ v. whole_share * image v / whole) keep)
            ⊎ (sum_by (λ v. whole_share * image v / whole) keep ≤ whole_share)
            → sum_by (λ v. whole_share * image v / whole) keep ≤ whole_share
        pick (inr l) = l
        pick (inl l) =
            let m = mul-le whole (whole_share + 1) whole (sum_by (λ v. whole_share * image v / whole) keep)
            (omega arith) (omega (arith, l)) in
            absurd (omega (arith, m, scaled, few, some))

module _ (law : ExcessLaw) (instance : PlainInstance) (fs : List ScaleFn) (keep : List ℕ)
    (fits : Fits (subset instance keep)) where
  set_sides_fit : SidesFit (subset instance keep)
  set_sides_fit k i l m =
      let h = (working (subset instance keep) fits.0 fits.1).inside k i l m in omega (arith, h)

  -- each box of a set that fits fits alone
  pub each_fits_alone : (v : ℕ) → IsIn v keep → fits_alone instance v ≡ true
  each_fits_alone v j =
      all_from (λ i. nat_le (side instance v i) (container_side instance i)) (range_with_len 0 (dims instance))
      (λ i h. le-leb (side instance v i) (container_side instance i) (within i (range_in 0 (dims instance) i h).1))
    where
      within : (i : ℕ) → i < 0 + dims instance → side instance v i ≤ container_side instance i
      within i l =
          let at = at_index 0 v keep j in
          let there = length-map keep (λ u. get_or instance.boxes u no_box) in
          let here = at.1 in
          let h = set_sides_fit at.0 i (omega (arith, there, here)) (omega (arith, l)) in
          let same = side_of instance keep at.0 i at.1 ∙ ap (λ u. side instance u i) at.2 in
          omega (arith, h, same)

  pub shares_fit : IsTuple instance fs → shares instance fs keep ≤ whole_share
  shares_fit tuple = parts_fit (whole_product instance fs) (λ v. image_product instance fs v) keep
      (go (cases_lt (whole_product instance fs) (sum_by (λ v. image_product instance fs v) keep)))
    where
      go : (whole_product instance fs < sum_by (λ v. image_product instance fs v) keep)
          ⊎ (sum_by (λ v. image_product instance fs v) keep ≤ whole_product instance fs)
          → sum_by (λ v. image_product instance fs v) keep ≤ whole_product instance fs
      go (inr l) = l
      go (inl more) = absurd (law.one (subset instance keep) fs (record {
        tuple = record { count = tuple.count; legal = tuple.legal };
        fit = set_sides_fit;
        more = excess;
      }) fits)
        where
          excess : HasExcess (subset instance keep) fs 1
          excess = let same = set_images instance fs keep in omega (arith, more, same)
