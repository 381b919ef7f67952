-- The share of one box: at most the whole, and computed by two short divisions.
use Rattle.std.proofs.Common.{◌≡◌, ℕ, zero, suc, ◌+◌, ◌*◌, ◌/◌, ◌%◌, ◌<◌, ◌≤◌, ◌⊎◌, inl, inr, ap, ◌∙◌, arith}
use Rattle.std.proofs.Common.{true, List, nat_le}
use Rattle.std.specs.List.{range_with_len}
use Rattle.std.proofs.lemmas.Bool.{cases_eq, cases_lt, leb-true}
use Rattle.std.proofs.lemmas.Nat.{div-add-mod', mul-le}
use Rattle.std.proofs.Math.Nat.{div-zero, mul-add-div_right}
use Rattle.packing_terms.specs.declared.ScaleFn.{ScaleFn}
use Rattle.packing_terms.specs.Packing.{PlainInstance, dims, container_side, side}
use Rattle.packing_terms.specs.Scales.{image_product, whole_product, IsTuple, function_at}
use Rattle.packing_terms.specs.Sums.{product_below}
use Rattle.packing_terms.proofs.Members.{all_at, in_range}
use Rattle.packing_terms.proofs.Bounds.{image_small}
use Rattle.verdict_terms.specs.Shares.{whole_share, share, fits_alone}

product_most : (n : ℕ) (f g : ℕ → ℕ) → ((i : ℕ) → i < n → f i ≤ g i) → product_below n f ≤ product_below n g
product_most zero f g h = omega arith
product_most (suc n) f g h =
    mul-le (product_below n f) (f n) (product_below n g) (g n) (product_most n f g (λ i l. h i (omega (arith, l))))
    (h n (omega arith))

-- the product of images of a box that fits alone is at most that of the wholes
pub image_most : (instance : PlainInstance) (fs : List ScaleFn) (v : ℕ) → IsTuple instance fs
    → fits_alone instance v ≡ true → image_product instance fs v ≤ whole_product instance fs
image_most instance fs v tuple alone = product_most (dims instance) _ _ (λ i l.
    image_small (function_at fs i) (container_side instance i) (side instance v i) (tuple.legal i l) (no_longer i l))
  where
    no_longer : (i : ℕ) → i < dims instance → side instance v i ≤ container_side instance i
    no_longer i l = leb-true (side instance v i) (container_side instance i)
        (all_at (λ j. nat_le (side instance v j) (container_side instance j)) i (range_with_len 0 (dims instance)) alone
        (in_range 0 (dims instance) i (omega arith) (omega (arith, l))))

-- a part of a whole in billionths is at most a billion
part_most : (image whole : ℕ) → image ≤ whole → whole_share * image / whole ≤ whole_share
part_most image whole l = go (cases_eq whole 0)
  where
    go : (whole ≡ 0) ⊎ (whole ≡ 0 → ⊥) → whole_share * image / whole ≤ whole_share
    go (inl none) = rw none (let e = div-zero (whole_share * image) in omega (arith, e))
    go (inr some) = pick (cases_lt whole_share (whole_share * image / whole))
      where
        pick : (whole_share < whole_share * image / whole) ⊎ (whole_share * image / whole ≤ whole_share)
            → whole_share * image / whole ≤ whole_share
        pick (inr m) = m
        pick (inl m) =
            let e = div-add-mod' (whole_share * image) whole in
            let k = mul-le (whole_share + 1) whole (whole_share * image / whole) whole (omega (arith, m))
            (omega arith) in
            absurd (omega (arith, e, k, l, some))

pub share_most : (instance : PlainInstance) (fs : List ScaleFn) (v : ℕ) → IsTuple instance fs
    → fits_alone instance v ≡ true → share instance fs v ≤ whole_share
share_most instance fs v tuple alone =
    part_most (image_product instance fs v) (whole_product instance fs) (image_most instance fs v tuple alone)

-- a billion is 31250 times 32000
pub two_steps : (image whole : ℕ) → whole_share * image / whole
    ≡ 31250 * (32000 * image / whole) + 31250 * (32000 * image % whole) / whole
two_steps image whole = go (cases_eq whole 0)
  where
    go : (whole ≡ 0) ⊎ (whole ≡ 0 → ⊥) → whole_share * image / whole
        ≡ 31250 * (32000 * image / whole) + 31250 * (32000 * image % whole) / whole
    go (inl none) = rw none
        (let a = div-zero (whole_share * image) in
        let b = div-zero (32000 * image) in
        let c = div-zero (31250 * (32000 * image % 0)) in
        omega (arith, a, b, c))
    go (inr some) =
        let e = div-add-mod' (32000 * image) whole in
        let times : 31250 * (32000 * image / whole * whole) ≡ 31250 * (32000 * image / whole) * whole = grind arith in
        let same : whole_share * image
        ≡ 31250 * (32000 * image / whole) * whole + 31250 * (32000 * image % whole) = omega (arith, e, times) in
        ap (λ n. n / whole) same
        ∙ mul-add-div_right (omega (arith, some)) (31250 * (32000 * image / whole)) (31250 * (32000 * image % whole))
