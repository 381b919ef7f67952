-- Where a tuple exceeds, no packing is.
use Rattle.std.proofs.Common.{◌≡◌, ℕ, ◌+◌, ◌*◌, ◌<◌, ◌≤◌, sym, ◌∙◌, arith, Bool, true, cond, List, get_or}
use Rattle.packing_terms.specs.Packing.{PlainInstance, dims, box_count, container_side, side, place, AreDisjoint, Fits}
use Rattle.packing_terms.specs.declared.ScaleFn.{ScaleFn}
use Rattle.packing_terms.specs.declared.ScaleFn.TheVariants.{Id}
use Rattle.packing_terms.specs.Scales.{scale_image, scale_whole, function_at, image_product, whole_product, IsTuple}
use Rattle.packing_terms.specs.Scales.{Exceeds, IsDualFeasible}
use Rattle.packing_terms.specs.Sums.{sum_below}
use Rattle.packing_terms.proofs.Envelope.{feasible_dominated}
use Rattle.packing_terms.specs.Containers.{IsSharedPacking, FitsIn}
use Rattle.packing_terms.specs.Intervals.{covers, AreIntervalsWithin}
use Rattle.packing_terms.proofs.Sums.{sum-same}
use Rattle.packing_terms.proofs.Families.{dominated}
use Rattle.packing_terms.proofs.Weighted.{weighted}
use Rattle.packing_terms.proofs.Slices.{Layout, IsWellMade, bounded, covers_parts}
use Rattle.packing_terms.proofs.Working.{working}

-- the boxes of an instance at their places
abbrev layout : PlainInstance → List ScaleFn → List ℕ → Layout
layout instance fs places = record {
  boxes = box_count instance;
  start = λ v i. place instance places v i;
  len = λ v i. side instance v i;
  side = λ i. container_side instance i;
  top = λ i. scale_whole (function_at fs i) (container_side instance i);
  scale = λ i. scale_image (function_at fs i) (container_side instance i);
}

abbrev AreInside : PlainInstance → List ℕ → Type 0
AreInside instance places = (v i : ℕ) → v < box_count instance → i < dims instance
    → place instance places v i + side instance v i ≤ container_side instance i

well_made : (instance : PlainInstance) (fs : List ScaleFn) (places : List ℕ) → IsTuple instance fs
    → AreInside instance places
    → IsWellMade (layout instance fs places) (dims instance)
well_made instance fs places t h = record {
  inside = h;
  scaled = λ i e. dominated (function_at fs i) (container_side instance i) (t.legal i e);
}

-- the boxes that are kept, where each two of them are apart
pub volume_bound : (instance : PlainInstance) (fs : List ScaleFn) (places : List ℕ) (keep : ℕ → Bool)
    → IsTuple instance fs → AreInside instance places
    → ((u v : ℕ) → u < v → v < box_count instance → keep u ≡ true → keep v ≡ true → AreDisjoint instance places u v)
    → sum_below (box_count instance) (λ v. cond (keep v) (image_product instance fs v) 0) ≤ whole_product instance fs
volume_bound instance fs places keep t h s =
    bounded (layout instance fs places) (dims instance) (well_made instance fs places t h) keep s

pub none_fits : (instance : PlainInstance) (fs : List ScaleFn) → Exceeds instance fs 1 → Fits instance → ⊥
none_fits instance fs x (places, p) =
    let w = working instance places p in
    let h = volume_bound instance fs places (λ v. true) x.tuple w.inside (λ u v l e _ _. w.disjoint u v l e) in
    let m : 1 * whole_product instance fs < sum_below (box_count instance)
    (λ v. image_product instance fs v) = x.more in
    omega (arith, h)

-- the container of a box is an interval of length 1
pub shared_bound : (instance : PlainInstance) (fs : List ScaleFn) (c : ℕ) (bins places : List ℕ) → IsTuple instance fs
    → IsSharedPacking instance c bins places
    → sum_below (box_count instance) (λ v. image_product instance fs v) ≤ c * whole_product instance fs
shared_bound instance fs c bins places t p =
    let one : (v w : ℕ) → covers v 1 w ≡ true → v ≡ w = λ v w e. (let k = covers_parts v 1 w e in omega (arith, k)) in
    let h = weighted (box_count instance) c c (whole_product instance fs) (λ x. x) (λ v. get_or bins v 0) (λ v. 1)
    (λ v. image_product instance fs v)
    (dominated Id c tt) (λ v e. (let k = p.numbers v e in omega (arith, k)))
    (λ w e. volume_bound instance fs places (λ v. covers (get_or bins v 0) 1 w) t p.inside
    (λ u v l m hu hv. p.disjoint u v l m (one _ _ hu ∙ sym (one _ _ hv)))) in
    let g : sum_below (box_count instance) (λ v. image_product instance fs v * 1)
    ≡ sum_below (box_count instance) (λ v. image_product instance fs v)
    = sum-same (box_count instance) _ _ (λ v _. omega arith) in
    let k : whole_product instance fs * c ≡ c * whole_product instance fs = grind arith in
    omega (arith, h, g, k)

pub none_shared : (instance : PlainInstance) (fs : List ScaleFn) (c : ℕ) → Exceeds instance fs c → FitsIn instance c → ⊥
none_shared instance fs c x (bins, places, p) =
    let h = shared_bound instance fs c bins places x.tuple p in
    let m : c * whole_product instance fs < sum_below (box_count instance)
    (λ v. image_product instance fs v) = x.more in
    omega (arith, h)

pub weighted_images : (f : ScaleFn) (W n P : ℕ) (start len weight : ℕ → ℕ)
    → Rattle.packing_terms.specs.Scales.IsLegalScale f W → AreIntervalsWithin n W P start len weight
    → sum_below n (λ v. weight v * scale_image f W (len v)) ≤ P * scale_whole f W
weighted_images f W n P start len weight l h =
    weighted n W (scale_whole f W) P (scale_image f W) start len weight (dominated f W l) h.inside h.within

pub weighted_any : (W F n P : ℕ) (f : ℕ → ℕ) (start len weight : ℕ → ℕ) → IsDualFeasible W F f
    → AreIntervalsWithin n W P start len weight
    → sum_below n (λ v. weight v * f (len v)) ≤ P * F
weighted_any W F n P f start len weight d h =
    weighted n W F P f start len weight (feasible_dominated W F f d) h.inside h.within
