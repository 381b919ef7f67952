-- Whether the node for a value that the splits lead to is priced out: sums and tests over the boxes
-- that are in and over those that are undecided, one box after another, and what they say together.
use Rattle.std.proofs.Common.{◌≡◌, ℕ, ◌+◌, ◌*◌, ◌/◌, ◌%◌, ◌<◌, ◌≤◌, refl, sym, ap, ap₂, subst, ◌∙◌, arith}
use Rattle.std.proofs.Common.{Bool, true, false, ◌&&◌, if◌then◌else◌, List, [], ◌∷◌, length, Option, Some, None}
use Rattle.std.specs.Prelude.{nat_lt, nat_le, sum_by}
use Rattle.std.specs.List.{filter, range_with_len, list_all}
use Rattle.std.proofs.lemmas.Bool.{lt-ltb, le-ltb, leb-true, eq-eqb}
use Rattle.std.proofs.lemmas.List.Folds.{list_all-append}
use Rattle.std.proofs.lemmas.List.Sums.{sum_by-append}
use Rattle.std.proofs.Math.Bool.{and-true}
use Rattle.std.proofs.Math.Nat.{div-zero}
use Rattle.packing_terms.specs.declared.ScaleFn.{ScaleFn}
use Rattle.packing_terms.specs.Packing.{PlainInstance, dims, box_count, container_side, side}
use Rattle.packing_terms.specs.Scales.{image_product, whole_product}
use Rattle.packing_terms.specs.OuterRefutation.{undecided}
use Rattle.packing_terms.proofs.Members.{all_at, in_range}
use Rattle.packing_terms.proofs.Boxes.{found}
use Rattle.verdict_terms.specs.declared.check_answers.RefuseCode.{RefuseCode}
use Rattle.verdict_terms.specs.declared.check_answers.RefuseCode.TheVariants.{Kind, Range, Excess}
use Rattle.verdict_terms.specs.Judging.{unless, are_legal}
use Rattle.verdict_terms.specs.Shares.{whole_share, share, fits_alone, supply, demand}
use Rattle.verdict_terms.specs.BoundedJudging.{price_refusal}
use Rattle.verdict_terms.proofs.ShareSteps.{two_steps}
use Rattle.outer_check.specs.declared.path.Frame.{Frame}
use Rattle.outer_check.specs.declared.goal.Goal.TheVariants.{Value as OfValue}
use Rattle.outer_check.specs.Frames.{PlainPath, ArePath, AreSplits, is_put, boxes_put, open_boxes}
use Rattle.outer_check.specs.Outers.{AreOf}
use Rattle.outer_check.proofs.Paths.{range_more}
use Rattle.outer_check.proofs.Ranges.{has_passing}
use Rattle.outer_check.proofs.Chosen.{choice_at, taken_is, undecided_is}

-- ---- one box more is looked at

pub sum_more : (f : ℕ → ℕ) (p : ℕ → Bool) (v total : ℕ) (test : Bool) (more : ℕ)
    → total ≡ sum_by f (filter p (range_with_len 0 v)) → test ≡ p v → more ≡ (if test then f v else 0)
    → total + more ≡ sum_by f (filter p (range_with_len 0 (v + 1)))
sum_more f p v total test more before tested added =
    ap₂ (λ a b. a + b) before (added ∙ ap (λ b. if b then f v else 0) tested)
    ∙ sym (ap (λ us. sum_by f us) (range_more p v)
    ∙ (sum_by-append f (filter p (range_with_len 0 v)) (if p v then v ∷ [] else [])
    ∙ ap (λ n. sum_by f (filter p (range_with_len 0 v)) + n) (go (p v))))
  where
    go : (b : Bool) → sum_by f (if b then v ∷ [] else []) ≡ (if b then f v else 0)
    go true = let e : 0 + f v ≡ f v = omega arith in e
    go false = refl

pub all_more : (q p : ℕ → Bool) (v : ℕ) (all test here : Bool) → all ≡ list_all q (filter p (range_with_len 0 v))
    → test ≡ p v → here ≡ (if test then q v else true)
    → (all && here) ≡ list_all q (filter p (range_with_len 0 (v + 1)))
all_more q p v all test here before tested told =
    ap₂ (λ a b. a && b) before (told ∙ ap (λ b. if b then q v else true) tested)
    ∙ sym (ap (λ us. list_all q us) (range_more p v)
    ∙ (list_all-append q (filter p (range_with_len 0 v)) (if p v then v ∷ [] else [])
    ∙ ap (λ b. list_all q (filter p (range_with_len 0 v)) && b) (go (p v))))
  where
    go : (b : Bool) → list_all q (if b then v ∷ [] else []) ≡ (if b then q v else true)
    go true = and-true (q v)
    go false = refl

-- ---- one box

-- a box that fits alone is no longer than the container
pub alone_sides : (instance : PlainInstance) (v : ℕ) → fits_alone instance v ≡ true → (i : ℕ) → i < dims instance
    → side instance v i ≤ container_side instance i
alone_sides instance v alone i l = leb-true (side instance v i) (container_side instance i)
    (all_at (λ j. nat_le (side instance v j) (container_side instance j)) i (range_with_len 0 (dims instance)) alone
    (in_range 0 (dims instance) i (omega arith) (omega (arith, l))))

-- each box that is in fits alone where all of them do
pub put_fits : (instance : PlainInstance) (frames : List Frame) (v : ℕ) → v < box_count instance
    → list_all (fits_alone instance) (boxes_put (box_count instance) frames 0) ≡ true → is_put frames 0 v ≡ true
    → fits_alone instance v ≡ true
put_fits instance frames v there all put =
    all_at (fits_alone instance) v (boxes_put (box_count instance) frames 0) all
    (found v (boxes_put (box_count instance) frames 0)
    (has_passing (λ u. is_put frames 0 u) v 0 (box_count instance) (omega arith) (omega (arith, there)) ∙ put))

-- where a container side is 0, a share is 0
pub no_share : (instance : PlainInstance) (fs : List ScaleFn) (v : ℕ) → whole_product instance fs ≡ 0
    → 0 ≡ share instance fs v
no_share instance fs v none = sym (ap (λ w. whole_share * image_product instance fs v / w) none
    ∙ div-zero (whole_share * image_product instance fs v))

-- a share is computed by two divisions
pub by_steps : (instance : PlainInstance) (fs : List ScaleFn) (v image whole : ℕ) → image ≡ image_product instance fs v
    → whole ≡ whole_product instance fs
    → 31250 * (32000 * image / whole) + 31250 * (32000 * image % whole) / whole ≡ share instance fs v
by_steps instance fs v image whole e f =
    sym (two_steps image whole) ∙ ap₂ (λ a b. whole_share * a / b) e f

-- ---- the whole test

module _ (instance : PlainInstance) (y : ℕ) (p : PlainPath) (same : p.boxes ≡ box_count instance) (path : ArePath p)
    (are : AreOf (OfValue y) p.frames) (q w : ℕ) (fs : List ScaleFn) (count : length fs ≡ dims instance) where
  -- the boxes that are in, and those that are undecided
  abbrev put : List ℕ
  put = boxes_put (box_count instance) p.frames 0

  abbrev free : List ℕ
  free = open_boxes (box_count instance) p.frames

  splits : AreSplits (box_count instance) p.frames
  splits = subst (λ n. AreSplits n p.frames) same path.splits

  -- the tests behind that of the count
  abbrev told_by : Bool → Bool → Bool → Option RefuseCode
  told_by legal fit less = unless legal Range (unless (fit && less) Excess None)

  abbrev told_of : List ℕ → List ℕ → Option RefuseCode
  told_of taken others = told_by (are_legal instance fs) (list_all (fits_alone instance) taken)
      (nat_lt (supply instance fs q w taken others) (demand instance fs q w taken y))

  by_lists : told_of put free ≡ price_refusal instance y (choice_at p.frames) q w fs
  by_lists =
      ap₂ (λ a b. told_of a b) (sym (taken_is (box_count instance) p.frames splits path.apart are))
      (sym (undecided_is instance p.frames splits path.apart are))
      ∙ sym (ap (λ b. unless b Kind (told_of (choice_at p.frames).taken (undecided instance (choice_at p.frames))))
      (eq-eqb (length fs) (dims instance) count))

  module _ (legal : are_legal instance fs ≡ true) where
    price_told : (fit less : Bool) → list_all (fits_alone instance) put ≡ fit
        → nat_lt (supply instance fs q w put free) (demand instance fs q w put y) ≡ less
        → told_by true fit less ≡ price_refusal instance y (choice_at p.frames) q w fs
    price_told fit less a b =
        sym (ap (λ x. told_by x (list_all (fits_alone instance) put)
        (nat_lt (supply instance fs q w put free) (demand instance fs q w put y))) legal
        ∙ ap₂ (λ x z. told_by true x z) a b)
        ∙ by_lists

    -- a box that is in is too long
    pub price_long : list_all (fits_alone instance) put ≡ false
        → Some Excess ≡ price_refusal instance y (choice_at p.frames) q w fs
    price_long a = price_told false _ a refl

    module _ (fit : list_all (fits_alone instance) put ≡ true) (most least : ℕ)
        (supplied : most ≡ supply instance fs q w put free) (demanded : least ≡ demand instance fs q w put y) where
      less : nat_lt (supply instance fs q w put free) (demand instance fs q w put y) ≡ nat_lt most least
      less = sym (ap₂ (λ a b. nat_lt a b) supplied demanded)

      pub price_closed : most < least → None ≡ price_refusal instance y (choice_at p.frames) q w fs
      price_closed l = price_told true true fit (less ∙ lt-ltb most least l)

      pub price_reached : least ≤ most → Some Excess ≡ price_refusal instance y (choice_at p.frames) q w fs
      price_reached l = price_told true false fit (less ∙ le-ltb most least l)
