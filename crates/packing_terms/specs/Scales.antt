-- Scale functions, and when a tuple of them exceeds.
--
-- A scale function gives each side x of at most W an image, such that sides that fit beside one
-- another have images that fit in the whole. Then the products of the images of boxes that fit in c
-- containers are together at most c products of the wholes.
-- Source: Fekete and Schepers, "New classes of fast lower bounds for bin packing problems" (2001)
-- and "A general framework for bounds for higher-dimensional orthogonal packing problems" (2004):
-- the functions u(k), U(e) and phi(e), scaled here to whole numbers.
use Rattle.std.specs.Prelude.{ℕ, ◌+◌, ◌-◌, ◌*◌, ◌/◌, ◌%◌, ◌<◌, ◌≤◌, ◌≡◌, ◌==◌, List, length, slice_index_or, nat_lt}
use Rattle.std.specs.Prelude.{nat_le, if◌then◌else◌, map, sum}
use Rattle.packing_terms.specs.declared.ScaleFn.{ScaleFn}
use Rattle.packing_terms.specs.declared.ScaleFn.TheVariants.{Id, Step, Cut, Count}
use Rattle.packing_terms.specs.Packing.{PlainInstance, dims, box_count, container_side, side}
use Rattle.packing_terms.specs.Sums.{sum_below, product_below}

-- the parameter is legal for a container side W
abbrev pub IsLegalScale : ScaleFn → ℕ → Type 0
IsLegalScale Id W = Unit {0}
IsLegalScale (Step k) W = (1 ≤ k) × (k ≤ 16) × (1 ≤ W)
IsLegalScale (Cut e) W = (1 ≤ e) × (2 * e ≤ W)
IsLegalScale (Count e) W = (1 ≤ e) × (2 * e ≤ W)

-- the whole, for a container side W
abbrev pub scale_whole : ScaleFn → ℕ → ℕ
scale_whole Id W = W
scale_whole (Step k) W = k * W
scale_whole (Cut e) W = W
scale_whole (Count e) W = W / e

-- the image of a side x, for a container side W
abbrev pub scale_image : ScaleFn → ℕ → ℕ → ℕ
scale_image Id W x = x
scale_image (Step k) W x = if (k + 1) * x % W == 0 then k * x else W * ((k + 1) * x / W)
scale_image (Cut e) W x = if nat_lt x e then 0 else (if nat_le x (W - e) then x else W)
scale_image (Count e) W x = if nat_lt x e then 0 else (if nat_le (2 * x) W then 1 else W / e - (W - x) / e)

-- f with whole F is dual feasible for W: every list of numbers with sum at most W has images with
-- sum at most F
abbrev pub IsDualFeasible : ℕ → ℕ → (ℕ → ℕ) → Type 0
IsDualFeasible W F f = (xs : List ℕ) → sum xs ≤ W → sum (map f xs) ≤ F

-- the function of dimension i
abbrev pub function_at : List ScaleFn → ℕ → ScaleFn
function_at fs i = slice_index_or fs i Id

-- the product of the images of the sides of box v
abbrev pub image_product : PlainInstance → List ScaleFn → ℕ → ℕ
image_product instance fs v =
    product_below (dims instance) (λ i. scale_image (function_at fs i) (container_side instance i) (side instance v i))

-- the product of the wholes
abbrev pub whole_product : PlainInstance → List ScaleFn → ℕ
whole_product instance fs = product_below (dims instance)
    (λ i. scale_whole (function_at fs i) (container_side instance i))

-- one legal function for each dimension
pub record IsTuple (instance : PlainInstance) (fs : List ScaleFn) : Type 0 where
  pub count : length fs ≡ dims instance
  pub legal : (i : ℕ) → i < dims instance → IsLegalScale (function_at fs i) (container_side instance i)

-- no box side exceeds its container side
abbrev pub SidesFit : PlainInstance → Type 0
SidesFit instance = (v i : ℕ) → v < box_count instance → i < dims instance
    → side instance v i ≤ container_side instance i

-- the products of the images are together more than c containers hold
abbrev pub HasExcess : PlainInstance → List ScaleFn → ℕ → Type 0
HasExcess instance fs c =
    c * whole_product instance fs < sum_below (box_count instance) (λ v. image_product instance fs v)

-- The tuple exceeds for c copies: it has one legal function for each dimension, no box side exceeds
-- its container side, and the products of the images are together more than c products of the
-- wholes. It goes by index over boxes and dimensions, so a missing side never counts as 1.
pub record Exceeds (instance : PlainInstance) (fs : List ScaleFn) (c : ℕ) : Type 0 where
  pub tuple : IsTuple instance fs
  pub fit : SidesFit instance
  pub more : HasExcess instance fs c
