-- The list of tuples that are tried, in its order.
--
-- The functions of dimension i are id; step 1 to step 4; cut e for each e of E, rising; count e for
-- each e of E, rising. E has the box sides in that dimension of which two fit in W, and half of W
-- rounded down where that is at least 1. The list of tuples has every choice with at most two
-- functions other than id; the function of dimension 0 varies fastest, then that of dimension 1,
-- and so on.
use Rattle.std.specs.Prelude.{ℕ, zero, suc, ◌+◌, ◌-◌, ◌*◌, ◌/◌, ◌==◌, ◌||◌, List, [], ◌∷◌, ◌++◌, map, Option, Bool}
use Rattle.std.specs.Prelude.{true, false, nat_lt, nat_le}
use Rattle.std.specs.List.{filter, flat_map, range_with_len, find, count_by}
use Rattle.packing_terms.specs.declared.ScaleFn.{ScaleFn}
use Rattle.packing_terms.specs.declared.ScaleFn.TheVariants.{Id, Step, Cut, Count}
use Rattle.packing_terms.specs.Packing.{PlainInstance, dims, box_count, container_side, side}
use Rattle.packing_terms.specs.Scales.{image_product, whole_product}
use Rattle.packing_terms.specs.Sums.{sum_below}

-- whether f 0 or .. or f (n - 1)
abbrev pub any_below : ℕ → (ℕ → Bool) → Bool
any_below zero f = false
any_below (suc n) f = any_below n f || f n

-- half of the container's side, rounded down, or the side of a box
abbrev pub is_threshold : PlainInstance → ℕ → ℕ → Bool
is_threshold instance i e = (e == container_side instance i / 2)
    || any_below (box_count instance) (λ v. side instance v i == e)

-- those above the given number and up to half of the container's side, rising
abbrev pub thresholds_above : PlainInstance → ℕ → ℕ → List ℕ
thresholds_above instance i low =
    filter (λ e. is_threshold instance i e) (range_with_len (low + 1) (container_side instance i / 2 - low))

-- the functions that stand after the given one in the list of dimension i
abbrev pub functions_after : PlainInstance → ℕ → ScaleFn → List ScaleFn
functions_after instance i Id =
    map (λ k. Step k) (range_with_len 1 4) ++ map (λ e. Cut e) (thresholds_above instance i 0)
    ++ map (λ e. Count e) (thresholds_above instance i 0)
functions_after instance i (Step k) =
    map (λ k. Step k) (range_with_len (k + 1) (4 - k)) ++ map (λ e. Cut e) (thresholds_above instance i 0)
    ++ map (λ e. Count e) (thresholds_above instance i 0)
functions_after instance i (Cut e) =
    map (λ e. Cut e) (thresholds_above instance i e) ++ map (λ e. Count e) (thresholds_above instance i 0)
functions_after instance i (Count e) = map (λ e. Count e) (thresholds_above instance i e)

-- the functions of dimension i, in their order
abbrev pub functions_of : PlainInstance → ℕ → List ScaleFn
functions_of instance i = Id ∷ functions_after instance i Id

-- every choice for the dimensions below i, that of dimension 0 varying fastest, before the given
-- functions
abbrev pub choices : PlainInstance → ℕ → List ScaleFn → List (List ScaleFn)
choices instance zero rest = rest ∷ []
choices instance (suc i) rest = flat_map (λ f. choices instance i (f ∷ rest)) (functions_of instance i)

-- whether the function isn't id
abbrev pub is_other_function : ScaleFn → Bool
is_other_function Id = false
is_other_function _ = true

-- the list of tuples: every choice with at most two functions other than id
abbrev pub tuples : PlainInstance → List (List ScaleFn)
tuples instance = filter (λ t. nat_le (count_by is_other_function t) 2) (choices instance (dims instance) [])

-- whether the products of the images are more than c products of the wholes
abbrev pub has_excess : PlainInstance → ℕ → List ScaleFn → Bool
has_excess instance c fs = nat_lt (c * whole_product instance fs)
    (sum_below (box_count instance) (λ v. image_product instance fs v))

-- the first tuple of the list with excess for c copies
abbrev pub first_excess : PlainInstance → ℕ → Option (List ScaleFn)
first_excess instance c = find (λ t. has_excess instance c t) (tuples instance)
