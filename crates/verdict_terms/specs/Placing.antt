-- How places are tested: first whether each box lies within the container, and only then whether
-- each two boxes are apart by the kerf.
use Rattle.std.specs.Prelude.{ℕ, ◌+◌, ◌-◌, List, map, Bool, not, ◌||◌, Option, Some, None, nat_lt, nat_le}
use Rattle.std.specs.List.{find, flat_map, list_any, range_with_len}
use Rattle.packing_terms.specs.Packing.{PlainInstance, dims, box_count, kerf, written_container, written_side, place}
use Rattle.verdict_terms.specs.declared.check_answers.PlaceVerdict.{PlaceVerdict}
use Rattle.verdict_terms.specs.declared.check_answers.PlaceVerdict.TheVariants.{Good, Outside, Overlap}

-- each box with each dimension, the dimensions of box 0 first
abbrev pub box_dims : PlainInstance → List (ℕ × ℕ)
box_dims instance = flat_map (λ v. map (λ i. (v, i)) (range_with_len 0 (dims instance)))
    (range_with_len 0 (box_count instance))

-- each two boxes, the lower number first, by the first box and then by the second
abbrev pub box_pairs : PlainInstance → List (ℕ × ℕ)
box_pairs instance =
    flat_map (λ u. map (λ v. (u, v)) (range_with_len (u + 1) (box_count instance - (u + 1))))
    (range_with_len 0 (box_count instance))

-- whether the box leaves the container in the dimension
abbrev pub leaves : PlainInstance → List ℕ → ℕ × ℕ → Bool
leaves instance places p = nat_lt (written_container instance p.1)
    (place instance places p.0 p.1 + written_side instance p.0 p.1)

-- whether in the dimension one of the boxes ends at least the kerf before the start of the other
abbrev pub is_apart_in : PlainInstance → List ℕ → ℕ × ℕ → ℕ → Bool
is_apart_in instance places p i =
    nat_le (place instance places p.0 i + written_side instance p.0 i + kerf instance i) (place instance places p.1 i)
    || nat_le (place instance places p.1 i + written_side instance p.1 i + kerf instance i)
    (place instance places p.0 i)

-- whether the boxes are apart in no dimension
abbrev pub overlaps : PlainInstance → List ℕ → ℕ × ℕ → Bool
overlaps instance places p = not (list_any (is_apart_in instance places p) (range_with_len 0 (dims instance)))

-- the verdict, by the first box and dimension that leaves the container, and by the first pair that
-- overlaps
abbrev pub verdict_by : Option (ℕ × ℕ) → Option (ℕ × ℕ) → PlaceVerdict
verdict_by (Some p) q = Outside p.0 p.1
verdict_by None (Some q) = Overlap q.0 q.1
verdict_by None None = Good

-- what the places are found to be
abbrev pub place_verdict : PlainInstance → List ℕ → PlaceVerdict
place_verdict instance places =
    verdict_by (find (leaves instance places) (box_dims instance))
    (find (overlaps instance places) (box_pairs instance))
