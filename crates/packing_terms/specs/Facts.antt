-- The symmetry facts of an instance: exclusions that some packing respects, wherever there is a
-- packing. Each says that box v, the one of the greater number, doesn't end before box u begins.
--
--     mirrored in one dimension a packing is a packing:     u . . v    v . . u
--     and so it is where two boxes of equal sides, twins, change places
--
-- Twins can be sorted by their coordinate in the first dimension, once that dimension was mirrored
-- for two boxes without a twin; then each further dimension can be mirrored (law
-- `facts_keep_an_answer`).
use Rattle.std.specs.Prelude.{ℕ, suc, ◌-◌, ◌&&◌, ◌==◌, not, List, [], ◌∷◌, ◌++◌, Bool, map, Option, Some, None}
use Rattle.std.specs.List.{list_any, list_all, filter, flat_map, range_with_len}
use Rattle.packing_terms.specs.declared.Rel.TheVariants.{After}
use Rattle.packing_terms.specs.declared.Exclusion.{Exclusion}
use Rattle.packing_terms.specs.Packing.{PlainInstance, dims, box_count, written_side}
use Rattle.packing_terms.specs.Exclusions.{exclusion_at}
use Rattle.packing_terms.specs.Sums.{below}
use Rattle.packing_terms.specs.Rank.{ranked, in_order}

-- two boxes have equal written sides
abbrev pub have_equal_sides : PlainInstance → ℕ → ℕ → Bool
have_equal_sides instance u v =
    list_all (λ i. written_side instance u i == written_side instance v i) (below (dims instance))

-- another box has equal written sides: it is a twin
abbrev pub is_twin_of : PlainInstance → ℕ → ℕ → Bool
is_twin_of instance v u = not (u == v) && have_equal_sides instance v u

abbrev pub has_twin : PlainInstance → ℕ → Bool
has_twin instance v = list_any (is_twin_of instance v) (below (box_count instance))

-- the boxes without a twin, by rank
abbrev pub single_boxes : PlainInstance → List ℕ
single_boxes instance = filter (λ v. not (has_twin instance v)) (ranked instance)

-- the first two boxes of a list, the lower number first
abbrev pub first_two : List ℕ → Option (ℕ × ℕ)
first_two [] = None
first_two (u ∷ []) = None
first_two (u ∷ v ∷ vs) = Some (in_order u v)

-- in dimension i, the first box of the pair doesn't come after the second
abbrev pub not_after : ℕ → ℕ × ℕ → Exclusion
not_after i p = exclusion_at i p.0 p.1 After

-- the same in each dimension of a list, of a pair that may be there
abbrev pub not_after_in : List ℕ → Option (ℕ × ℕ) → List Exclusion
not_after_in is None = []
not_after_in is (Some p) = map (λ i. not_after i p) is

-- box u and each of its twins of a greater number, in the first dimension
abbrev pub twin_facts : PlainInstance → ℕ → List Exclusion
twin_facts instance u =
    map (λ v. not_after 0 (u, v)) (filter (λ v. have_equal_sides instance u v)
    (range_with_len (suc u) (box_count instance - suc u)))

-- In this order: all twins, in the first dimension; the first two boxes by rank that have no twin,
-- in the first dimension; the first two boxes by rank, in each other dimension.
abbrev pub symmetry_facts : PlainInstance → List Exclusion
symmetry_facts instance =
    flat_map (twin_facts instance) (below (box_count instance))
    ++ not_after_in (0 ∷ []) (first_two (single_boxes instance))
    ++ not_after_in (range_with_len 1 (dims instance - 1)) (first_two (ranked instance))
