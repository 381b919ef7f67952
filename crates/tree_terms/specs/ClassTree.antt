-- The class tree: the inner search tree with its root's own tests. At the root these are tried in
-- order: a box that is longer than the container, a conflict of the closure, a tuple of scale
-- functions that exceeds. At every other node only the closure is looked at.
use Rattle.std.specs.Prelude.{ℕ, suc, ◌-◌, List, [], ◌∷◌, map, Option, Some, None, Bool, true, false, nat_lt}
use Rattle.std.specs.List.{flat_map, find}
use Rattle.packing_terms.specs.declared.Exclusion.{Exclusion}
use Rattle.packing_terms.specs.declared.ScaleFn.{ScaleFn}
use Rattle.packing_terms.specs.Packing.{PlainInstance, dims, box_count, container_side, side}
use Rattle.packing_terms.specs.Exclusions.{excludes}
use Rattle.packing_terms.specs.Tuples.{first_excess}
use Rattle.packing_terms.specs.Tokens.PlainToken.{Rules, TooLarge, Scales}
use Rattle.packing_terms.specs.Rounds.{closure, has_empty_mask}
use Rattle.packing_terms.specs.Sums.{below}
use Rattle.tree_terms.specs.Trees.{SearchTree, Refuted}
use Rattle.tree_terms.specs.InnerTree.{tree_below}

-- each box with each dimension, the dimensions of box 0 first
abbrev pub box_sides : PlainInstance → List (ℕ × ℕ)
box_sides instance = flat_map (λ v. map (λ i. (v, i)) (below (dims instance))) (below (box_count instance))

-- the first box that is longer than the container, and its first such dimension
abbrev pub first_too_large_box : PlainInstance → Option (ℕ × ℕ)
first_too_large_box instance =
    find (λ p. nat_lt (container_side instance p.1) (side instance p.0 p.1)) (box_sides instance)

-- the first box that is longer than the container in a dimension other than the last, and its first
-- such dimension
abbrev pub first_too_wide : PlainInstance → Option (ℕ × ℕ)
first_too_wide instance =
    find (λ p. nat_lt (container_side instance p.1) (side instance p.0 p.1))
    (flat_map (λ v. map (λ i. (v, i)) (below (dims instance - 1))) (below (box_count instance)))

-- the first tuple of the list that exceeds for `copies` copies, where scales are wanted and no box
-- is longer than the container
abbrev pub exceeding_where : PlainInstance → ℕ → Bool → Option (ℕ × ℕ) → Option (List ScaleFn)
exceeding_where instance copies true None = first_excess instance copies
exceeding_where instance copies _ _ = None

-- the first exceeding tuple for `copies` copies, with or without scales
abbrev pub first_exceeding : PlainInstance → ℕ → Bool → Option (List ScaleFn)
first_exceeding instance copies scales = exceeding_where instance copies scales (first_too_large_box instance)

-- the test of the scales comes after that of the closure, and isn't made where that has a conflict
abbrev pub scales_after : PlainInstance → Bool → Bool → Option (List ScaleFn)
scales_after instance scales true = None
scales_after instance scales false = first_exceeding instance 1 scales

-- the root, by its first large side, whether its closure has a conflict, and its first exceeding
-- tuple
abbrev pub root_of : Option (ℕ × ℕ) → Bool → Option (List ScaleFn) → SearchTree → SearchTree
root_of (Some p) conflict exceeding tree = Refuted (TooLarge (suc p.0) (suc p.1) ∷ []) 0
root_of None true exceeding tree = Refuted (Rules ∷ []) 0
root_of None false (Some fs) tree = Refuted (Scales fs ∷ []) 0
root_of None false None tree = tree

-- whether the closure of the exclusions of a list has a conflict
abbrev pub has_closure_conflict : PlainInstance → List Exclusion → Bool
has_closure_conflict instance es = has_empty_mask (excludes (closure instance es)) (dims instance) (box_count instance)

-- the tree of an instance whose root holds the given exclusions, with or without scales
abbrev pub class_tree : PlainInstance → List Exclusion → Bool → SearchTree
class_tree instance es scales =
    root_of (first_too_large_box instance) (has_closure_conflict instance es)
    (scales_after instance scales (has_closure_conflict instance es))
    (tree_below instance es)
