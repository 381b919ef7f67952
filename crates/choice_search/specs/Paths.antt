-- Nodes of a choice tree by their paths.
use Rattle.std.specs.Prelude.{ℕ, zero, suc, ◌+◌, ◌<◌, List, [], ◌∷◌, length, drop, slice_index_or, Bool}
use Rattle.packing_terms.specs.Packing.{PlainInstance}
use Rattle.packing_terms.specs.OuterRefutation.{insert_box}
use Rattle.packing_terms.specs.Rank.{ranked}
use Rattle.tree_terms.specs.Trees.{SearchTree}
use Rattle.tree_terms.specs.OuterTrees.{set_verdict, yes_numbers, taken_child, choice_node}
use Rattle.set_search.specs.Children.{IsFound}
use Rattle.choice_search.specs.Choices.{PlainChoiceTree, IsChosen}

-- the boxes that are in at the end of a path, from a node with these in and these left, by rank
abbrev pub taken_along : List ℕ → List ℕ → List ℕ → List ℕ
taken_along taken rest [] = taken
taken_along taken [] (k ∷ path) = taken
taken_along taken (v ∷ vs) (zero ∷ path) = taken_along (insert_box v taken) vs path
taken_along taken (v ∷ vs) (suc k ∷ path) = taken_along taken vs path

-- the answer of the class tree of the boxes that are in
abbrev pub class_answer : PlainInstance → Bool → List ℕ → List ℕ
class_answer instance scales [] = []
class_answer instance scales (v ∷ vs) = yes_numbers (set_verdict instance scales (v ∷ vs))

-- the boxes that are in were found to fit within the greatest budget, or there is none
abbrev pub AreFitting : PlainInstance → Bool → List ℕ → Type 0
AreFitting instance scales [] = Unit {0}
AreFitting instance scales (v ∷ vs) = IsFound (set_verdict instance scales (v ∷ vs))

-- a node with a box left, as the splits above a path's end are
pub record IsAbove (instance : PlainInstance) (scales : Bool) (decided : ℕ) (taken : List ℕ) : Type 0 where
  pub there : decided < length (ranked instance)
  pub chosen : IsChosen instance decided taken (class_answer instance scales taken)
  pub fitting : AreFitting instance scales taken

-- the box that comes next
abbrev pub box_at : PlainInstance → ℕ → ℕ
box_at instance decided = slice_index_or (ranked instance) decided 0

-- the children of such a node: the first has the box that comes next in, the second has it out
abbrev pub child_tree : PlainChoiceTree → ℕ → List ℕ → ℕ → SearchTree
child_tree t decided taken zero =
    taken_child (set_verdict t.instance t.scales (insert_box (box_at t.instance decided) taken))
    (λ numbers count. choice_node t.instance t.scales t.goal
    (drop (decided + 1) (ranked t.instance)) (insert_box (box_at t.instance decided) taken) numbers count)
child_tree t decided taken (suc k) =
    choice_node t.instance t.scales t.goal (drop (decided + 1) (ranked t.instance)) taken
    (class_answer t.instance t.scales taken) 1
