-- Nodes of a bin tree by their paths, and the answers of their bins.
use Rattle.std.specs.Prelude.{ℕ, ◌+◌, ◌-◌, ◌*◌, ◌<◌, ◌≤◌, ◌≡◌, ◌==◌, List, [], ◌∷◌, length, map, take, drop}
use Rattle.std.specs.Prelude.{slice_index_or, Option, Some, Bool}
use Rattle.std.specs.List.{position_or_len}
use Rattle.packing_terms.specs.Packing.{PlainInstance, dims, box_count}
use Rattle.packing_terms.specs.OuterRefutation.{Bins, insert_box, has_box, placements}
use Rattle.packing_terms.specs.Rank.{ranked}
use Rattle.tree_terms.specs.Trees.{SearchTree}
use Rattle.tree_terms.specs.OuterTrees.{set_verdict, yes_numbers, with_answer, bin_child, bin_node}
use Rattle.set_search.specs.Children.{IsFoundSet}
use Rattle.bin_search.specs.Nodes.{AreInBins}
use Rattle.bin_search.specs.Trees.{PlainBinTree}

-- each box is in one of the bins, and the answer of that bin has its coordinates
abbrev pub HasAnswers : PlainInstance → Bins → List (List ℕ) → Type 0
HasAnswers instance bins answers = (v : ℕ) → v < box_count instance → (b : ℕ) → b ≡ position_or_len (has_box v) bins
    → (b < length bins) × (b < length answers) × (length bins ≤ 128)
    × ((position_or_len (λ u. u == v) (slice_index_or bins b []) + 1) * dims instance ≤ length
    (slice_index_or answers b []))

-- the box that comes next
abbrev pub box_at : PlainInstance → ℕ → ℕ
box_at instance placed = slice_index_or (ranked instance) placed 0

-- a bin with one box more, where a new bin stands behind the used ones
abbrev pub grown : Bins → ℕ → ℕ → List ℕ
grown bins v b = insert_box v (slice_index_or bins b [])

-- the used bins at the end of a path, from a node with these bins and these boxes left, by rank
abbrev pub bins_along : Bins → List ℕ → List ℕ → Bins
bins_along bins rest [] = bins
bins_along bins [] (b ∷ path) = bins
bins_along bins (v ∷ vs) (b ∷ path) = bins_along (with_answer bins b (grown bins v b)) vs path

-- the answers of the class trees of some sets
abbrev pub answers_of : PlainInstance → Bool → Bins → List (List ℕ)
answers_of instance scales sets = map (λ set. yes_numbers (set_verdict instance scales set)) sets

-- each of the sets is found to fit within the greatest budget
abbrev pub AreFound : PlainInstance → Bool → Bins → Type 0
AreFound instance scales sets = (b : ℕ) → b < length sets → IsFoundSet instance scales (slice_index_or sets b [])

-- a node with a box left, as the splits above a path's end are
pub record IsAbove (t : PlainBinTree) (placed : ℕ) (bins : Bins) : Type 0 where
  pub there : placed < length (ranked t.instance)
  pub node : AreInBins t.instance t.bins placed bins (answers_of t.instance t.scales bins)
  pub found : AreFound t.instance t.scales bins

-- a child of such a node
abbrev pub child_tree : PlainBinTree → ℕ → Bins → ℕ → SearchTree
child_tree t placed bins b =
    bin_child b (set_verdict t.instance t.scales (grown bins (box_at t.instance placed) b))
    (λ numbers count. bin_node t.instance t.scales t.bins (drop (placed + 1) (ranked t.instance))
    (with_answer bins b (grown bins (box_at t.instance placed) b))
    (with_answer (answers_of t.instance t.scales bins) b numbers) count)

-- the node at the end of a path is this child of a node with a box left
pub record IsChildStep (t : PlainBinTree) (placed : ℕ) (bins : Bins) (b : ℕ) (node : Option SearchTree) : Type 0 where
  pub above : IsAbove t placed bins
  pub near : b < length (placements t.bins bins (box_at t.instance placed))
  pub is : node ≡ Some (child_tree t placed bins b)

-- the last step of a path: the position of its box by rank, the bins before it, and the number of
-- the child
pub record IsLastStep (order path : List ℕ) (placed : ℕ) (bins : Bins) (b : ℕ) : Type 0 where
  pub position : placed ≡ length path - 1
  pub before : bins ≡ bins_along [] order (take (length path - 1) path)
  pub last : b ≡ slice_index_or path (length path - 1) 0
