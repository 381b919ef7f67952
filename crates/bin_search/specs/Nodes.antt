-- Nodes of a bin tree and their children.
use Rattle.std.specs.Prelude.{ℕ, pred, ◌+◌, ◌<◌, ◌≤◌, ◌≡◌, ◌⊎◌, List, [], ◌∷◌, length, drop, nat_lt, if◌then◌else◌}
use Rattle.std.specs.Prelude.{slice_index_or, Option, Bool, true, false}
use Rattle.std.specs.List.{AllByRecursion, list_any}
use Rattle.packing_terms.specs.Packing.{PlainInstance, IsPacking, box_count}
use Rattle.packing_terms.specs.Rules.{AreBoxes}
use Rattle.packing_terms.specs.Goals.{subset}
use Rattle.packing_terms.specs.OuterRefutation.{Bins, insert_box, has_box}
use Rattle.packing_terms.specs.Rank.{ranked}
use Rattle.tree_terms.specs.Trees.{Yes}
use Rattle.tree_terms.specs.OuterTrees.{set_verdict, with_answer}
use Rattle.packing_terms.specs.Rising.{AreRising}
use Rattle.bin_search.specs.declared.node.Placed.{Placed}
use Rattle.bin_search.specs.declared.node.Change.{Change}
use Rattle.bin_search.specs.Lists.{lists_of, list_before, restored}

-- one child for each used bin, and one for a new bin where fewer than k are used
abbrev pub child_count : ℕ → List (List ℕ) → ℕ
child_count k bins = if nat_lt (length bins) k then length bins + 1 else length bins

-- the first `placed` boxes by rank have bins, at most `k` bins in all: each other box is left, the
-- boxes of each bin rise, and its answer is a packing of them
pub record AreInBins (instance : PlainInstance) (k placed : ℕ) (bins : Bins) (answers : List (List ℕ)) : Type 0 where
  pub there : placed ≤ length (ranked instance)
  pub rest : AreBoxes instance (drop placed (ranked instance))
  pub unplaced : AllByRecursion (λ v. list_any (has_box v) bins ≡ false) (drop placed (ranked instance))
  pub covered : (v : ℕ) → v < box_count instance → (has_box v (drop placed (ranked instance)) ≡ true)
      ⊎ (list_any (has_box v) bins ≡ true)
  pub few : length bins ≤ k
  pub lengths : length answers ≡ length bins
  pub sets : (b : ℕ) → b < length bins → AreBoxes instance (slice_index_or bins b [])
  pub rising : (b : ℕ) → b < length bins → AreRising (slice_index_or bins b [])
  pub packs : (b : ℕ) → b < length bins
      → IsPacking (subset instance (slice_index_or bins b [])) (slice_index_or answers b [])

-- a node, as lists
pub record PlainPlaced : Type 0 where
  pub placed : ℕ
  pub bins : Bins
  pub answers : List (List ℕ)
  pub visited : ℕ

abbrev pub plain_placed : Placed → PlainPlaced
plain_placed c = record {
  placed = c.placed;
  bins = lists_of c.bins.items;
  answers = lists_of c.answers.items;
  visited = c.visited;
}

-- what the step into a child changed: the number of children visited by then, and the changed bin
-- with its answer as they stood before, where the bin isn't new
pub record PlainChange : Type 0 where
  pub visited : ℕ
  pub bin : Option (List ℕ)
  pub answer : Option (List ℕ)

abbrev pub plain_change : Change → PlainChange
plain_change h = record { visited = h.visited; bin = list_before h.bin; answer = list_before h.answer }

-- the node above a child
abbrev pub undone : PlainPlaced → PlainChange → PlainPlaced
undone c h = record {
  placed = pred c.placed;
  bins = restored c.bins (pred h.visited) h.bin;
  answers = restored c.answers (pred h.visited) h.answer;
  visited = h.visited;
}

-- the nodes above, the nearest first, by what each step down from them changed
abbrev pub nodes_above : PlainPlaced → List PlainChange → List PlainPlaced
nodes_above c [] = []
nodes_above c (h ∷ hs) = undone c h ∷ nodes_above (undone c h) hs

-- the box that a node gives a bin
abbrev pub box_of : PlainInstance → PlainPlaced → ℕ
box_of instance c = slice_index_or (ranked instance) c.placed 0

-- the changed bin of the child that comes next
abbrev pub grown_bin : PlainInstance → PlainPlaced → List ℕ
grown_bin instance c = insert_box (box_of instance c) (slice_index_or c.bins c.visited [])

-- the child that comes next is this node: its changed bin has an answer
pub record IsEntered (instance : PlainInstance) (scales : Bool) (c : PlainPlaced) (left : ℕ) (d : PlainPlaced)
    (own : ℕ) : Type 0 where
  pub numbers : List ℕ
  pub cost : ℕ
  pub is : set_verdict instance scales (grown_bin instance c) ≡ Yes numbers cost
  pub counted : own ≡ 1 + cost
  pub within : own ≤ left
  pub packing : IsPacking (subset instance (grown_bin instance c)) numbers
  pub placed : d.placed ≡ c.placed + 1
  pub bins : d.bins ≡ with_answer c.bins c.visited (grown_bin instance c)
  pub answers : d.answers ≡ with_answer c.answers c.visited numbers
  pub fresh : d.visited ≡ 0
