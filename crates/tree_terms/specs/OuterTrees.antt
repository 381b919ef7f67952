-- The outer search trees: the bin tree, which gives bins to the boxes by rank, and the choice tree,
-- which takes boxes in or leaves them out. Each child whose set of boxes changed decides that set
-- by its class tree, and counts 1 and what that decision cost.
--
--     bin tree for 2 bins          choice tree
--       b 1                          c 1
--       `-- {1}                      |-- in:  the boxes that are in are decided
--           b 2                      `-- out
--           |-- {1, 2}
--           `-- {1} {2}
use Rattle.std.specs.Prelude.{ℕ, zero, suc, ◌+◌, ◌*◌, ◌==◌, List, [], ◌∷◌, length, map, Option, Some, None, Bool, true}
use Rattle.std.specs.Prelude.{false, nat_lt, nat_le, slice_index, slice_index_or}
use Rattle.std.specs.List.{flat_map, position_or_len}
use Rattle.packing_terms.specs.declared.ScaleFn.{ScaleFn}
use Rattle.packing_terms.specs.Packing.{PlainInstance, dims, box_count}
use Rattle.packing_terms.specs.Goals.{subset, worth}
use Rattle.packing_terms.specs.Tokens.PlainToken.{Assign, Choose, SetRefuted, ValueShort, GlobalScales}
use Rattle.packing_terms.specs.OuterRefutation.{Bins, insert_box, has_box, placements}
use Rattle.packing_terms.specs.Sums.{below}
use Rattle.tree_terms.specs.Trees.{SearchTree, Settled, Refuted, Split, Verdict, Yes, No, outcome}
use Rattle.packing_terms.specs.Rank.{ranked}
use Rattle.tree_terms.specs.ClassTree.{class_tree, first_exceeding}

-- the verdict on a set of boxes
abbrev pub set_verdict : PlainInstance → Bool → List ℕ → Verdict
set_verdict instance scales keep = outcome (class_tree (subset instance keep) [] scales)

-- a bin's new answer in the place of its old one, or behind the others where the bin is new
abbrev pub with_answer : List (List ℕ) → ℕ → List ℕ → List (List ℕ)
with_answer [] b numbers = numbers ∷ []
with_answer (a ∷ answers) zero numbers = numbers ∷ answers
with_answer (a ∷ answers) (suc b) numbers = a ∷ with_answer answers b numbers

-- the coordinates of the box at an index of a set, from the answer of the set's tree
abbrev pub coordinates_at : ℕ → List ℕ → ℕ → List ℕ
coordinates_at d numbers k = map (λ i. slice_index numbers (k * d + i)) (below d)

-- The answer of the bin tree: of each box, by rising number, its bin, counted from 0, and its
-- coordinates in the answer of that bin.
abbrev pub bin_numbers : PlainInstance → Bins → List (List ℕ) → List ℕ
bin_numbers instance bins answers =
    flat_map (λ v. let b = position_or_len (has_box v) bins in
    b ∷ coordinates_at (dims instance) (slice_index_or answers b [])
    (position_or_len (λ u. u == v) (slice_index_or bins b [])))
    (below (box_count instance))

-- a child by the verdict on its changed bin: `rest` is the child with that bin's answer and its own
-- count
abbrev pub bin_child : ℕ → Verdict → (List ℕ → ℕ → SearchTree) → SearchTree
bin_child b (Yes numbers count) rest = rest numbers (1 + count)
bin_child b (No tokens count) rest = Refuted (SetRefuted (Some (suc b)) ∷ tokens) (1 + count)

-- The node with these boxes left, by rank, these bins with the answers of their trees, and this own
-- count. Child b changes bin b.
abbrev pub bin_node : PlainInstance → Bool → ℕ → List ℕ → Bins → List (List ℕ) → ℕ → SearchTree
bin_node instance scales k [] bins answers own = Settled (bin_numbers instance bins answers) own
bin_node instance scales k (v ∷ vs) bins answers own =
    Split (Assign (suc v)) own (length (placements k bins v)) (λ b.
    let next = slice_index_or (placements k bins v) b [] in
    bin_child b (set_verdict instance scales (slice_index_or next b []))
    (λ numbers count. bin_node instance scales k vs next (with_answer answers b numbers) count))

-- the root, by the first tuple that exceeds for as many copies as there are bins
abbrev pub bin_root : Option (List ScaleFn) → SearchTree → SearchTree
bin_root (Some fs) tree = Refuted (GlobalScales fs ∷ []) 0
bin_root None tree = tree

-- the bin tree for k bins
abbrev pub bin_tree : PlainInstance → ℕ → Bool → SearchTree
bin_tree instance k scales = bin_root (first_exceeding instance k scales)
    (bin_node instance scales k (ranked instance) [] [] 0)

-- The answer of the choice tree: of each box that is in, by rising number, that number, counted
-- from 0, and its coordinates.
abbrev pub choice_numbers : PlainInstance → List ℕ → List ℕ → List ℕ
choice_numbers instance taken numbers =
    flat_map (λ k. slice_index taken k ∷ coordinates_at (dims instance) numbers k) (below (length taken))

-- a child by the verdict on the boxes that are in
abbrev pub taken_child : Verdict → (List ℕ → ℕ → SearchTree) → SearchTree
taken_child (Yes numbers count) rest = rest numbers (1 + count)
taken_child (No tokens count) rest = Refuted (SetRefuted None ∷ tokens) (1 + count)

-- a node, by whether what is in reaches the goal, and whether all that may still be in falls short
-- of it
abbrev pub choice_of : Bool → Bool → List ℕ → ℕ → SearchTree → SearchTree
choice_of true short numbers own split = Settled numbers own
choice_of false true numbers own split = Refuted (ValueShort ∷ []) own
choice_of false false numbers own split = split

-- whether what is in is worth the goal
abbrev pub is_reached : PlainInstance → ℕ → List ℕ → Bool
is_reached instance goal taken = nat_le goal (worth instance taken)

-- whether what is in, with the boxes that are left, is worth less than the goal
abbrev pub is_short : PlainInstance → ℕ → List ℕ → List ℕ → Bool
is_short instance goal taken rest = nat_lt (worth instance taken + worth instance rest) goal

-- The node with these boxes left, by rank, these that are in with the answer of their tree, and
-- this own count. Its children are in, then out.
abbrev pub choice_node : PlainInstance → Bool → ℕ → List ℕ → List ℕ → List ℕ → ℕ → SearchTree
choice_node instance scales goal [] taken numbers own =
    choice_of (is_reached instance goal taken) true (choice_numbers instance taken numbers) own
    (Refuted (ValueShort ∷ []) own)
choice_node instance scales goal (v ∷ vs) taken numbers own =
    choice_of (is_reached instance goal taken) (is_short instance goal taken (v ∷ vs))
    (choice_numbers instance taken numbers) own
    (Split (Choose (suc v)) own 2 (λ k. elim k [
      | zero ↦ taken_child (set_verdict instance scales (insert_box v taken))
          (λ ns count. choice_node instance scales goal vs (insert_box v taken) ns count)
      | suc _ ↦ choice_node instance scales goal vs taken numbers 1
    ]))

-- the choice tree for a value
abbrev pub choice_tree : PlainInstance → ℕ → Bool → SearchTree
choice_tree instance goal scales = choice_node instance scales goal (ranked instance) [] [] 0

-- the answer of a yes
abbrev pub yes_numbers : Verdict → List ℕ
yes_numbers (Yes numbers count) = numbers
yes_numbers (No tokens count) = []

-- The answer for bins, read off the bins: the coordinates of a box are those in the answer of the
-- inner tree of its bin's set.
abbrev pub bin_answer_of : PlainInstance → Bool → Bins → List ℕ
bin_answer_of instance scales bins =
    bin_numbers instance bins (map (λ set. yes_numbers (set_verdict instance scales set)) bins)

-- the answer for a value, read off the boxes that are in: their coordinates are those in the answer
-- of their set's inner tree
abbrev pub choice_answer_of : PlainInstance → Bool → List ℕ → List ℕ
choice_answer_of instance scales taken = choice_numbers instance taken (yes_numbers (set_verdict instance scales taken))
