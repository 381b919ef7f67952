-- What the outer trees are for: a bin tree searches for a packing in k bins, a choice tree for a
-- set of boxes of a value. And how their answers, which are flat lists of numbers, are read.
use Rattle.std.specs.Prelude.{ℕ, pred, ◌+◌, ◌*◌, ◌<◌, ◌≤◌, ◌≡◌, List, [], ◌∷◌, length, map, slice_index, slice_index_or}
use Rattle.std.specs.List.{flat_map}
use Rattle.packing_terms.specs.Packing.{PlainInstance, IsPacking, dims, box_count}
use Rattle.packing_terms.specs.Goals.{subset, worth, IsBinPacking, IsBoxSet}
use Rattle.packing_terms.specs.Tokens.PlainToken.{Assign, Choose}
use Rattle.packing_terms.specs.OuterRefutation.{Bins, IsUnplaced, placements, RefutesBins, Choice, IsOpenBox}
use Rattle.packing_terms.specs.OuterRefutation.{with_taken, with_left, RefutesValue}
use Rattle.packing_terms.specs.Sums.{below}
use Rattle.tree_terms.specs.Trees.{SearchTree, Settled, Refuted, Split, Verdict, Yes, No}
use Rattle.tree_terms.specs.OuterTrees.{choice_numbers}

-- the bin of each box in an answer for bins, in which each box has its bin and then its coordinates
abbrev pub bins_in : PlainInstance → List ℕ → List ℕ
bins_in instance numbers = map (λ v. slice_index numbers (v * (dims instance + 1))) (below (box_count instance))

-- the coordinates of each box in such an answer
abbrev pub places_in : PlainInstance → List ℕ → List ℕ
places_in instance numbers =
    flat_map (λ v. map (λ i. slice_index numbers (v * (dims instance + 1) + (1 + i))) (below (dims instance)))
    (below (box_count instance))

-- the numbers give each box a bin below k and coordinates, such that the boxes of each bin are a
-- packing
pub record AreBinNumbers (instance : PlainInstance) (k : ℕ) (numbers : List ℕ) : Type 0 where
  pub count : length numbers ≡ box_count instance * (dims instance + 1)
  pub packing : IsBinPacking instance k (bins_in instance numbers) (places_in instance numbers)

-- the numbers are those of a set of boxes of at least this value with the coordinates of a packing
pub record AreTakenNumbers (instance : PlainInstance) (goal : ℕ) (numbers : List ℕ) : Type 0 where
  pub taken : List ℕ
  pub places : List ℕ
  pub set : IsBoxSet instance taken
  pub reached : goal ≤ worth instance taken
  pub packing : IsPacking (subset instance taken) places
  pub written : numbers ≡ choice_numbers instance taken places

-- Settled nodes have packings in k bins, refuted ones refutations, and each split is one that a
-- refutation accepts, with the children it has there.
abbrev pub IsBinSearch : PlainInstance → ℕ → Bins → SearchTree → Type 0
IsBinSearch instance k bins (Settled numbers own) = AreBinNumbers instance k numbers
IsBinSearch instance k bins (Refuted tokens own) = RefutesBins instance k (bins ∷ []) tokens
IsBinSearch instance k bins (Split token own n child) =
    (v : ℕ) × (token ≡ Assign v) × IsUnplaced instance bins v × (n ≡ length (placements k bins (pred v)))
    × ((b : ℕ) → b < n → IsBinSearch instance k (slice_index_or (placements k bins (pred v)) b []) (child b))

-- a yes has a packing in k bins, and a no refutes the node
abbrev pub IsBinRight : PlainInstance → ℕ → Bins → Verdict → Type 0
IsBinRight instance k bins (Yes numbers count) = AreBinNumbers instance k numbers
IsBinRight instance k bins (No tokens count) = RefutesBins instance k (bins ∷ []) tokens

-- Settled nodes have sets of the value that fit, refuted ones refutations, and each split is one
-- that a refutation accepts, with its children there.
abbrev pub IsChoiceSearch : PlainInstance → ℕ → Choice → SearchTree → Type 0
IsChoiceSearch instance goal c (Settled numbers own) = AreTakenNumbers instance goal numbers
IsChoiceSearch instance goal c (Refuted tokens own) = RefutesValue instance goal (c ∷ []) tokens
IsChoiceSearch instance goal c (Split token own n child) =
    (v : ℕ) × (token ≡ Choose v) × IsOpenBox instance c v × (n ≡ 2)
    × IsChoiceSearch instance goal (with_taken c (pred v)) (child 0)
    × IsChoiceSearch instance goal (with_left c (pred v)) (child 1)

-- a yes has a set of the value that fits, and a no refutes the node
abbrev pub IsChoiceRight : PlainInstance → ℕ → Choice → Verdict → Type 0
IsChoiceRight instance goal c (Yes numbers count) = AreTakenNumbers instance goal numbers
IsChoiceRight instance goal c (No tokens count) = RefutesValue instance goal (c ∷ []) tokens
