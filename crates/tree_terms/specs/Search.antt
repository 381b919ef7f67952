-- What the class tree is for: a tree that searches for a packing of an instance that respects a set
-- of exclusions.
use Rattle.std.specs.Prelude.{ℕ, ◌<◌, ◌≡◌, List, [], length, slice_index_or}
use Rattle.packing_terms.specs.declared.Exclusion.{Exclusion}
use Rattle.packing_terms.specs.Packing.{PlainInstance, IsPacking}
use Rattle.packing_terms.specs.Refutation.{Refutes}
use Rattle.packing_terms.specs.Feeding.{Accepts, children}
use Rattle.tree_terms.specs.Trees.{SearchTree, Settled, Refuted, Split, Verdict, Yes, No}

-- Settled nodes have packings, refuted nodes have refutations, and each split is one that a
-- refutation accepts, with the children that it has there.
abbrev pub IsSearch : PlainInstance → List Exclusion → SearchTree → Type 0
IsSearch instance es (Settled places own) = IsPacking instance places
IsSearch instance es (Refuted tokens own) = Refutes instance es tokens
IsSearch instance es (Split token own n child) =
    Accepts instance es token × (n ≡ length (children es token))
    × ((k : ℕ) → k < n → IsSearch instance (slice_index_or (children es token) k []) (child k))

-- a yes has a packing, and a no refutes the instance under the exclusions
abbrev pub IsRightUnder : PlainInstance → List Exclusion → Verdict → Type 0
IsRightUnder instance es (Yes places count) = IsPacking instance places
IsRightUnder instance es (No tokens count) = Refutes instance es tokens

-- the verdict is yes
abbrev pub IsYesVerdict : Verdict → Type 0
IsYesVerdict (Yes numbers count) = Unit {0}
IsYesVerdict (No tokens count) = ⊥
