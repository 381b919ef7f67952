-- The kind of a node whose state was closed, and what is known of it.
use Rattle.std.specs.Prelude.{ℕ, ◌<◌, ◌≡◌, List, [], ◌∷◌, ◌++◌, length, false}
use Rattle.packing_terms.specs.declared.Exclusion.{Exclusion}
use Rattle.packing_terms.specs.Packing.{PlainInstance, dims, box_count}
use Rattle.packing_terms.specs.Exclusions.{excludes}
use Rattle.packing_terms.specs.Closure.{IsStable}
use Rattle.packing_terms.specs.Tokens.PlainToken.{Rules}
use Rattle.packing_terms.specs.Places.{HasNoEmptyMask}
use Rattle.tree_terms.specs.Trees.{SearchTree, Settled as SettledTree, Refuted}
use Rattle.packing_terms.specs.Rank.{ranked_pairs}
use Rattle.tree_terms.specs.InnerTree.{is_settled, settled_places, split_at, split_tree, tree_below}
use Rattle.class_search.specs.declared.splits.Split.{Split}
use Rattle.class_search.specs.declared.visit.NodeKind.{NodeKind}
use Rattle.class_search.specs.declared.visit.NodeKind.TheVariants.{Conflict, Settled, Divided}
use Rattle.class_search.specs.Settling.{pair_at, AreSettledBefore}
use Rattle.class_search.specs.Splits.{plain_split, IsSplitAmong}

-- exclusions came on top
pub record Grows (old new : List Exclusion) : Type 0 where
  pub more : List Exclusion
  pub grown : new ≡ more ++ old

-- no rule adds to the exclusions, and no mask is empty
pub record IsConsistent (instance : PlainInstance) (es : List Exclusion) : Type 0 where
  pub stable : IsStable instance (excludes es)
  pub full : HasNoEmptyMask instance (excludes es)

-- the pair at rank k is the first that isn't settled, and this is its split
pub record IsNextSplit (instance : PlainInstance) (es : List Exclusion) (s : Split) (k : ℕ) : Type 0 where
  pub there : k < length (ranked_pairs instance)
  pub before : AreSettledBefore (excludes es) (dims instance) (ranked_pairs instance) k
  pub unsettled : is_settled (excludes es) (dims instance) (pair_at (ranked_pairs instance) k) ≡ false
  pub is : plain_split s ≡ split_at instance (excludes es) (pair_at (ranked_pairs instance) k)
  pub among : IsSplitAmong (dims instance) (box_count instance) s

-- each pair is settled, or the first that isn't is split
abbrev pub IsNextPair : PlainInstance → List Exclusion → NodeKind → Type 0
IsNextPair instance es Conflict = ⊥
IsNextPair instance es Settled =
    AreSettledBefore (excludes es) (dims instance) (ranked_pairs instance) (length (ranked_pairs instance))
IsNextPair instance es (Divided s k) = IsNextSplit instance es s k

-- the tree of a node of this kind, whose closed state has these exclusions
abbrev pub kind_tree : PlainInstance → List Exclusion → NodeKind → SearchTree
kind_tree instance es Conflict = Refuted (Rules ∷ []) 0
kind_tree instance es Settled = SettledTree (settled_places instance (excludes es)) 0
kind_tree instance es (Divided s k) = split_tree (plain_split s) (λ add. tree_below instance (add ++ es))

-- a closed state in which each pair is settled
pub record IsSettledLeaf (instance : PlainInstance) (es : List Exclusion) : Type 0 where
  pub no_conflict : IsConsistent instance es
  pub settled : AreSettledBefore (excludes es) (dims instance) (ranked_pairs instance) (length (ranked_pairs instance))

-- a closed state that is split so
pub record IsDivided (instance : PlainInstance) (es : List Exclusion) (s : Split) (k : ℕ) : Type 0 where
  pub no_conflict : IsConsistent instance es
  pub split : IsNextSplit instance es s k

-- what is known of a node of this kind
abbrev pub IsKind : PlainInstance → List Exclusion → NodeKind → Type 0
IsKind instance es Conflict = Unit {0}
IsKind instance es Settled = IsSettledLeaf instance es
IsKind instance es (Divided s k) = IsDivided instance es s k

-- the node of the old exclusions is of this kind, and the new ones are those of its closed state
pub record IsMet (instance : PlainInstance) (old new : List Exclusion) (kind : NodeKind) : Type 0 where
  pub grown : Grows old new
  pub tree : tree_below instance old ≡ kind_tree instance new kind
  pub known : IsKind instance new kind

-- a split, if it is one, is of two of `n` boxes in one of `d` dimensions
abbrev pub IsAmong : ℕ → ℕ → NodeKind → Type 0
IsAmong d n Conflict = Unit {0}
IsAmong d n Settled = Unit {0}
IsAmong d n (Divided s k) = IsSplitAmong d n s
