-- The nodes of the inner search tree. A node is a list of exclusions; it is read through its
-- closure.
--
--     closure has a conflict?  yes: refuted by x
--     every pair is settled?   yes: settled, with the places of its orders
-- else                     split the first unsettled pair by rank: apart or joined, or (once it is
-- apart) in one order or the other
--
-- Source: the search over packing classes of Fekete, Schepers and van der Veen (2007), with the
-- orders of the pairs as further choices.
use Rattle.std.specs.Prelude.{ℕ, zero, suc, ◌+◌, ◌&&◌, ◌||◌, not, List, [], ◌∷◌, ◌++◌, Bool, true, false, map, Option}
use Rattle.std.specs.Prelude.{Some, None, max}
use Rattle.std.specs.List.{list_any, filter, flat_map, find, fold}
use Rattle.packing_terms.specs.declared.Rel.{Rel}
use Rattle.packing_terms.specs.declared.Rel.TheVariants.{Overlap, Before, After}
use Rattle.packing_terms.specs.declared.Exclusion.{Exclusion}
use Rattle.packing_terms.specs.Packing.{PlainInstance, dims, box_count, side}
use Rattle.packing_terms.specs.Exclusions.{Exclusions, excludes, exclusion_at, relation_count}
use Rattle.packing_terms.specs.Tokens.{PlainToken}
use Rattle.packing_terms.specs.Tokens.PlainToken.{Apart, Order, Rules}
use Rattle.packing_terms.specs.Rounds.{closure, has_empty_mask, is_surely_before}
use Rattle.packing_terms.specs.Sums.{below}
use Rattle.packing_terms.specs.Rank.{ranked_pairs}
use Rattle.tree_terms.specs.Trees.{SearchTree, Settled, Refuted, Split}

-- whether in some dimension the mask of the pair is exactly before, or exactly after
abbrev pub is_settled : Exclusions → ℕ → ℕ × ℕ → Bool
is_settled X d p =
    list_any (λ i. X i p.0 p.1 Overlap && (X i p.0 p.1 Before || X i p.0 p.1 After)
    && not (X i p.0 p.1 Before && X i p.0 p.1 After)) (below d)

-- whether the pair isn't settled
abbrev pub is_unsettled : PlainInstance → Exclusions → ℕ × ℕ → Bool
is_unsettled instance X p = not (is_settled X (dims instance) p)

-- whether the pair is apart in some dimension
abbrev pub is_apart_somewhere : Exclusions → ℕ → ℕ × ℕ → Bool
is_apart_somewhere X d p = list_any (λ i. X i p.0 p.1 Overlap) (below d)

-- The place of a box in one dimension: the greatest end of a box that is surely before it, and 0
-- where there is none. The second number bounds the length of the chains that are followed; the
-- number of boxes is enough.
abbrev pub place_by : PlainInstance → Exclusions → ℕ → ℕ → ℕ → ℕ
place_by instance X i zero v = 0
place_by instance X i (suc k) v =
    fold (λ a u. max a (place_by instance X i k u + side instance u i)) 0
    (filter (λ u. is_surely_before X i u v) (below (box_count instance)))

-- the places of a settled node: those of box 0 in all dimensions, then those of box 1, and so on
abbrev pub settled_places : PlainInstance → Exclusions → List ℕ
settled_places instance X =
    flat_map (λ v. map (λ i. place_by instance X i (box_count instance) v) (below (dims instance)))
    (below (box_count instance))

-- the exclusion of a relation in dimension i, at a pair
abbrev pub exclusion_at_pair : ℕ → ℕ × ℕ → Rel → Exclusion
exclusion_at_pair i p r = exclusion_at i p.0 p.1 r

-- a split: its token, and what each of its two children adds
pub record SplitNode : Type 0 where
  pub token : PlainToken
  pub first : List Exclusion
  pub second : List Exclusion

-- the mask of the pair is exactly before and after
abbrev pub has_order_mask : Exclusions → ℕ × ℕ → ℕ → Bool
has_order_mask X p i = X i p.0 p.1 Overlap && not (X i p.0 p.1 Before) && not (X i p.0 p.1 After)

-- the mask of the pair has overlap and another relation
abbrev pub has_apart_mask : Exclusions → ℕ × ℕ → ℕ → Bool
has_apart_mask X p i = not (X i p.0 p.1 Overlap) && (not (X i p.0 p.1 Before) || not (X i p.0 p.1 After))

-- a pair that is apart in dimension i: in one order or the other
abbrev pub order_split : ℕ × ℕ → ℕ → SplitNode
order_split p i = record {
  token = Order (suc i) (suc p.0) (suc p.1);
  first = exclusion_at_pair i p After ∷ [];
  second = exclusion_at_pair i p Before ∷ [];
}

-- a pair that is apart nowhere: apart or joined in dimension i
abbrev pub apart_split : ℕ × ℕ → ℕ → SplitNode
apart_split p i = record {
  token = Apart (suc i) (suc p.0) (suc p.1);
  first = exclusion_at_pair i p Overlap ∷ [];
  second = exclusion_at_pair i p Before ∷ exclusion_at_pair i p After ∷ [];
}

-- no dimension to split in; at an unsettled pair of a closure without conflict this never comes
abbrev pub no_split : SplitNode
no_split = record { token = Rules; first = []; second = [] }

-- the split of a pair, by whether it is apart in some dimension, the dimension for its order, and
-- the one for apart or joined
abbrev pub chosen_split : ℕ × ℕ → Bool → Option ℕ → Option ℕ → SplitNode
chosen_split p true (Some i) j = order_split p i
chosen_split p true None j = no_split
chosen_split p false i (Some j) = apart_split p j
chosen_split p false i None = no_split

-- the least dimension in which the mask of the pair is exactly before and after
abbrev pub order_dim : Exclusions → ℕ → ℕ × ℕ → Option ℕ
order_dim X d p = find (has_order_mask X p) (below d)

-- the least dimension in which the mask of the pair has overlap and another relation
abbrev pub apart_dim : Exclusions → ℕ → ℕ × ℕ → Option ℕ
apart_dim X d p = find (has_apart_mask X p) (below d)

-- the split of a pair in a node with this closure
abbrev pub split_at : PlainInstance → Exclusions → ℕ × ℕ → SplitNode
split_at instance X p =
    chosen_split p (is_apart_somewhere X (dims instance) p) (order_dim X (dims instance) p)
    (apart_dim X (dims instance) p)

-- the split as a tree, where `tree` is the tree of this node with some exclusions more
abbrev pub split_tree : SplitNode → (List Exclusion → SearchTree) → SearchTree
split_tree s tree = Split s.token 1 2 (λ k. elim k [ zero ↦ tree s.first | suc _ ↦ tree s.second ])

-- the node, by whether its closure has a conflict, and its first unsettled pair
abbrev pub node_of : PlainInstance → Exclusions → Bool → Option (ℕ × ℕ) → (List Exclusion → SearchTree) → SearchTree
node_of instance X true pair tree = Refuted (Rules ∷ []) 0
node_of instance X false None tree = Settled (settled_places instance X) 0
node_of instance X false (Some p) tree = split_tree (split_at instance X p) tree

-- the node with this closure
abbrev pub closed_node : PlainInstance → Exclusions → (List Exclusion → SearchTree) → SearchTree
closed_node instance X tree =
    node_of instance X (has_empty_mask X (dims instance) (box_count instance))
    (find (is_unsettled instance X) (ranked_pairs instance)) tree

-- The tree below a node, of at most this depth. A child has fewer open relations than its parent,
-- so the number of all relations is deep enough.
abbrev pub node_tree : PlainInstance → ℕ → List Exclusion → SearchTree
node_tree instance zero es = Refuted (Rules ∷ []) 0
node_tree instance (suc depth) es =
    let closed = closure instance es in
    closed_node instance (excludes closed) (λ add. node_tree instance depth (add ++ closed))

-- the number of relations of all pairs in all dimensions, and one more
abbrev pub full_depth : PlainInstance → ℕ
full_depth instance = relation_count (dims instance) (box_count instance) + 1

-- the inner tree without its root's own tests, from a list of exclusions on
abbrev pub tree_below : PlainInstance → List Exclusion → SearchTree
tree_below instance es = node_tree instance (full_depth instance) es
