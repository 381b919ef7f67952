-- What a path came to, and the tree there.
use Rattle.std.proofs.Common.{◌≡◌, ℕ, sym, subst, List, Option, Some, IfSome}
use Rattle.packing_terms.specs.declared.Exclusion.{Exclusion}
use Rattle.packing_terms.specs.Packing.{PlainInstance}
use Rattle.tree_terms.specs.Trees.{SearchTree, PlainOutcome, outcome, under_budget}
use Rattle.class_search.specs.declared.root.Arrival.{Arrival}
use Rattle.class_search.specs.declared.root.Arrival.TheVariants.{RefutedRoot, Inner}
use Rattle.class_search.specs.Rooted.{IsArrival, arrival_tree}

pub arrival_is : (instance : PlainInstance) (tree : Option SearchTree) (es : List Exclusion) (arrival : Arrival)
    → IsArrival instance tree es arrival
    → tree ≡ Some (arrival_tree instance es arrival)
arrival_is instance tree es (RefutedRoot token) h = h
arrival_is instance tree es (Inner kind) h = h.is

-- the outcome under a cap of the tree that was found is that of the tree at the path
pub arrival_told : (instance : PlainInstance) (tree : Option SearchTree) (es : List Exclusion) (arrival : Arrival)
    (cap : ℕ) (r : PlainOutcome)
    → IsArrival instance tree es arrival → r ≡ under_budget cap (outcome (arrival_tree instance es arrival))
    → IfSome tree (λ x. r ≡ under_budget cap (outcome x))
arrival_told instance tree es arrival cap r h e =
    subst (λ (o : Option SearchTree). IfSome o (λ x. r ≡ under_budget cap (outcome x)))
    (sym (arrival_is instance tree es arrival h)) e
