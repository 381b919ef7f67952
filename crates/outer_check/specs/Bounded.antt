-- What a token of a bounded refutation makes of an outer refuter. A plain token does what it does in
-- plain trees; a further leaf, priced out or open to an exchange, closes its node.
use Rattle.std.specs.Prelude.{ℕ, ◌≡◌, Option, Some, None, Result, Ok, Err}
use Rattle.packing_terms.specs.Packing.{PlainInstance}
use Rattle.packing_terms.specs.OuterRefutation.{Bins as UsedBins, Choice as BoxChoice}
use Rattle.packing_terms.specs.OuterFeeding.{Outer}
use Rattle.packing_terms.specs.OuterPaths.{At, Inside, OuterView, Whole, On}
use Rattle.verdict_terms.specs.declared.check_answers.RefuseCode.{RefuseCode}
use Rattle.verdict_terms.specs.declared.check_answers.RefuseCode.TheVariants.{Kind, After}
use Rattle.verdict_terms.specs.BoundedRefutation.{BoundedToken, Plain, PricedOut, Exchange}
use Rattle.verdict_terms.specs.BoundedPaths.{stands_for}
use Rattle.verdict_terms.specs.BoundedJudging.{bounded_refusal}
use Rattle.refutation_check.specs.Refuters.{PlainRefuter}
use Rattle.outer_check.specs.declared.goal.Goal.{Goal}
use Rattle.outer_check.specs.declared.goal.Goal.TheVariants.{Value}
use Rattle.outer_check.specs.declared.point.Point.{Point}
use Rattle.outer_check.specs.declared.point.Point.TheVariants.{AtNode}
use Rattle.outer_check.specs.Frames.{PlainPath}
use Rattle.outer_check.specs.Outers.{OuterTree, ForBins, ForValue, PlainOuter, tree_seen, tree_refusal, tree_after}
use Rattle.outer_check.specs.Outers.{fed_by, IsGoing}

-- the token is a leaf that plain trees don't have
abbrev pub IsFurther : BoundedToken → Type 0
IsFurther (Plain t) = ⊥
IsFurther (PricedOut q p fs) = Unit {0}
IsFurther (Exchange u v) = Unit {0}

-- The first test that a further leaf fails at the current node: it closes an outer node for a value.
-- A whole tree takes no token.
abbrev pub leaf_judged : PlainInstance → ℕ → BoundedToken → OuterView BoxChoice → Option RefuseCode
leaf_judged instance y t Whole = Some After
leaf_judged instance y t (On path (At c)) = bounded_refusal instance y (Outer c) t
leaf_judged instance y t (On path (Inside keep es behind)) = Some Kind

-- for bins there are no such leaves
abbrev pub no_leaf : OuterView UsedBins → Option RefuseCode
no_leaf Whole = Some After
no_leaf (On path current) = Some Kind

abbrev pub bounded_tree_refusal : PlainInstance → OuterTree → BoundedToken → Option RefuseCode
bounded_tree_refusal instance tree (Plain t) = tree_refusal instance tree t
bounded_tree_refusal instance (ForBins k view) (PricedOut q p fs) = no_leaf view
bounded_tree_refusal instance (ForBins k view) (Exchange u v) = no_leaf view
bounded_tree_refusal instance (ForValue y view) (PricedOut q p fs) = leaf_judged instance y (PricedOut q p fs) view
bounded_tree_refusal instance (ForValue y view) (Exchange u v) = leaf_judged instance y (Exchange u v) view

-- a token more; a refusal stays
abbrev pub bounded_fed : PlainOuter → BoundedToken → PlainOuter
bounded_fed o t = fed_by o.refused (bounded_tree_refusal o.instance o.tree t) o (stands_for t)

-- The value of the outer node at which the tree stands; or why no further leaf is accepted there,
-- whatever it says.
abbrev pub IsLeafValue : Goal → Point → Result ℕ RefuseCode → Type 0
IsLeafValue goal point (Ok y) = (point ≡ AtNode) × (goal ≡ Value y)
IsLeafValue goal point (Err code) =
    (instance : PlainInstance) (path : PlainPath) (inner : PlainRefuter) (t : BoundedToken) → IsFurther t
    → IsGoing instance goal path point inner
    → bounded_tree_refusal instance (tree_seen goal path.frames point inner) t ≡ Some code

-- What a further leaf makes of the parts of a refuter. Accepted, the tree is that of the definition
-- and goes on; refused, it is as it was, and the code is that of the first test that failed. The
-- inner tree is never touched.
abbrev pub IsLeafTaken : PlainInstance → Goal → PlainPath → Point → PlainRefuter → BoundedToken → PlainPath → Point
    → Result (Unit {0}) RefuseCode → Type 0
IsLeafTaken instance goal path point inner t path' point' (Ok u) =
    (bounded_tree_refusal instance (tree_seen goal path.frames point inner) t ≡ None)
    × (tree_seen goal path'.frames point' inner
    ≡ tree_after (tree_seen goal path.frames point inner) (stands_for t))
    × IsGoing instance goal path' point' inner
IsLeafTaken instance goal path point inner t path' point' (Err code) =
    (bounded_tree_refusal instance (tree_seen goal path.frames point inner) t ≡ Some code)
    × (tree_seen goal path'.frames point' inner ≡ tree_seen goal path.frames point inner)
    × (path'.boxes ≡ path.boxes)
