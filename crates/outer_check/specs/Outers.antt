-- What an outer refuter is seen as: the tree that is fed as the definition has it (the path to the
-- current node, with the number of closed children of each split on it; behind the token of a
-- refuted set the open nodes of its inner tree), and the refusal if there was one.
use Rattle.std.specs.Prelude.{ℕ, ◌≡◌, ◌≤◌, Bool, true, false, List, [], ◌∷◌, length, Option, Some, None, Result, Ok}
use Rattle.std.specs.Prelude.{Err}
use Rattle.packing_terms.specs.declared.Exclusion.{Exclusion}
use Rattle.packing_terms.specs.Packing.{PlainInstance, box_count}
use Rattle.packing_terms.specs.Limits.{max_boxes}
use Rattle.packing_terms.specs.Scales.{SidesFit}
use Rattle.packing_terms.specs.Tokens.{PlainToken}
use Rattle.packing_terms.specs.OuterRefutation.{Bins as UsedBins, Choice as BoxChoice, no_choice}
use Rattle.packing_terms.specs.OuterFeeding.{OpenNode, Outer, Inner}
use Rattle.packing_terms.specs.OuterPaths.{PathNode, At, Inside, OuterView, Whole, On, view_after, bins_with, bin_step}
use Rattle.packing_terms.specs.OuterPaths.{choices_with, choice_step}
use Rattle.verdict_terms.specs.declared.check_answers.RefuseCode.{RefuseCode}
use Rattle.verdict_terms.specs.declared.check_answers.RefuseCode.TheVariants.{After}
use Rattle.verdict_terms.specs.declared.check_answers.FeedVerdict.{FeedVerdict}
use Rattle.verdict_terms.specs.declared.check_answers.FeedVerdict.TheVariants.{More, Done, Refused}
use Rattle.verdict_terms.specs.OuterJudging.{bin_refusal, value_refusal}
use Rattle.outer_check.specs.declared.path.Frame.{Frame}
use Rattle.outer_check.specs.declared.goal.Goal.{Goal}
use Rattle.outer_check.specs.declared.goal.Goal.TheVariants.{Bins, Value}
use Rattle.refutation_check.specs.Refuters.{PlainRefuter}
use Rattle.outer_check.specs.declared.point.Point.{Point}
use Rattle.outer_check.specs.declared.point.Point.TheVariants.{AtNode, InSet, AtEnd}
use Rattle.outer_check.specs.Frames.{PlainPath}
use Rattle.outer_check.specs.Nodes.{node_below, path_below, HaveChildren, HaveUsed}

-- the tree that is fed: for `bins` bins, or for a value
pub data OuterTree : Type 0 where
  ForBins : (bins : ℕ) (view : OuterView UsedBins) → OuterTree
  ForValue : (value : ℕ) (view : OuterView BoxChoice) → OuterTree

pub record PlainOuter : Type 0 where
  pub instance : PlainInstance
  pub tree : OuterTree
  pub refused : Option RefuseCode

-- no token was fed yet
abbrev pub started : Goal → OuterTree
started (Bins k) = ForBins k (On [] (At []))
started (Value y) = ForValue y (On [] (At no_choice))

-- the first test that a token fails at the current node; a whole tree takes no token
abbrev pub judged_at : {Node : Type 0} → (OpenNode Node → PlainToken → Option RefuseCode) → OuterView Node → PlainToken
    → Option RefuseCode
judged_at refusal Whole t = Some After
judged_at refusal (On path (At node)) t = refusal (Outer node) t
judged_at refusal (On path (Inside keep es behind)) t = refusal (Inner keep es) t

abbrev pub tree_refusal : PlainInstance → OuterTree → PlainToken → Option RefuseCode
tree_refusal instance (ForBins k view) t = judged_at (bin_refusal instance k) view t
tree_refusal instance (ForValue y view) t = judged_at (value_refusal instance y) view t

-- what a judged token leaves: the refusal, or these open nodes
abbrev pub left_open : {Node : Type 0} → Option RefuseCode → List (OpenNode Node)
    → Result (List (OpenNode Node)) RefuseCode
left_open (Some code) nodes = Err code
left_open None nodes = Ok nodes

-- the tree after an accepted token
abbrev pub tree_after : OuterTree → PlainToken → OuterTree
tree_after (ForBins k view) t = ForBins k (view_after (bins_with k) bin_step view t)
tree_after (ForValue y view) t = ForValue y (view_after choices_with choice_step view t)

-- a token more; a refusal stays
abbrev pub fed_by : Option RefuseCode → Option RefuseCode → PlainOuter → PlainToken → PlainOuter
fed_by (Some code) refusal o t = o
fed_by None (Some code) o t = record o { refused = Some code }
fed_by None None o t = record o { tree = tree_after o.tree t }

abbrev pub fed : PlainOuter → PlainToken → PlainOuter
fed o t = fed_by o.refused (tree_refusal o.instance o.tree t) o t

-- whether the tree is whole
abbrev pub is_whole_view : {Node : Type 0} → OuterView Node → Bool
is_whole_view Whole = true
is_whole_view (On path current) = false

abbrev pub is_whole_tree : OuterTree → Bool
is_whole_tree (ForBins k view) = is_whole_view view
is_whole_tree (ForValue y view) = is_whole_view view

-- whether the tree was accepted whole, and no token refused behind it
abbrev pub is_whole_by : Option RefuseCode → Bool → Bool
is_whole_by None whole = whole
is_whole_by (Some code) whole = false

abbrev pub is_whole : PlainOuter → Bool
is_whole o = is_whole_by o.refused (is_whole_tree o.tree)

-- what is answered, by what is held after the token
abbrev pub answered_by : Option RefuseCode → Bool → FeedVerdict
answered_by (Some code) whole = Refused code
answered_by None true = Done
answered_by None false = More

abbrev pub answered : PlainOuter → FeedVerdict
answered o = answered_by o.refused (is_whole_tree o.tree)

-- ---- how the refuter holds it

abbrev pub inside_view : {Node : Type 0} → List (PathNode Node) → Node → List ℕ → List (List Exclusion) → OuterView Node
inside_view path node keep [] = On path (At node)
inside_view path node keep (es ∷ behind) = On path (Inside keep es behind)

-- the view of a tree by the splits on the path, where it stands, and what the refuter of inner
-- trees holds
abbrev pub view_by : {Node : Type 0} → (Node → ℕ → List Node) → Node → List Frame → Point → PlainRefuter
    → OuterView Node
view_by below root frames AtNode inner = On (path_below below root frames) (At (node_below below root frames))
view_by below root frames InSet inner =
    inside_view (path_below below root frames) (node_below below root frames) inner.keep inner.checked.nodes
view_by below root frames AtEnd inner = Whole

abbrev pub tree_seen : Goal → List Frame → Point → PlainRefuter → OuterTree
tree_seen (Bins k) frames point inner = ForBins k (view_by (bins_with k) [] frames point inner)
tree_seen (Value y) frames point inner = ForValue y (view_by choices_with no_choice frames point inner)

-- the splits on the path are those of the tree
abbrev pub AreOf : Goal → List Frame → Type 0
AreOf (Bins k) frames = HaveChildren (bins_with k) [] frames × HaveUsed k frames
AreOf (Value y) frames = HaveChildren choices_with no_choice frames

-- for bins no box exceeds the container, and they are at most as many as the boxes of the largest
-- instance
abbrev pub CanBeRefuted : PlainInstance → Goal → Type 0
CanBeRefuted instance (Bins k) = SidesFit instance × (k ≤ max_boxes)
CanBeRefuted instance (Value y) = Unit {0}

-- in the inner tree of a set some node is open
abbrev pub IsOpenAt : Point → PlainRefuter → Type 0
IsOpenAt InSet inner = (inner.checked.refused ≡ None) × (1 ≤ length inner.checked.nodes)
IsOpenAt AtNode inner = Unit {0}
IsOpenAt AtEnd inner = Unit {0}

-- what holds of the parts as long as nothing is refused
pub record IsGoing (instance : PlainInstance) (goal : Goal) (path : PlainPath) (point : Point) (inner : PlainRefuter) :
    Type 0 where
  pub boxes : path.boxes ≡ box_count instance
  pub same : inner.instance ≡ instance
  pub are : AreOf goal path.frames
  pub opens : IsOpenAt point inner

-- what the type keeps
pub record IsHeld (instance : PlainInstance) (goal : Goal) (path : PlainPath) (point : Point) (inner : PlainRefuter)
    (refused : Option RefuseCode) (capacity : ℕ) : Type 0 where
  pub can : CanBeRefuted instance goal
  pub boxes : path.boxes ≡ box_count instance
  pub room : box_count instance ≤ capacity
  pub going : refused ≡ None → IsGoing instance goal path point inner

-- how many splits are on the path
abbrev pub view_length : {Node : Type 0} → OuterView Node → ℕ
view_length Whole = 0
view_length (On path current) = length path

abbrev pub path_length : PlainOuter → ℕ
path_length o = elim o.tree [ ForBins k view ↦ view_length view | ForValue y view ↦ view_length view ]
