-- A walk through a tree: the splits on the way, and what was met of them.
use Rattle.std.specs.Prelude.{ℕ, ◌+◌, ◌<◌, ◌≤◌, ◌≡◌, List, [], ◌∷◌, ◌++◌, length, reverse, Option, Some, None}
use Rattle.packing_terms.specs.declared.Exclusion.{Exclusion}
use Rattle.packing_terms.specs.Packing.{PlainInstance, dims}
use Rattle.packing_terms.specs.Exclusions.{excludes}
use Rattle.packing_terms.specs.Closure.{IsSubset}
use Rattle.packing_terms.specs.Places.{HasNoEmptyMask}
use Rattle.edge_state.specs.Edges.{oldest}
use Rattle.packing_terms.specs.Rank.{ranked_pairs}
use Rattle.packing_terms.specs.Tokens.{PlainToken}
use Rattle.tree_terms.specs.Trees.{SearchTree, No, outcome, count_of, under_budget}
use Rattle.tree_terms.specs.InnerTree.{tree_below}
use Rattle.work_share.specs.Outcomes.{plain_outcome}
use Rattle.class_search.specs.declared.visit.NodeKind.TheVariants.{Divided}
use Rattle.class_search.specs.declared.visit.NodeKind.{NodeKind}
use Rattle.class_search.specs.declared.walk.Size.{Size}
use Rattle.class_search.specs.declared.walk.Frame.{Frame}
use Rattle.class_search.specs.declared.walk.Walk.{Walk}
use Rattle.class_search.specs.declared.walk.End.{End}
use Rattle.class_search.specs.declared.walk.End.TheVariants.{Whole, Stopped}
use Rattle.class_search.specs.declared.walk.Place.{Place}
use Rattle.class_search.specs.declared.walk.Place.TheVariants.{Met, Over}
use Rattle.class_search.specs.Settling.{AreSettledBefore}
use Rattle.class_search.specs.declared.splits.Child.{Child}
use Rattle.class_search.specs.declared.splits.Child.TheVariants.{First, Second}
use Rattle.class_search.specs.Splits.{plain_split, added}
use Rattle.class_search.specs.Visits.{kind_tree, IsKind, IsDivided}

-- the pairs before rank k are settled wherever these exclusions hold and no mask is
-- empty
abbrev pub IsPastSettled : PlainInstance → ℕ → List Exclusion → Type 0
IsPastSettled instance k es = (fs : List Exclusion) → IsSubset (excludes es) (excludes fs)
    → HasNoEmptyMask instance (excludes fs)
    → AreSettledBefore (excludes fs) (dims instance) (ranked_pairs instance) k

-- the size of a node, by those of its children
abbrev pub size_of_both : Size → Size → Size
size_of_both first second = record {
  tokens = 1 + (first.tokens + second.tokens);
  count = 1 + (first.count + second.count);
}

-- the child in which the way goes on
abbrev pub child_in : Option Size → Child
child_in None = First
child_in (Some size) = Second

-- the tree of that child, and that of the split
abbrev pub child_tree : PlainInstance → Frame → List Exclusion → SearchTree
child_tree instance f es = tree_below instance (added f.split (child_in f.first) ++ oldest f.mark es)

abbrev pub frame_tree : PlainInstance → Frame → List Exclusion → SearchTree
frame_tree instance f es = kind_tree instance (oldest f.mark es) (Divided f.split f.rank)

-- the tree of the node where the way begins, of which this is the tree of its end. The splits are
-- given from the last to the first; each has the exclusions at its mark.
abbrev pub root_of : PlainInstance → List Frame → List Exclusion → SearchTree → SearchTree
root_of instance [] es here = here
root_of instance (f ∷ fs) es here = root_of instance fs (oldest f.mark es) (frame_tree instance f es)

-- what was met of the first child: nothing, or all that it gives
abbrev pub IsFirst : PlainInstance → Frame → List Exclusion → Option Size → List PlainToken → ℕ → Type 0
IsFirst instance f es None tokens count = (tokens ≡ []) × (count ≡ 0)
IsFirst instance f es (Some size) tokens count =
    (length tokens ≡ size.tokens) × (count ≡ size.count)
    × (outcome (tree_below instance (added f.split First ++ oldest f.mark es)) ≡ No tokens count)

-- A split on the way, whose state was closed and is split so. What was met up to its child is what
-- was met before it, its token, and what its first child gave.
pub record IsFrame (instance : PlainInstance) (f : Frame) (es : List Exclusion) (here : SearchTree)
    (tokens : List PlainToken) (count : ℕ) : Type 0 where
  pub inside : f.mark ≤ length es
  pub divided : IsDivided instance (oldest f.mark es) f.split f.rank
  pub leads : here ≡ child_tree instance f es
  pub before : List PlainToken
  pub count_before : ℕ
  pub own : List PlainToken
  pub own_count : ℕ
  pub first : IsFirst instance f es f.first own own_count
  pub all_tokens : tokens ≡ (before ++ (plain_split f.split).token ∷ []) ++ own
  pub all_count : count ≡ (count_before + 1) + own_count

-- these tokens and this count were met on the way to a node
abbrev pub AreMet : PlainInstance → List Frame → List Exclusion → SearchTree → List PlainToken → ℕ → Type 0
AreMet instance [] es here tokens count = (tokens ≡ []) × (count ≡ 0)
AreMet instance (f ∷ fs) es here tokens count =
    (s : IsFrame instance f es here tokens count)
    × AreMet instance fs (oldest f.mark es) (frame_tree instance f es) s.before s.count_before

-- the tree that is walked, whose node where the walk stands has these exclusions
abbrev pub walk_tree : PlainInstance → List Exclusion → Walk → SearchTree
walk_tree instance es w = root_of instance (reverse w.frames.items) es (kind_tree instance es w.node)

-- What a walk keeps.
pub record IsWalk (instance : PlainInstance) (es : List Exclusion) (w : Walk) : Type 0 where
  pub met : AreMet instance (reverse w.frames.items) es (kind_tree instance es w.node)
      w.tokens w.count
  pub known : IsKind instance es w.node

-- what becomes of the walk through a tree under a cap: the outcome of the tree, or a walk through
-- the same tree, whose count exceeds the cap
abbrev pub IsEndOf : PlainInstance → List Exclusion → ℕ → SearchTree → End → Type 0
IsEndOf instance es cap tree (Whole r) = plain_outcome r ≡ under_budget cap (outcome tree)
IsEndOf instance es cap tree (Stopped w) = IsWalk instance es w × (walk_tree instance es w ≡ tree)
    × (cap < count_of (outcome tree))

-- At a node that was met on the way.
pub record IsAtNode (instance : PlainInstance) (whole : SearchTree) (fs : List Frame) (es : List Exclusion)
    (tokens : List PlainToken) (count : ℕ) (kind : NodeKind) : Type 0 where
  pub met : AreMet instance fs es (kind_tree instance es kind) tokens count
  pub known : IsKind instance es kind
  pub root : root_of instance fs es (kind_tree instance es kind) ≡ whole

-- Behind a node that is finished with no, of this size.
pub record IsAfterSubtree (instance : PlainInstance) (whole : SearchTree) (fs : List Frame) (es : List Exclusion)
    (tokens : List PlainToken) (count : ℕ) (size : Size) : Type 0 where
  pub here : SearchTree
  pub before : List PlainToken
  pub count_before : ℕ
  pub own : List PlainToken
  pub met : AreMet instance fs es here before count_before
  pub gives : outcome here ≡ No own size.count
  pub root : root_of instance fs es here ≡ whole
  pub all_tokens : tokens ≡ before ++ own
  pub all_count : count ≡ count_before + size.count
  pub own_size : length own ≡ size.tokens

abbrev pub IsAtPlace : PlainInstance → SearchTree → List Frame → List Exclusion → List PlainToken → ℕ → Place → Type 0
IsAtPlace instance whole fs es tokens count (Met kind) = IsAtNode instance whole fs es tokens count kind
IsAtPlace instance whole fs es tokens count (Over size) = IsAfterSubtree instance whole fs es tokens count size

-- how many turns a way may still take without a further count
abbrev pub frame_turns : Option Size → ℕ
frame_turns None = 3
frame_turns (Some size) = 1

abbrev pub turns_of : List Frame → ℕ
turns_of [] = 0
turns_of (f ∷ fs) = frame_turns f.first + turns_of fs

abbrev pub place_turns : Place → ℕ
place_turns (Met kind) = 1
place_turns (Over size) = 0
