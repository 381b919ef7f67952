-- An open node of a tree, and what the state holds for it.
--
--     list of the state, oldest first:   | closure of the parent | the node's own exclusions, and what follows ..
--                                                       n.mark ^
use Rattle.std.specs.Prelude.{ℕ, ◌+◌, ◌-◌, ◌*◌, ◌≤◌, ◌≡◌, IsTrue, List, [], ◌∷◌, ◌++◌, length, take, reverse}
use Rattle.std.specs.Prelude.{Bool, true, false, Option, Some, None}
use Rattle.packing_terms.specs.declared.Exclusion.{Exclusion}
use Rattle.packing_terms.specs.declared.Rel.TheVariants.{Overlap, Before, After}
use Rattle.packing_terms.specs.Packing.{PlainInstance, dims, box_count}
use Rattle.packing_terms.specs.Exclusions.{excludes, IsEdgeAmong, relation_count}
use Rattle.packing_terms.specs.Closure.{IsStable, Derives}
use Rattle.packing_terms.specs.Tokens.{PlainToken}
use Rattle.packing_terms.specs.Tokens.PlainToken.{Apart, Order}
use Rattle.packing_terms.specs.Refutation.{exclusion_in_text as exclusion_of}
use Rattle.packing_terms.specs.Places.{HasNoEmptyMask}
use Rattle.packing_terms.specs.Steps.{open_count, with_exclusion}
use Rattle.edge_state.specs.Edges.{PlainEdges, oldest}
use Rattle.verdict_terms.specs.declared.check_answers.RefuseCode.{RefuseCode}
use Rattle.verdict_terms.specs.Judging.{refusal}
use Rattle.edge_state.specs.Ends.{IsClosureOf}
use Rattle.refutation_check.specs.declared.node.OpenNode.{OpenNode}

-- an exclusion that may be there
abbrev pub some_of : Option Exclusion → List Exclusion
some_of None = []
some_of (Some e) = e ∷ []

abbrev pub with_some : List Exclusion → Option Exclusion → List Exclusion
with_some es None = es
with_some es (Some e) = with_exclusion es e

-- these exclusions, added to none, the last one first
abbrev pub with_each : List Exclusion → List Exclusion
with_each [] = []
with_each (e ∷ es) = with_exclusion (with_each es) e

abbrev pub IsAtAmong : ℕ → ℕ → Option Exclusion → Type 0
IsAtAmong d n None = Unit {0}
IsAtAmong d n (Some e) = IsEdgeAmong d n e.dim e.u e.v

-- what a node begins with: the closure of its parent, and on top what its split excludes
abbrev pub entered : OpenNode → List Exclusion → List Exclusion
entered n es = with_some (with_some (oldest n.mark es) n.second) n.first

-- the exclusions of a node, where those of its parent are given
abbrev pub node_exclusions : OpenNode → List Exclusion → List Exclusion
node_exclusions n above = some_of n.first ++ (some_of n.second ++ above)

-- The list is what a node stands on: below a split the closure of its parent, which has no
-- conflict, and at the root just what is given.
abbrev pub Stands : PlainInstance → List Exclusion → Option Exclusion → List Exclusion → Type 0
Stands instance above None es =
    Derives instance (excludes es) (excludes above) × Derives instance (excludes above) (excludes es)
Stands instance above (Some e) es = IsClosureOf instance (excludes above) es

-- below a split the list is closed
abbrev pub IsReady : PlainInstance → Option Exclusion → List Exclusion → Type 0
IsReady instance None es = Unit {0}
IsReady instance (Some e) es = IsStable instance (excludes es) × HasNoEmptyMask instance (excludes es)

-- the state may be brought to the closure of the node
pub record IsOver (instance : PlainInstance) (s : PlainEdges) (n : OpenNode) : Type 0 where
  pub same_dims : s.dims ≡ dims instance
  pub same_boxes : s.boxes ≡ box_count instance
  pub mark : n.mark ≤ length s.trail
  pub first : IsAtAmong s.dims s.boxes n.first
  pub second : IsAtAmong s.dims s.boxes n.second
  pub ready : IsReady instance n.first (oldest n.mark s.trail)

-- how many relations the list leaves, and how many there are
abbrev pub opens : PlainInstance → List Exclusion → ℕ
opens instance es = open_count (dims instance) (box_count instance) es

abbrev pub all_relations : PlainInstance → ℕ
all_relations instance = relation_count (dims instance) (box_count instance)

-- the exclusions of a node's parent
abbrev pub above : List Exclusion → List Exclusion → OpenNode → List Exclusion
above start splits n = reverse (take n.splits splits) ++ start

-- an open node, with `others` other nodes below it on the stack
pub record IsHeldNode (instance : PlainInstance) (start splits trail : List Exclusion) (others : ℕ) (n : OpenNode) :
    Type 0 where
  pub stands : Stands instance (above start splits n) n.first (oldest n.mark trail)
  pub first_there : IsAtAmong (dims instance) (box_count instance) n.first
  pub second_there : IsAtAmong (dims instance) (box_count instance) n.second
  pub few : others + opens instance (entered n trail) ≤ all_relations instance
  pub short : n.splits + 2 * opens instance (entered n trail) ≤ 2 * all_relations instance

-- the open nodes, the next one first; marks and counts of splits fall
abbrev pub AreHeld : PlainInstance → List Exclusion → List Exclusion → List Exclusion → ℕ → ℕ → List OpenNode → Type 0
AreHeld instance start splits trail mark count [] = Unit {0}
AreHeld instance start splits trail mark count (n ∷ ns) =
    (n.mark ≤ mark) × (n.splits ≤ count) × IsHeldNode instance start splits trail (length ns) n
    × AreHeld instance start splits trail n.mark n.splits ns

-- a token that splits a node
abbrev pub is_split : PlainToken → Bool
is_split (Apart i u v) = true
is_split (Order i u v) = true
is_split _ = false

-- the splits above the children of a node, the newest last
abbrev pub splits_with : List Exclusion → OpenNode → List Exclusion
splits_with splits n = (take n.splits splits ++ some_of n.second) ++ some_of n.first

abbrev pub splits_after : List Exclusion → OpenNode → PlainToken → List Exclusion
splits_after splits n (Apart i u v) = splits_with splits n
splits_after splits n (Order i u v) = splits_with splits n
splits_after splits n _ = splits

-- the children, the next one last
abbrev pub child_nodes : ℕ → ℕ → PlainToken → List OpenNode
child_nodes mark count (Apart i u v) =
    record {
      mark = mark;
      splits = count;
      first = Some (exclusion_of i u v Before);
      second = Some (exclusion_of i u v After);
    }
    ∷ record { mark = mark; splits = count; first = Some (exclusion_of i u v Overlap); second = None } ∷ []
child_nodes mark count (Order i u v) =
    record { mark = mark; splits = count; first = Some (exclusion_of i u v Before); second = None }
    ∷ record { mark = mark; splits = count; first = Some (exclusion_of i u v After); second = None } ∷ []
child_nodes mark count _ = []

-- The token was judged at the node. The list up to the node's parent stayed; and where a split was
-- accepted, the list is the closure of the node.
pub record IsJudged (instance : PlainInstance) (n : OpenNode) (old new : List Exclusion) (answer : Option RefuseCode)
    (token : PlainToken) : Type 0 where
  pub within : n.mark ≤ length new
  pub kept : (k : ℕ) → k ≤ n.mark → oldest k new ≡ oldest k old
  pub value : (above : List Exclusion) → Stands instance above n.first (oldest n.mark old)
      → answer ≡ refusal instance (node_exclusions n above) token
  pub no_conflict : answer ≡ None → IsTrue (is_split token) → (above : List Exclusion)
      → Stands instance above n.first (oldest n.mark old)
      → IsClosureOf instance (excludes (node_exclusions n above)) new
  pub fewer : answer ≡ None → IsTrue (is_split token) → opens instance new ≤ opens instance (entered n old)
