-- What a refuter of trees with families is seen as, and what its type keeps.
use Rattle.std.specs.Prelude.{ℕ, ◌≡◌, ◌+◌, ◌≤◌, List, [], ◌∷◌, Option, Some, None}
use Rattle.packing_terms.specs.declared.Exclusion.{Exclusion}
use Rattle.packing_terms.specs.Packing.{PlainInstance, box_count}
use Rattle.box_instances.specs.Sets.{all_boxes}
use Rattle.verdict_terms.specs.declared.check_answers.RefuseCode.{RefuseCode}
use Rattle.verdict_terms.specs.Checking.{Checked}
use Rattle.refutation_check.specs.Refuters.{PlainRefuter}
use Rattle.verdict_terms.specs.Families.{IsFamily}
use Rattle.verdict_terms.specs.FamilyRefutation.{FamilyToken, FamilyNode, Free, Begun}
use Rattle.verdict_terms.specs.FamilyChecking.{all_free, family_checked}

-- the instance, and what was checked of its tree
pub record PlainFamilyRefuter : Type 0 where
  pub instance : PlainInstance
  pub checked : Checked FamilyNode

-- a token more
abbrev pub fed_family : PlainFamilyRefuter → FamilyToken → PlainFamilyRefuter
fed_family r t = record r { checked = family_checked r.instance r.checked t }

-- the current node, by the dimension of the family that is begun there, and by its boxes
abbrev pub node_seen : Option ℕ → List ℕ → List Exclusion → FamilyNode
node_seen None us es = Free es
node_seen (Some i) us es = Begun es i us

-- the open nodes, of which the first one may have a family
abbrev pub nodes_seen : Option ℕ → List ℕ → List (List Exclusion) → List FamilyNode
nodes_seen dim us [] = []
nodes_seen dim us (es ∷ nodes) = node_seen dim us es ∷ all_free nodes

-- a family that is begun stands at the first of the nodes
pub record IsBegunAt (instance : PlainInstance) (i : ℕ) (us : List ℕ) (nodes : List (List Exclusion)) : Type 0 where
  pub node : List Exclusion
  pub behind : List (List Exclusion)
  pub opens : nodes ≡ node ∷ behind
  pub family : IsFamily instance node i us

abbrev pub IsBegun : PlainInstance → Option ℕ → List ℕ → List (List Exclusion) → Type 0
IsBegun instance None us nodes = us ≡ []
IsBegun instance (Some i) us nodes = IsBegunAt instance i us nodes

-- what holds of the parts as long as nothing is refused
pub record IsGoing (inner : PlainRefuter) (dim : Option ℕ) (us : List ℕ) : Type 0 where
  pub inner_goes : inner.checked.refused ≡ None
  pub begun : IsBegun inner.instance dim us inner.checked.nodes

-- what the type keeps: the tree is that of the whole instance, and nine boxes more than there are
-- have room in a family
pub record IsHeld (inner : PlainRefuter) (dim : Option ℕ) (us : List ℕ) (refused : Option RefuseCode) (capacity : ℕ) :
    Type 0 where
  pub whole : inner.keep ≡ all_boxes inner.instance
  pub room : box_count inner.instance + 9 ≤ capacity
  pub few : box_count inner.instance ≤ 128
  pub going : refused ≡ None → IsGoing inner dim us
