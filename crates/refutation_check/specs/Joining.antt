-- Boxes that join a family at the current node of a refuter, and what they make of its open nodes.
use Rattle.std.specs.Prelude.{ℕ, ◌≡◌, ◌≤◌, Bool, true, false, List, [], ◌∷◌, ◌++◌, length, drop, Option, Some, None, Result, Ok, Err}
use Rattle.std.specs.List.{All}
use Rattle.packing_terms.specs.declared.Exclusion.{Exclusion}
use Rattle.packing_terms.specs.Packing.{PlainInstance, dims}
use Rattle.packing_terms.specs.Goals.{subset}
use Rattle.edge_state.specs.Edges.{oldest}
use Rattle.verdict_terms.specs.declared.check_answers.RefuseCode.{RefuseCode}
use Rattle.verdict_terms.specs.declared.check_answers.RefuseCode.TheVariants.{After}
use Rattle.verdict_terms.specs.Checking.{Checked}
use Rattle.verdict_terms.specs.Families.{IsBoxNo, is_too_long}
use Rattle.verdict_terms.specs.FamilyJudging.{boxes_refusal}
use Rattle.refutation_check.specs.declared.node.OpenNode.{OpenNode}
use Rattle.refutation_check.specs.Nodes.{node_exclusions, Stands}
use Rattle.refutation_check.specs.Refuters.{PlainRefuter}

-- the numbers of the text name boxes
abbrev pub AreBoxNos : PlainInstance → List ℕ → Type 0
AreBoxNos instance vs = All (λ v. IsBoxNo instance v) vs

-- the numbers name a dimension and boxes
pub record AreJoinable (instance : PlainInstance) (i : ℕ) (vs : List ℕ) : Type 0 where
  pub dim_from : 1 ≤ i
  pub dim_to : i ≤ dims instance
  pub boxes : AreBoxNos instance vs

-- whether the family is too long with the boxes, where they aren't refused
abbrev pub unless_refused : Option RefuseCode → Bool → Result Bool RefuseCode
unless_refused (Some code) long = Err code
unless_refused None long = Ok long

-- boxes that join those of the first list at the first node: whether the family is too long with
-- them, or why they are refused; a whole tree takes none
abbrev pub joined_at : PlainInstance → List (List Exclusion) → ℕ → List ℕ → List ℕ → Result Bool RefuseCode
joined_at instance [] i us vs = Err After
joined_at instance (es ∷ nodes) i us vs =
    unless_refused (boxes_refusal instance es i us vs) (is_too_long instance i (us ++ vs))

-- a refusal stays
abbrev pub still_refused : Option RefuseCode → Result Bool RefuseCode → Result Bool RefuseCode
still_refused (Some code) answer = Err code
still_refused None answer = answer

-- what a refuter answers to boxes that join
abbrev pub join_answer : PlainRefuter → ℕ → List ℕ → List ℕ → Result Bool RefuseCode
join_answer r i us vs = still_refused r.checked.refused (joined_at (subset r.instance r.keep) r.checked.nodes i us vs)

-- what is held after the answer: a family that is too long takes its node away, and one that isn't
-- leaves it
abbrev pub checked_joined : Checked (List Exclusion) → Result Bool RefuseCode → Checked (List Exclusion)
checked_joined old (Ok true) = record old { nodes = drop 1 old.nodes }
checked_joined old (Ok false) = old
checked_joined old (Err code) = record old { refused = Some code }

-- The boxes were tested at the node. The list up to the node's parent stayed.
pub record AreTested (instance : PlainInstance) (n : OpenNode) (old new : List Exclusion) (answer : Option RefuseCode)
    (i : ℕ) (us vs : List ℕ) : Type 0 where
  pub within : n.mark ≤ length new
  pub kept : (k : ℕ) → k ≤ n.mark → oldest k new ≡ oldest k old
  pub value : (above : List Exclusion) → Stands instance above n.first (oldest n.mark old)
      → answer ≡ boxes_refusal instance (node_exclusions n above) i us vs
