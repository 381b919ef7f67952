-- A token that was fed to a refuter of trees with families is a step of its tree.
use Rattle.std.proofs.Common.{◌≡◌, refl, true, List, [], ◌∷◌, Option, Some, None, Result, Ok, Err}
use Rattle.packing_terms.specs.Packing.{PlainInstance}
use Rattle.verdict_terms.specs.declared.check_answers.RefuseCode.{RefuseCode}
use Rattle.verdict_terms.specs.declared.check_answers.FeedVerdict.{FeedVerdict}
use Rattle.verdict_terms.specs.Checking.{answered, checked_by}
use Rattle.verdict_terms.specs.FamilyRefutation.{FamilyToken, FamilyNode}
use Rattle.verdict_terms.specs.FamilyChecking.{families_after}
use Rattle.outer_check.specs.FamilyRefuters.{PlainFamilyRefuter, fed_family}
use Rattle.document_lines.specs.Gatherings.{is_family_open, FeedsFamily}

module _ (instance : PlainInstance) (t : FamilyToken) where
  at_nodes : List FamilyNode → PlainFamilyRefuter
  at_nodes nodes = record { instance = instance; checked = record { nodes = nodes; refused = None } }

  grows : (nodes : List FamilyNode)
      → FeedsFamily (at_nodes nodes) t (fed_family (at_nodes nodes) t) (answered (fed_family (at_nodes nodes) t).checked)
  unfolding at_nodes
  grows nodes = go (families_after instance nodes t) refl
    where
      go : (r : Result (List FamilyNode) RefuseCode) → families_after instance nodes t ≡ r
          → FeedsFamily (at_nodes nodes) t
          (record { instance = instance; checked = checked_by nodes r }) (answered (checked_by nodes r))
      go (Ok []) e = e
      go (Ok (n ∷ left)) e = (e, refl)
      go (Err code) e = e

fed_open : (r : PlainFamilyRefuter) (t : FamilyToken) → is_family_open r ≡ true
    → FeedsFamily r t (fed_family r t) (answered (fed_family r t).checked)
unfolding at_nodes
fed_open r t opens = by_parts r.checked.nodes r.checked.refused opens
  where
    by_parts : (nodes : List FamilyNode) (refused : Option RefuseCode)
        → is_family_open (record { instance = r.instance; checked = record { nodes = nodes; refused = refused } }) ≡ true
        → FeedsFamily (record { instance = r.instance; checked = record { nodes = nodes; refused = refused } }) t
        (fed_family (record { instance = r.instance; checked = record { nodes = nodes; refused = refused } }) t)
        (answered (fed_family
        (record { instance = r.instance; checked = record { nodes = nodes; refused = refused } }) t).checked)
    by_parts nodes (Some code) opens = absurd (cc (opens))
    by_parts nodes None opens = grows r.instance t nodes

-- a token that is fed to an open tree
pub family_feeds : (r new : PlainFamilyRefuter) (t : FamilyToken) (answer : FeedVerdict) → new ≡ fed_family r t
    → answer ≡ answered new.checked → is_family_open r ≡ true → FeedsFamily r t new answer
family_feeds r new t answer e f opens = rw (f, e) (fed_open r t opens)

pub family_same : (r new : PlainFamilyRefuter) (t : FamilyToken) → new ≡ fed_family r t → new.instance ≡ r.instance
family_same r new t e = rw e refl
