-- Whether a token of a refutation with families is accepted at a node, and else the reason. The
-- tests are made in the order in which they stand.
use Rattle.std.specs.Prelude.{ℕ, pred, Bool, true, not, ◌&&◌, ◌==◌, List, [], ◌∷◌, ◌++◌, Option, Some, None}
use Rattle.std.specs.List.{list_all}
use Rattle.packing_terms.specs.declared.Rel.TheVariants.{Overlap}
use Rattle.packing_terms.specs.declared.Exclusion.{Exclusion}
use Rattle.packing_terms.specs.Packing.{PlainInstance}
use Rattle.packing_terms.specs.Exclusions.{Exclusions}
use Rattle.verdict_terms.specs.declared.check_answers.RefuseCode.{RefuseCode}
use Rattle.verdict_terms.specs.declared.check_answers.RefuseCode.TheVariants.{Kind, Range, Choice}
use Rattle.verdict_terms.specs.Judging.{unless, names_dim, names_box, closed, is_conflict, refusal}
use Rattle.verdict_terms.specs.FamilyRefutation.{FamilyToken, Plain, Family, FamilyNode, Free, Begun}
use Rattle.verdict_terms.specs.FamilyRefutation.{exclusions_of, boxes_of}

-- whether the set has two distinct boxes apart in the dimension; the numbers are those of the text
abbrev pub is_beside : Exclusions → ℕ → ℕ → ℕ → Bool
is_beside X i u v = not (u == v) && X (pred i) (pred u) (pred v) Overlap

-- whether each box of the second list is beside all that stand before it, in both lists
abbrev pub are_aside : Exclusions → ℕ → List ℕ → List ℕ → Bool
are_aside X i us [] = true
are_aside X i us (v ∷ vs) = list_all (λ u. is_beside X i u v) us && are_aside X i (us ++ v ∷ []) vs

-- whether a family that is begun at the node has this dimension
abbrev pub is_own_dim : FamilyNode → ℕ → Bool
is_own_dim (Free es) i = true
is_own_dim (Begun es j us) i = i == j

-- whether there is no conflict, and the boxes are beside all that stand before them
abbrev pub may_join : PlainInstance → Exclusions → ℕ → List ℕ → List ℕ → Bool
may_join instance X i us vs = not (is_conflict instance X) && are_aside X i us vs

-- Boxes that join those of the first list under these exclusions. A number that names no dimension
-- or no box is `Range`; a conflict, a box that is there already, and a box that isn't apart from
-- all others are `Choice`.
abbrev pub boxes_refusal : PlainInstance → List Exclusion → ℕ → List ℕ → List ℕ → Option RefuseCode
boxes_refusal instance es i us vs =
    unless (names_dim instance i && list_all (names_box instance) vs) Range (
    unless (may_join instance (closed instance es) i us vs) Choice None)

-- boxes that join the family of a node: another dimension than that of the family is `Kind`
abbrev pub join_refusal : PlainInstance → FamilyNode → ℕ → List ℕ → Option RefuseCode
join_refusal instance n i vs =
    unless (is_own_dim n i) Kind (boxes_refusal instance (exclusions_of n) i (boxes_of n) vs)

-- a token at a node: a plain one is of another kind where a family is begun
abbrev pub family_refusal : PlainInstance → FamilyNode → FamilyToken → Option RefuseCode
family_refusal instance n (Family i vs) = join_refusal instance n i vs
family_refusal instance (Free es) (Plain t) = refusal instance es t
family_refusal instance (Begun es i us) (Plain t) = Some Kind
