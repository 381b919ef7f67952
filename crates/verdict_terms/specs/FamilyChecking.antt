-- A tree with families that is checked token by token: the open nodes, the next one first, and the
-- refusal if there was one.
use Rattle.std.specs.Prelude.{List, [], ◌∷◌, map, Result, Ok, Err}
use Rattle.packing_terms.specs.declared.Exclusion.{Exclusion}
use Rattle.packing_terms.specs.Packing.{PlainInstance}
use Rattle.packing_terms.specs.Results.{◌>>=◌}
use Rattle.verdict_terms.specs.declared.check_answers.RefuseCode.{RefuseCode}
use Rattle.verdict_terms.specs.declared.check_answers.RefuseCode.TheVariants.{After}
use Rattle.verdict_terms.specs.Checking.{left_by, Checked, checked_by, kept_or}
use Rattle.verdict_terms.specs.FamilyRefutation.{FamilyToken, FamilyNode, Free}
use Rattle.verdict_terms.specs.FamilyFeeding.{family_children}
use Rattle.verdict_terms.specs.FamilyJudging.{family_refusal}

-- the open nodes after a token, or why it is refused; a whole tree takes no token
abbrev pub families_after : PlainInstance → List FamilyNode → FamilyToken → Result (List FamilyNode) RefuseCode
families_after instance [] t = Err After
families_after instance (n ∷ nodes) t = left_by (family_refusal instance n t) (family_children instance n t) nodes

-- all tokens, one by one
abbrev pub families_after_all : PlainInstance → List FamilyNode → List FamilyToken → Result (List FamilyNode) RefuseCode
families_after_all instance nodes [] = Ok nodes
families_after_all instance nodes (t ∷ ts) =
    families_after instance nodes t >>= λ left. families_after_all instance left ts

-- the nodes of a plain tree are free nodes
abbrev pub all_free : List (List Exclusion) → List FamilyNode
all_free nodes = map (λ es. Free es) nodes

-- what a token leaves of a plain tree, as free nodes
abbrev pub freed : Result (List (List Exclusion)) RefuseCode → Result (List FamilyNode) RefuseCode
freed (Ok nodes) = Ok (all_free nodes)
freed (Err code) = Err code

-- what is held after a token, and after them all; a refusal stays
abbrev pub family_checked : PlainInstance → Checked FamilyNode → FamilyToken → Checked FamilyNode
family_checked instance old t = kept_or old.refused old (checked_by old.nodes (families_after instance old.nodes t))

abbrev pub family_checked_all : PlainInstance → Checked FamilyNode → List FamilyToken → Checked FamilyNode
family_checked_all instance s [] = s
family_checked_all instance s (t ∷ ts) = family_checked_all instance (family_checked instance s t) ts
