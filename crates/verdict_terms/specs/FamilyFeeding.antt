-- Tokens of a refutation with families, fed one by one to a list of open nodes.
use Rattle.std.specs.Prelude.{ℕ, ◌≡◌, cond, List, [], ◌∷◌, ◌++◌, map}
use Rattle.packing_terms.specs.Packing.{PlainInstance}
use Rattle.packing_terms.specs.Feeding.{Accepts, children}
use Rattle.verdict_terms.specs.Families.{is_too_long}
use Rattle.verdict_terms.specs.FamilyRefutation.{FamilyToken, Plain, Family, FamilyNode, Free, Begun}
use Rattle.verdict_terms.specs.FamilyRefutation.{boxes_of, MayJoin, joined_by}

-- what a token asks of a node; where a family is begun, no plain token stands
abbrev pub AcceptsFamily : PlainInstance → FamilyNode → FamilyToken → Type 0
AcceptsFamily instance n (Family i vs) = MayJoin instance n i vs
AcceptsFamily instance (Free es) (Plain t) = Accepts instance es t
AcceptsFamily instance (Begun es i us) (Plain t) = ⊥

-- what is left of a node when boxes have joined: nothing once its family is too long
abbrev pub left_joined : PlainInstance → FamilyNode → ℕ → List ℕ → List FamilyNode
left_joined instance n i vs = cond (is_too_long instance i (boxes_of n ++ vs)) [] (joined_by n i vs ∷ [])

-- the nodes that a token puts in the place of its node
abbrev pub family_children : PlainInstance → FamilyNode → FamilyToken → List FamilyNode
family_children instance n (Family i vs) = left_joined instance n i vs
family_children instance (Free es) (Plain t) = map (λ fs. Free fs) (children es t)
family_children instance (Begun es i us) (Plain t) = []

-- The tokens are accepted one by one from the first nodes on, and leave the last ones.
abbrev pub FeedsFamilies : PlainInstance → List FamilyNode → List FamilyToken → List FamilyNode → Type 0
FeedsFamilies instance nodes [] left = nodes ≡ left
FeedsFamilies instance [] (t ∷ ts) left = ⊥
FeedsFamilies instance (n ∷ nodes) (t ∷ ts) left =
    AcceptsFamily instance n t × FeedsFamilies instance (family_children instance n t ++ nodes) ts left
