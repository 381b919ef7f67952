-- Inner refutations with one more leaf: a family of boxes side by side that is too long.
--
-- A family may have 128 boxes, more than a line has words, so it stands in several tokens one
-- behind another. A node is free, or a family is begun at it:
--
--     Order 2 1 2
--       |-- u before v: Family 2 (1 2 3)   begins a family, which isn't too long yet
--       |               Family 2 (5 8)     goes on with it: 1 2 3 5 8 are too long, which is a leaf
--       `-- v before u: Rules
--
-- Tokens and cases of `Refutes` stand beside the further ones, so that the definitions of plain
-- refutations stay as they are.
use Rattle.std.specs.Prelude.{ℕ, ◌≡◌, ◌≤◌, false, IsTrue, List, [], ◌∷◌, ◌++◌}
use Rattle.std.specs.List.{AllByRecursion}
use Rattle.packing_terms.specs.declared.Rel.TheVariants.{Overlap, Before, After}
use Rattle.packing_terms.specs.declared.Exclusion.{Exclusion}
use Rattle.packing_terms.specs.declared.ScaleFn.{ScaleFn}
use Rattle.packing_terms.specs.Packing.{PlainInstance, dims}
use Rattle.packing_terms.specs.Exclusions.{excludes}
use Rattle.packing_terms.specs.Closure.{HasConflict}
use Rattle.packing_terms.specs.Scales.{Exceeds}
use Rattle.packing_terms.specs.Tokens.{PlainToken}
use Rattle.packing_terms.specs.Tokens.PlainToken.{Apart, Order, Rules, TooLarge, Scales}
use Rattle.packing_terms.specs.Refutation.{exclusion_in_text, IsTooLarge, MaySplitApart, MaySplitOrder}
use Rattle.verdict_terms.specs.Families.{AreAside, IsBoxNo, is_too_long}

-- A plain token, or boxes of a family: its dimension, and the boxes that join it, by their numbers
-- in the text.
pub data FamilyToken : Type 0 where
  Plain : (token : PlainToken) → FamilyToken
  Family : (dim : ℕ) (boxes : List ℕ) → FamilyToken

-- An open node: free, with its exclusions, or with a family begun at it: its dimension, and its
-- boxes so far in the order of their tokens.
pub data FamilyNode : Type 0 where
  Free : (exclusions : List Exclusion) → FamilyNode
  Begun : (exclusions : List Exclusion) (dim : ℕ) (boxes : List ℕ) → FamilyNode

-- the exclusions of a node
abbrev pub exclusions_of : FamilyNode → List Exclusion
exclusions_of (Free es) = es
exclusions_of (Begun es i us) = es

-- the boxes of its family so far: none at a free node
abbrev pub boxes_of : FamilyNode → List ℕ
boxes_of (Free es) = []
boxes_of (Begun es i us) = us

-- a family that is begun keeps its dimension
abbrev pub IsOwnDim : FamilyNode → ℕ → Type 0
IsOwnDim (Free es) i = Unit {0}
IsOwnDim (Begun es j us) i = i ≡ j

-- The boxes join the family of the node, or begin one: the numbers name a dimension, which is that
-- of the family, and boxes; the closure of the node has no conflict; and each box is beside all
-- that stand before it.
pub record MayJoin (instance : PlainInstance) (n : FamilyNode) (i : ℕ) (vs : List ℕ) : Type 0 where
  pub own_dim : IsOwnDim n i
  pub dim_from : 1 ≤ i
  pub dim_to : i ≤ dims instance
  pub boxes : AllByRecursion (λ v. IsBoxNo instance v) vs
  pub no_conflict : ¬ HasConflict instance (excludes (exclusions_of n))
  pub aside : AreAside instance (exclusions_of n) i (boxes_of n) vs

-- the node when the boxes have joined
abbrev pub joined_by : FamilyNode → ℕ → List ℕ → FamilyNode
joined_by n i vs = Begun (exclusions_of n) i (boxes_of n ++ vs)

-- The tokens refute the instance at the node. A refutation of the instance is one at the free node
-- without exclusions.
pub data RefutesFamilies (instance : PlainInstance) : FamilyNode → List FamilyToken → Type 0 where
  by_rules : {es : List Exclusion} → HasConflict instance (excludes es)
      → RefutesFamilies instance (Free es) (Plain Rules ∷ [])
  by_side : {es : List Exclusion} {v i : ℕ} → IsTooLarge instance v i
      → RefutesFamilies instance (Free es) (Plain (TooLarge v i) ∷ [])
  by_scales : {es : List Exclusion} {fs : List ScaleFn} → Exceeds instance fs 1
      → RefutesFamilies instance (Free es) (Plain (Scales fs) ∷ [])
  by_family : {n : FamilyNode} {i : ℕ} {vs : List ℕ} → MayJoin instance n i vs
      → IsTrue (is_too_long instance i (boxes_of n ++ vs)) → RefutesFamilies instance n (Family i vs ∷ [])
  by_part : {n : FamilyNode} {i : ℕ} {vs : List ℕ} {z : List FamilyToken} → MayJoin instance n i vs
      → is_too_long instance i (boxes_of n ++ vs) ≡ false → RefutesFamilies instance (joined_by n i vs) z
      → RefutesFamilies instance n (Family i vs ∷ z)
  by_apart : {es : List Exclusion} {i u v : ℕ} {l r z : List FamilyToken} → MaySplitApart instance es i u v
      → z ≡ l ++ r → RefutesFamilies instance (Free (exclusion_in_text i u v Overlap ∷ es)) l
      → RefutesFamilies instance (Free (exclusion_in_text i u v Before ∷ exclusion_in_text i u v After ∷ es)) r
      → RefutesFamilies instance (Free es) (Plain (Apart i u v) ∷ z)
  by_order : {es : List Exclusion} {i u v : ℕ} {l r z : List FamilyToken} → MaySplitOrder instance es i u v
      → z ≡ l ++ r → RefutesFamilies instance (Free (exclusion_in_text i u v After ∷ es)) l
      → RefutesFamilies instance (Free (exclusion_in_text i u v Before ∷ es)) r
      → RefutesFamilies instance (Free es) (Plain (Order i u v) ∷ z)
