-- Inner refutations: lists of tokens that show that no packing of an instance respects a set of
-- exclusions.
--
-- A refutation is a tree, written in prefix order. Each split covers every relation that its pair
-- may still have, and each leaf is impossible:
--
--     Order 1 1 2                        the pair 1, 2 is apart in dimension 1
--       |-- u before v: Rules            whose closure has a conflict
--       `-- v before u: Scales ..        whose sides are too long by a conservative scale
use Rattle.std.specs.Prelude.{ℕ, pred, ◌<◌, ◌≤◌, ◌≡◌, ◌⊎◌, List, [], ◌∷◌, ◌++◌}
use Rattle.packing_terms.specs.declared.Rel.{Rel}
use Rattle.packing_terms.specs.declared.Rel.TheVariants.{Overlap, Before, After}
use Rattle.packing_terms.specs.declared.Exclusion.{Exclusion}
use Rattle.packing_terms.specs.declared.ScaleFn.{ScaleFn}
use Rattle.packing_terms.specs.Packing.{PlainInstance, dims, box_count, container_side, side}
use Rattle.packing_terms.specs.Exclusions.{excludes, exclusion_at}
use Rattle.packing_terms.specs.Closure.{IsDerived, HasConflict}
use Rattle.packing_terms.specs.Scales.{Exceeds}
use Rattle.packing_terms.specs.Tokens.{PlainToken}
use Rattle.packing_terms.specs.Tokens.PlainToken.{Apart, Order, Rules, TooLarge, Scales}

-- the exclusion of a relation in a dimension and at a pair that are given by the numbers of the
-- text
abbrev pub exclusion_in_text : ℕ → ℕ → ℕ → Rel → Exclusion
exclusion_in_text dim u v r = exclusion_at (pred dim) (pred u) (pred v) r

-- the numbers of the text name a dimension and two boxes, in rising order
pub record IsNamed (instance : PlainInstance) (dim u v : ℕ) : Type 0 where
  pub dim_from : 1 ≤ dim
  pub dim_to : dim ≤ dims instance
  pub u_from : 1 ≤ u
  pub rising : u < v
  pub v_to : v ≤ box_count instance

-- the closure of the exclusions has this one
abbrev pub Closes : PlainInstance → List Exclusion → Exclusion → Type 0
Closes instance es e = IsDerived instance (excludes es) e.dim e.u e.v e.rel

-- the closure of the exclusions leaves this relation open
abbrev pub LeavesOpen : PlainInstance → List Exclusion → Exclusion → Type 0
LeavesOpen instance es e = ¬ Closes instance es e

-- the closure has no conflict, and the mask there has overlap and another relation
pub record MaySplitApart (instance : PlainInstance) (es : List Exclusion) (dim u v : ℕ) : Type 0 where
  pub named : IsNamed instance dim u v
  pub no_conflict : ¬ HasConflict instance (excludes es)
  pub overlap : LeavesOpen instance es (exclusion_in_text dim u v Overlap)
  pub other : LeavesOpen instance es (exclusion_in_text dim u v Before)
      ⊎ LeavesOpen instance es (exclusion_in_text dim u v After)

-- the closure has no conflict, and the mask there is exactly before and after
pub record MaySplitOrder (instance : PlainInstance) (es : List Exclusion) (dim u v : ℕ) : Type 0 where
  pub named : IsNamed instance dim u v
  pub no_conflict : ¬ HasConflict instance (excludes es)
  pub overlap : Closes instance es (exclusion_in_text dim u v Overlap)
  pub before : LeavesOpen instance es (exclusion_in_text dim u v Before)
  pub after : LeavesOpen instance es (exclusion_in_text dim u v After)

-- the box is longer than the container in this dimension; the numbers are those of the text
pub record IsTooLarge (instance : PlainInstance) (box_no dim : ℕ) : Type 0 where
  pub box_from : 1 ≤ box_no
  pub box_to : box_no ≤ box_count instance
  pub dim_from : 1 ≤ dim
  pub dim_to : dim ≤ dims instance
  pub large : container_side instance (pred dim) < side instance (pred box_no) (pred dim)

-- The tokens refute the instance under the exclusions of the list. A refutation of the instance is
-- one under the empty list.
pub data Refutes (instance : PlainInstance) : List Exclusion → List PlainToken → Type 0 where
  by_rules : {es : List Exclusion} → HasConflict instance (excludes es) → Refutes instance es (Rules ∷ [])
  by_side : {es : List Exclusion} {v i : ℕ} → IsTooLarge instance v i → Refutes instance es (TooLarge v i ∷ [])
  by_scales : {es : List Exclusion} {fs : List ScaleFn} → Exceeds instance fs 1 → Refutes instance es (Scales fs ∷ [])
  by_apart : {es : List Exclusion} {i u v : ℕ} {l r z : List PlainToken} → MaySplitApart instance es i u v → z ≡ l ++ r
      → Refutes instance (exclusion_in_text i u v Overlap ∷ es) l
      → Refutes instance (exclusion_in_text i u v Before ∷ exclusion_in_text i u v After ∷ es) r
      → Refutes instance es (Apart i u v ∷ z)
  by_order : {es : List Exclusion} {i u v : ℕ} {l r z : List PlainToken} → MaySplitOrder instance es i u v → z ≡ l ++ r
      → Refutes instance (exclusion_in_text i u v After ∷ es) l
      → Refutes instance (exclusion_in_text i u v Before ∷ es) r
      → Refutes instance es (Order i u v ∷ z)
