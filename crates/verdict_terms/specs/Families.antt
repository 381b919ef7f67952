-- Families of boxes side by side: boxes of which every two are apart in one dimension.
--
-- The projections of such boxes on that dimension are disjoint intervals of the container's side.
-- So in a packing their sides are together at most that side, and a node whose closure has a longer
-- family holds no packing.
--
--     container 10 7, four boxes 6 2: every two are too wide to stand beside one another, so they
--     are apart in dimension 2; their heights are 2 + 2 + 2 + 2, which is more than 7
--
-- Of three such boxes the rule TRIPLE says the same, so a family of four is the smallest that says
-- more than the closure.
--
-- Source: the stable sets of a component graph are feasible in its dimension (Fekete, Schepers and
-- van der Veen, 2007, the second condition of a packing class).
use Rattle.std.specs.Prelude.{ℕ, pred, ◌≢◌, ◌≤◌, Bool, nat_lt, List, [], ◌∷◌, ◌++◌}
use Rattle.std.specs.List.{sum_by, AllByRecursion}
use Rattle.packing_terms.specs.declared.Rel.TheVariants.{Overlap}
use Rattle.packing_terms.specs.declared.Exclusion.{Exclusion}
use Rattle.packing_terms.specs.Packing.{PlainInstance, dims, box_count, container_side, side}
use Rattle.packing_terms.specs.Refutation.{exclusion_in_text, Closes}

-- two boxes that are distinct, and apart in the dimension by the closure of the exclusions; all
-- numbers are those of the text
abbrev pub AreBeside : PlainInstance → List Exclusion → ℕ → ℕ → ℕ → Type 0
AreBeside instance es i u v = (u ≢ v) × Closes instance es (exclusion_in_text i u v Overlap)

-- each box of the second list is beside all boxes of the first, and beside those before it in the
-- second
abbrev pub AreAside : PlainInstance → List Exclusion → ℕ → List ℕ → List ℕ → Type 0
AreAside instance es i us [] = Unit {0}
AreAside instance es i us (v ∷ vs) =
    AllByRecursion (λ u. AreBeside instance es i u v) us × AreAside instance es i (us ++ v ∷ []) vs

-- the number of the text names a box
abbrev pub IsBoxNo : PlainInstance → ℕ → Type 0
IsBoxNo instance v = (1 ≤ v) × (v ≤ box_count instance)

-- the numbers name a dimension, and boxes of which every two are beside each other
pub record IsFamily (instance : PlainInstance) (es : List Exclusion) (i : ℕ) (vs : List ℕ) : Type 0 where
  pub dim_from : 1 ≤ i
  pub dim_to : i ≤ dims instance
  pub boxes : AllByRecursion (λ v. IsBoxNo instance v) vs
  pub aside : AreAside instance es i [] vs

-- the working sides of the boxes in the dimension, together
abbrev pub family_length : PlainInstance → ℕ → List ℕ → ℕ
family_length instance i vs = sum_by (λ v. side instance (pred v) (pred i)) vs

-- whether they are together longer than the container
abbrev pub is_too_long : PlainInstance → ℕ → List ℕ → Bool
is_too_long instance i vs = nat_lt (container_side instance (pred i)) (family_length instance i vs)
