-- A family has at most as many boxes as there are, since they are distinct.
use Rattle.std.proofs.Common.{◌≢◌, ℕ, zero, suc, pred, ◌≤◌, inl, inr, refl, ap, arith, List, [], ◌∷◌, ◌++◌, map, length}
use Rattle.std.specs.List.{AllByRecursion}
use Rattle.std.proofs.lemmas.List.{length-map}
use Rattle.packing_terms.specs.declared.Exclusion.{Exclusion}
use Rattle.packing_terms.specs.Packing.{PlainInstance, box_count}
use Rattle.packing_terms.specs.Rules.{AreBoxes}
use Rattle.packing_terms.proofs.Members.{IsIn, in_append}
use Rattle.packing_terms.proofs.Boxes.{each_in, boxes_few}
use Rattle.verdict_terms.specs.Families.{AreBeside, AreAside, IsBoxNo, IsFamily}

-- distinct numbers of the text stay distinct when they are counted from 0
pred_differs : (u v : ℕ) → 1 ≤ u → 1 ≤ v → u ≢ v → pred u ≢ pred v
pred_differs zero v l m d = absurd (omega (arith, l))
pred_differs u zero l m d = absurd (omega (arith, m))
pred_differs (suc u) (suc v) l m d = λ e. d (ap suc e)

module _ (instance : PlainInstance) (es : List Exclusion) (i : ℕ) where
  differ_behind : (us vs : List ℕ) → AreAside instance es i us vs → AllByRecursion (λ v. IsBoxNo instance v) vs
      → (u : ℕ) → 1 ≤ u → IsIn u us → AllByRecursion (λ w. pred u ≢ w) (map pred vs)
  differ_behind us [] h named u l k = tt
  differ_behind us (v ∷ vs) h named u l k = (
    pred_differs u v l named.0.0 (each_in (λ w. AreBeside instance es i w v) us h.0 u k).0,
    differ_behind (us ++ v ∷ []) vs h.1 named.1 u l (in_append u us (v ∷ []) (inl k)),
  )

  are_boxes : (us vs : List ℕ) → AreAside instance es i us vs → AllByRecursion (λ v. IsBoxNo instance v) vs
      → AreBoxes instance (map pred vs)
  are_boxes us [] h named = tt
  are_boxes us (v ∷ vs) h named = (
    (let there = named.0 in omega (arith, there)),
    differ_behind (us ++ v ∷ []) vs h.1 named.1 v named.0.0 (in_append v us (v ∷ []) (inr (inl refl))),
    are_boxes (us ++ v ∷ []) vs h.1 named.1,
  )

  pub family_few : (vs : List ℕ) → IsFamily instance es i vs → length vs ≤ box_count instance
  family_few vs f =
      let few = boxes_few (box_count instance) (map pred vs) (are_boxes [] vs f.aside f.boxes) in
      let same = length-map vs pred in
      omega (arith, few, same)
