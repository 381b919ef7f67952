-- The stack of all boxes, one box after another.
use Rattle.std.proofs.Common.{◌≡◌, ℕ, suc, ◌+◌, ◌-◌, ◌*◌, ◌<◌, ◌≤◌, sym, ap, ap₂, ◌∙◌, arith, List, [], ◌∷◌, ◌++◌, map}
use Rattle.std.proofs.Common.{append_assoc, eqb, if◌then◌else◌}
use Rattle.std.specs.List.{flat_map}
use Rattle.std.proofs.lemmas.List.FromFn.{map-range_with_len_more}
use Rattle.packing_terms.specs.Packing.{PlainInstance, dims, box_count}
use Rattle.packing_terms.specs.Limits.{IsInternalInstance, max_side}
use Rattle.packing_terms.proofs.Internal.{side_small}
use Rattle.packing_terms.specs.Sums.{sum_below, below}
use Rattle.packing_terms.proofs.Ranges.{flat_map_last_below}
use Rattle.tree_terms.specs.Levels.{last_side}
use Rattle.strip_solver.specs.Stacked.{stacked}

-- the boxes below v in a stack
pub record IsStack (instance : PlainInstance) (v : ℕ) (places : List ℕ) (height : ℕ) : Type 0 where
  pub places_are : places ≡ flat_map (λ u. stacked (dims instance) (sum_below u (λ x. last_side instance x))) (below v)
  pub height_is : height ≡ sum_below v (λ x. last_side instance x)
  pub to : height ≤ v * max_side

pub stack_next : (instance : PlainInstance) → IsInternalInstance instance
    → (v : ℕ) (places more : List ℕ) (height d side : ℕ) → v < box_count instance
    → IsStack instance v places height → d ≡ dims instance → more ≡ places ++ stacked d height
    → side ≡ last_side instance v → IsStack instance (v + 1) more (height + side)
stack_next instance limits v places more height d side l h e is s = record {
  places_are = is ∙ (ap₂ (λ (xs : List ℕ) (ys : List ℕ). xs ++ ys) h.places_are (ap₂ stacked e h.height_is)
      ∙ sym (flat_map_last_below (λ u. stacked (dims instance) (sum_below u (λ x. last_side instance x))) v));
  height_is = (let f : v + 1 ≡ suc v = omega arith in rw f (ap₂ (λ (a : ℕ) (b : ℕ). a + b) h.height_is s));
  to = (let m = limits.container.dimensions in
      let r = side_small instance limits v (dims instance - 1) l (omega (arith, m)) in let a = h.to in
      omega (arith, r, a, s));
}

-- one coordinate more
pub coordinates_next : (d height k c : ℕ) (places old more : List ℕ)
    → places ≡ old ++ map (λ i. if eqb (i + 1) d then height else 0) (below k)
    → more ≡ places ++ c ∷ [] → c ≡ (if eqb (k + 1) d then height else 0)
    → more ≡ old ++ map (λ i. if eqb (i + 1) d then height else 0) (below (k + 1))
coordinates_next d height k c places old more h m e =
    m ∙ (ap₂ (λ (xs : List ℕ) (x : ℕ). xs ++ x ∷ []) h e
    ∙ (append_assoc old (map (λ i. if eqb (i + 1) d then height else 0) (below k))
    ((if eqb (k + 1) d then height else 0) ∷ [])
    ∙ ap (λ (xs : List ℕ). old ++ xs)
    (sym (map-range_with_len_more (λ i. if eqb (i + 1) d then height else 0) 0 k k (omega arith)))))
