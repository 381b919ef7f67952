-- What the tests of a node say of its closure.
use Rattle.std.proofs.Common.{◌≡◌, ℕ, suc, ◌<◌, ◌⊎◌, inl, inr, refl, sym, ◌∙◌, arith, true, false, not, ◌&&◌, ◌||◌}
use Rattle.std.proofs.Common.{List, [], ◌∷◌, ◌++◌, IsTrue}
use Rattle.std.proofs.lemmas.Bool.{true≢false, or_cases, and_parts}
use Rattle.packing_terms.specs.declared.Rel.{Rel}
use Rattle.packing_terms.specs.declared.Rel.TheVariants.{Overlap, Before, After}
use Rattle.packing_terms.specs.declared.Exclusion.{Exclusion}
use Rattle.packing_terms.specs.Packing.{PlainInstance, dims, box_count}
use Rattle.packing_terms.specs.Exclusions.{Exclusions, IsEdge, is_of, excludes, IsSurelyBefore, AreAtEdges}
use Rattle.packing_terms.specs.Rules.{Follows}
use Rattle.packing_terms.specs.Closure.{IsDerivation, IsSubset, IsSymmetric}
use Rattle.packing_terms.proofs.Sets.{of_own}
use Rattle.packing_terms.proofs.Members.{IsIn, any_from, range_in}
use Rattle.packing_terms.specs.Rounds.{closure, all_exclusions}
use Rattle.packing_terms.specs.Sums.{below}
use Rattle.packing_terms.specs.Steps.{open_count}
use Rattle.packing_terms.proofs.RoundsLemmas.{closure_keeps, rounds_derived, given, follows_edge, length_filter_fewer}
use Rattle.packing_terms.proofs.RoundsLemmas.{in_all, excludes_own}
use Rattle.packing_terms.proofs.Drawn.{is_not, not_so}
use Rattle.tree_terms.specs.InnerTree.{is_settled}

module _ (instance : PlainInstance) where
  -- exclusions at edges derive exclusions at edges
  turned_edge : (i u v : ℕ) → IsEdge instance i u v → IsEdge instance i v u
  turned_edge i u v p = record { dim = p.dim; first = p.second; second = p.first; distinct = λ e. p.distinct (sym e) }

  pub excluded_edge : (es : List Exclusion) → AreAtEdges instance es → (i u v : ℕ) (r : Rel)
      → IsTrue (excludes es i u v r) → IsEdge instance i u v
  excluded_edge [] p i u v r h = absurd (true≢false (sym h))
  excluded_edge (e ∷ es) p i u v r h = go (or_cases _ _ h) (excluded_edge es p.1 i u v r)
    where
      go : (is_of e i u v r ≡ true) ⊎ (excludes es i u v r ≡ true)
          → (IsTrue (excludes es i u v r) → IsEdge instance i u v) → IsEdge instance i u v
      go (inl k) rest = of_own (λ j a b s. IsEdge instance j a b) (λ j a b s q. turned_edge j a b q) e i u v r k p.0
      go (inr k) rest = rest k

  derivation_edges : (es steps : List Exclusion) → AreAtEdges instance es → IsDerivation instance (excludes es) steps
      → AreAtEdges instance steps
  derivation_edges es [] p d = tt
  derivation_edges es (e ∷ steps) p d = (go d.0, derivation_edges es steps p d.1)
    where
      go : IsTrue (excludes es e.dim e.u e.v e.rel) ⊎ Follows instance (excludes steps) e.dim e.u e.v e.rel
          → IsEdge instance e.dim e.u e.v
      go (inl k) = excluded_edge es p e.dim e.u e.v e.rel k
      go (inr k) = follows_edge instance (excludes steps) e.dim e.u e.v e.rel k

  pub closure_edges : (es : List Exclusion) → AreAtEdges instance es → AreAtEdges instance (closure instance es)
  closure_edges es p = derivation_edges es (closure instance es) p
      (rounds_derived instance (excludes es) _ es (given instance (excludes es) es (λ j a b s k. k)))

  -- a larger set with one more exclusion leaves fewer open
  abbrev pub opens : List Exclusion → ℕ
  opens es = open_count (dims instance) (box_count instance) es

  drop_open : (c fs : List Exclusion) → IsSubset (excludes c) (excludes fs) → (i u v : ℕ) (r : Rel) → i < dims instance
      → u < v → v < box_count instance
      → excludes c i u v r ≡ false → excludes fs i u v r ≡ true → opens fs < opens c
  drop_open c fs more i u v r hi huv hv shut there =
      length_filter_fewer (λ x. not (excludes c x.dim x.u x.v x.rel)) (λ x. not (excludes fs x.dim x.u x.v x.rel))
      (all_exclusions (dims instance) (box_count instance))
      (λ x k. is_not (excludes c x.dim x.u x.v x.rel)
      (λ y. not_so (excludes fs x.dim x.u x.v x.rel) k (more x.dim x.u x.v x.rel y)))
      (record { dim = i; u = u; v = v; rel = r }) (in_all instance i u v r hi huv hv)
      (is_not (excludes c i u v r) (λ y. true≢false (sym y ∙ shut))) (rw there refl)

  -- a child has fewer open relations
  pub below_child : (es : List Exclusion) (d : ℕ) (add : List Exclusion) (e : Exclusion)
      → IsIn e (add ++ closure instance es)
      → IsSubset (excludes (closure instance es)) (excludes (add ++ closure instance es))
      → e.dim < dims instance → e.u < e.v → e.v < box_count instance
      → excludes (closure instance es) e.dim e.u e.v e.rel ≡ false
      → opens (closure instance es) < suc d → opens (closure instance (add ++ closure instance es)) < d
  below_child es d add e there more hi huv hv shut small =
      let l = drop_open (closure instance es) (closure instance (add ++ closure instance es))
      (λ j a b s k. closure_keeps instance (add ++ closure instance es) j a b s (more j a b s k)) e.dim e.u e.v e.rel
      hi huv hv shut
      (closure_keeps instance (add ++ closure instance es) e.dim e.u e.v e.rel
      (excludes_own e (add ++ closure instance es) there)) in
      omega arith

module _ (X : Exclusions) (d n : ℕ) where
  -- a pair that passes the test is settled
  pub settled_pair : IsSymmetric X → (p : ℕ × ℕ) → is_settled X d p ≡ true
      → (i : ℕ) × (i < d) × (IsSurelyBefore X i p.0 p.1 ⊎ IsSurelyBefore X i p.1 p.0)
  settled_pair symmetric p h =
      let a = any_from (λ i. X i p.0 p.1 Overlap && (X i p.0 p.1 Before || X i p.0 p.1 After)
      && not (X i p.0 p.1 Before && X i p.0 p.1 After)) (below d) h in
      let q = and_parts _ _ a.passes in
      let q' = and_parts _ _ q.0 in
      let r = range_in 0 d a.item a.is_in in
      (a.item, omega (arith, r), go a.item q'.0 (or_cases _ _ q'.1))
    where
      go : (i : ℕ) → X i p.0 p.1 Overlap ≡ true → (X i p.0 p.1 Before ≡ true) ⊎ (X i p.0 p.1 After ≡ true)
          → IsSurelyBefore X i p.0 p.1 ⊎ IsSurelyBefore X i p.1 p.0
      go i o (inl b) = inr (symmetric i p.0 p.1 Overlap o, symmetric i p.0 p.1 Before b)
      go i o (inr a) = inl (o, a)
