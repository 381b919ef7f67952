-- What a node begins with derives what its exclusions derive.
use Rattle.std.proofs.Common.{◌≡◌, ℕ, ◌+◌, ◌-◌, ◌≤◌, ◌⊎◌, inl, inr, refl, sym, ap, subst, ◌∙◌, arith, Bool}
use Rattle.std.proofs.Common.{true, false, not, is_some, List, [], ◌∷◌, ◌++◌, length, Option, Some, None, IsTrue}
use Rattle.std.proofs.lemmas.Bool.{true≢false, cases_Bool, or_cases}
use Rattle.std.proofs.lemmas.List.{length-append}
use Rattle.packing_terms.specs.declared.Rel.{Rel}
use Rattle.packing_terms.specs.declared.Exclusion.{Exclusion}
use Rattle.packing_terms.specs.Packing.{PlainInstance}
use Rattle.packing_terms.specs.Exclusions.{excludes, is_of}
use Rattle.packing_terms.specs.Closure.{IsDerived, Derives, IsSubset, IsStable}
use Rattle.packing_terms.proofs.Sets.{of_own, or_true, excludes_symmetric, excludes_rest}
use Rattle.packing_terms.proofs.Closures.{derives_from, given_derived}
use Rattle.packing_terms.specs.Places.{HasNoEmptyMask}
use Rattle.packing_terms.specs.Steps.{with_exclusion}
use Rattle.packing_terms.proofs.Applied.{with_keeps, with_own}
use Rattle.edge_state.specs.Edges.{PlainEdges, oldest}
use Rattle.edge_state.proofs.Oldest.{oldest_more, oldest_count, oldest_twice}
use Rattle.edge_state.proofs.Kept.{with_new, with_old, with_more}
use Rattle.refutation_check.specs.declared.node.OpenNode.{OpenNode}
use Rattle.refutation_check.specs.Nodes.{some_of, with_each, with_some, entered, node_exclusions, Stands, IsReady}

-- ---- one exclusion more

pub some_more : (es : List Exclusion) (o : Option Exclusion) → (more : List Exclusion) × (with_some es o ≡ more ++ es)
some_more es None = ([], refl)
some_more es (Some e) = with_more es e

pub oldest_with : (m : ℕ) (es : List Exclusion) (o : Option Exclusion) → m ≤ length es
    → oldest m (with_some es o) ≡ oldest m es
oldest_with m es o h = let w = some_more es o in rw w.1 (oldest_more m w.0 es h)

pub with_longer : (es : List Exclusion) (o : Option Exclusion) → length es ≤ length (with_some es o)
with_longer es o = let w = some_more es o in rw w.1 (omega (arith, length-append w.0 es))

pub entered_oldest : (n : OpenNode) (es : List Exclusion) (k : ℕ) → k ≤ n.mark → n.mark ≤ length es
    → oldest k (entered n es) ≡ oldest k es
entered_oldest n es k below h =
    let P = oldest n.mark es in
    let count = oldest_count n.mark es h in
    let longer = with_longer P n.second in
    oldest_with k (with_some P n.second) n.first (omega (arith, below, count, longer))
    ∙ (oldest_with k P n.second (omega (arith, below, count)) ∙ oldest_twice k n.mark es below h)

pub entered_longer : (n : OpenNode) (es : List Exclusion) → n.mark ≤ length es → n.mark ≤ length (entered n es)
entered_longer n es h =
    let P = oldest n.mark es in
    let count = oldest_count n.mark es h in
    let a = with_longer P n.second in
    let b = with_longer (with_some P n.second) n.first in
    omega (arith, count, a, b)

-- ---- what is derived

module _ (instance : PlainInstance) where
  -- the two lists derive the same
  pub record AreSame (es fs : List Exclusion) : Type 0 where
    pub there : Derives instance (excludes es) (excludes fs)
    pub back : Derives instance (excludes fs) (excludes es)

  derives_more : (es fs : List Exclusion) → IsSubset (excludes es) (excludes fs)
      → Derives instance (excludes es) (excludes fs)
  derives_more es fs more = derives_from instance (excludes es) (excludes fs)
      (λ i u v r k. given_derived instance fs i u v r (more i u v r k))

  with_parts : (es : List Exclusion) (e : Exclusion) (i u v : ℕ) (r : Rel)
      → excludes (with_exclusion es e) i u v r ≡ true → excludes (e ∷ es) i u v r ≡ true
  with_parts es e i u v r k = go (cases_Bool (excludes es e.dim e.u e.v e.rel))
    where
      go : (excludes es e.dim e.u e.v e.rel ≡ true) ⊎ (excludes es e.dim e.u e.v e.rel ≡ false)
          → excludes (e ∷ es) i u v r ≡ true
      go (inl h) = excludes_rest e es i u v r
          (subst (λ (l : List Exclusion). excludes l i u v r ≡ true) (with_old es e h) k)
      go (inr h) = subst (λ (l : List Exclusion). excludes l i u v r ≡ true) (with_new es e h) k

  with_same : (P A : List Exclusion) (e : Exclusion) → AreSame P A → AreSame (with_exclusion P e) (e ∷ A)
  with_same P A e same = record {
    there = derives_from instance (excludes (with_exclusion P e)) (excludes (e ∷ A))
        (λ i u v r k. out i u v r (or_cases _ _ (with_parts P e i u v r k)));
    back = derives_from instance (excludes (e ∷ A)) (excludes (with_exclusion P e))
        (λ i u v r k. in_ i u v r (or_cases _ _ k));
  }
    where
      out : (i u v : ℕ) (r : Rel) → (is_of e i u v r ≡ true) ⊎ (excludes P i u v r ≡ true)
          → IsDerived instance (excludes (e ∷ A)) i u v r
      out i u v r (inl k) = given_derived instance (e ∷ A) i u v r (or_true _ _ (inl k))
      out i u v r (inr k) = derives_more A (e ∷ A) (excludes_rest e A) i u v r
          (same.there i u v r (given_derived instance P i u v r k))

      in_ : (i u v : ℕ) (r : Rel) → (is_of e i u v r ≡ true) ⊎ (excludes A i u v r ≡ true)
          → IsDerived instance (excludes (with_exclusion P e)) i u v r
      in_ i u v r (inl k) = given_derived instance (with_exclusion P e) i u v r
          (of_own (λ j a b s. IsTrue (excludes (with_exclusion P e) j a b s)) (excludes_symmetric (with_exclusion P e))
          e i u v r k (with_own P e))
      in_ i u v r (inr k) = derives_more P (with_exclusion P e) (with_keeps P e) i u v r
          (same.back i u v r (given_derived instance A i u v r k))

  -- the exclusions that a refutation begins with, whatever their order
  pub each_same : (es : List Exclusion) → AreSame (with_each es) es
  each_same [] = record { there = λ i u v r d. d; back = λ i u v r d. d }
  each_same (e ∷ es) = with_same (with_each es) es e (each_same es)

  some_same : (P A : List Exclusion) (o : Option Exclusion) → AreSame P A → AreSame (with_some P o) (some_of o ++ A)
  some_same P A None same = same
  some_same P A (Some e) same = with_same P A e same

  stands_same : (A P : List Exclusion) (first : Option Exclusion) → Stands instance A first P → AreSame P A
  stands_same A P None h = record { there = h.0; back = h.1 }
  stands_same A P (Some e) h = record {
    there = derives_from instance (excludes P) (excludes A) (λ i u v r k. (h.exact i u v r).0 k);
    back = λ i u v r d. given_derived instance P i u v r ((h.exact i u v r).1 d);
  }

  pub entered_same : (n : OpenNode) (A es : List Exclusion) → Stands instance A n.first (oldest n.mark es)
      → AreSame (entered n es) (node_exclusions n A)
  entered_same n A es h =
      some_same (with_some (oldest n.mark es) n.second) (some_of n.second ++ A) n.first
      (some_same (oldest n.mark es) A n.second (stands_same A (oldest n.mark es) n.first h))

pub ready_stable : (instance : PlainInstance) (first : Option Exclusion) (es : List Exclusion) → (first ≡ None → ⊥)
    → IsReady instance first es
    → IsStable instance (excludes es)
ready_stable instance None es some h = absurd (some refl)
ready_stable instance (Some e) es some h = h.0

pub ready_full : (instance : PlainInstance) (first : Option Exclusion) (es : List Exclusion) → (first ≡ None → ⊥)
    → IsReady instance first es
    → HasNoEmptyMask instance (excludes es)
ready_full instance None es some h = absurd (some refl)
ready_full instance (Some e) es some h = h.1

-- three steps in a row
pub entered_is : (n : OpenNode) (a b c d : PlainEdges) → b ≡ record a { trail = oldest n.mark a.trail }
    → c ≡ record b { trail = with_some b.trail n.second }
    → d ≡ record c { trail = with_some c.trail n.first } → d.trail ≡ entered n a.trail
entered_is n a b c d e f g =
    ap (λ (s : PlainEdges). s.trail) g
    ∙ (ap (λ (s : PlainEdges). with_some s.trail n.first) f
    ∙ ap (λ (s : PlainEdges). with_some (with_some s.trail n.second) n.first) e)

some_is : (first : Option Exclusion) → is_some first ≡ not false → first ≡ None → ⊥
some_is None e h = true≢false (sym e)
some_is (Some e) k h = absurd (cc (h))

pub ready_parts : (instance : PlainInstance) (n : OpenNode) (es table : List Exclusion) (none : Bool)
    → n.mark ≤ length es → IsReady instance n.first (oldest n.mark es)
    → table ≡ entered n es → none ≡ false → is_some n.first ≡ not none
    → IsStable instance (excludes (oldest n.mark table)) × HasNoEmptyMask instance (excludes (oldest n.mark table))
ready_parts instance n es table none within ready is e some =
    let same : oldest n.mark table ≡ oldest n.mark es =
    ap (λ (l : List Exclusion). oldest n.mark l) is ∙ entered_oldest n es n.mark (omega arith) within in
    let there : n.first ≡ None → ⊥ = some_is n.first (some ∙ ap (λ (b : Bool). not b) e) in (
      subst (λ (l : List Exclusion). IsStable instance (excludes l)) (sym same)
          (ready_stable instance n.first (oldest n.mark es) there ready),
      subst (λ (l : List Exclusion). HasNoEmptyMask instance (excludes l)) (sym same)
          (ready_full instance n.first (oldest n.mark es) there ready),
    )
