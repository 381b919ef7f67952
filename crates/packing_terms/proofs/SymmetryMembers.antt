-- What is among the symmetry facts, and that each is at boxes that are there.
use Rattle.std.proofs.Common.{◌≡◌, ◌≢◌, ℕ, suc, ◌-◌, ◌<◌, ◌≤◌, ◌⊎◌, inl, inr, refl, sym, ap, subst, ◌∙◌, arith, Bool}
use Rattle.std.proofs.Common.{true, false, cond, List, [], ◌∷◌, ◌++◌, Option, Some, None}
use Rattle.std.specs.List.{filter, flat_map, range_with_len, AllByRecursion}
use Rattle.std.proofs.lemmas.Bool.{cases_lt, lt-ltb, le-ltb, eqb-true, eq-eqb}
use Rattle.packing_terms.specs.declared.Exclusion.{Exclusion}
use Rattle.packing_terms.specs.Packing.{PlainInstance, dims, box_count, written_side, side}
use Rattle.packing_terms.specs.Exclusions.{IsEdge}
use Rattle.packing_terms.specs.Rules.{AreBoxesAmong}
use Rattle.packing_terms.specs.Sums.{below}
use Rattle.packing_terms.proofs.Members.{IsIn, append_in, map_in, flat_map_in, filter_in, range_in, in_range, all_at}
use Rattle.packing_terms.proofs.Members.{all_from}
use Rattle.packing_terms.specs.Rank.{ranked, in_order}
use Rattle.packing_terms.specs.Exclusions.{AreAtEdges}
use Rattle.packing_terms.proofs.RankLemmas.{ranked_are_boxes}
use Rattle.packing_terms.specs.Facts.{have_equal_sides, single_boxes, first_two, not_after, not_after_in, twin_facts}
use Rattle.packing_terms.specs.Facts.{symmetry_facts}
use Rattle.packing_terms.specs.Orders.{IsEquivalence}

-- ---- the first two of distinct boxes

each_filtered : (P : ℕ → Type 0) (p : ℕ → Bool) (xs : List ℕ) → AllByRecursion P xs → AllByRecursion P (filter p xs)
each_filtered P p [] h = tt
each_filtered P p (x ∷ xs) h = go (p x) (each_filtered P p xs h.1)
  where
    go : (b : Bool) → AllByRecursion P (filter p xs) → AllByRecursion P (cond b (x ∷ filter p xs) (filter p xs))
    go true rest = (h.0, rest)
    go false rest = rest

filtered_boxes : (n : ℕ) (p : ℕ → Bool) (xs : List ℕ) → AreBoxesAmong n xs → AreBoxesAmong n (filter p xs)
filtered_boxes n p [] b = tt
filtered_boxes n p (x ∷ xs) b = go (p x) (filtered_boxes n p xs b.2)
  where
    go : (c : Bool) → AreBoxesAmong n (filter p xs) → AreBoxesAmong n (cond c (x ∷ filter p xs) (filter p xs))
    go true rest = (b.0, each_filtered (λ u. x ≢ u) p xs b.1, rest)
    go false rest = rest

-- two boxes that are there, of the list, the lower number first
pub record IsPairOf (n : ℕ) (xs : List ℕ) (q : ℕ × ℕ) : Type 0 where
  pub rising : q.0 < q.1
  pub there : q.1 < n
  pub first : IsIn q.0 xs
  pub second : IsIn q.1 xs

ordered : (u v : ℕ) → u < v → in_order u v ≡ (u, v)
ordered u v l = rw (lt-ltb u v l) refl

turned : (u v : ℕ) → v ≤ u → in_order u v ≡ (v, u)
turned u v l = rw (le-ltb u v l) refl

pub first_two_is : (n : ℕ) (xs : List ℕ) → AreBoxesAmong n xs → (q : ℕ × ℕ) → first_two xs ≡ Some q → IsPairOf n xs q
first_two_is n [] b q e = absurd (cc (e))
first_two_is n (u ∷ []) b q e = absurd (cc (e))
first_two_is n (u ∷ v ∷ vs) b q e = go (cases_lt u v)
  where
    same : in_order u v ≡ q
    same = cc (e)

    go : (u < v) ⊎ (v ≤ u) → IsPairOf n (u ∷ v ∷ vs) q
    go (inl l) = subst (λ (p : ℕ × ℕ). IsPairOf n (u ∷ v ∷ vs) p) (sym (ordered u v l) ∙ same)
        (record { rising = l; there = b.2.0; first = inl refl; second = inr (inl refl) })
    go (inr l) = subst (λ (p : ℕ × ℕ). IsPairOf n (u ∷ v ∷ vs) p) (sym (turned u v l) ∙ same)
        (record {
          rising = (let ne : u ≢ v = b.1.0 in omega arith);
          there = b.0;
          first = inr (inl refl);
          second = inl refl;
        })

-- ---- equal sides

module _ (instance : PlainInstance) where
  pub sides_of : (u v : ℕ) → have_equal_sides instance u v ≡ true → (i : ℕ) → i < dims instance
      → written_side instance u i ≡ written_side instance v i
  sides_of u v e i l = eqb-true _ _
      (all_at _ i (below (dims instance)) e (in_range 0 (dims instance) i (omega arith) (omega arith)))

  from_sides : (u v : ℕ) → ((i : ℕ) → i < dims instance → written_side instance u i ≡ written_side instance v i)
      → have_equal_sides instance u v ≡ true
  from_sides u v h = all_from _ (below (dims instance))
      (λ i m. eq-eqb _ _ (h i (let r = range_in 0 (dims instance) i m in omega (arith, r))))

  pub equal_sides : IsEquivalence (have_equal_sides instance)
  equal_sides = record {
    itself = λ v. from_sides v v (λ i l. refl);
    turned = λ u v e. from_sides v u (λ i l. sym (sides_of u v e i l));
    joined = λ u v w e f. from_sides u w (λ i l. sides_of u v e i l ∙ sides_of v w f i l);
  }

  pub working_sides : (u v : ℕ) → have_equal_sides instance u v ≡ true → (i : ℕ) → i < dims instance
      → side instance u i ≡ side instance v i
  working_sides u v e i l = let h = sides_of u v e i l in omega (arith, h)

  -- ---- the facts

  pub single_pair : (q : ℕ × ℕ) → first_two (single_boxes instance) ≡ Some q
      → IsPairOf (box_count instance) (single_boxes instance) q
  single_pair q e = first_two_is (box_count instance) (single_boxes instance)
      (filtered_boxes (box_count instance) _ (ranked instance) (ranked_are_boxes instance)) q e

  pub ranked_pair : (q : ℕ × ℕ) → first_two (ranked instance) ≡ Some q
      → IsPairOf (box_count instance) (ranked instance) q
  ranked_pair q e = first_two_is (box_count instance) (ranked instance) (ranked_are_boxes instance) q e

  -- why an exclusion is a fact
  pub data IsFact : Exclusion → Type 0 where
    of_twins : {e : Exclusion} (u v : ℕ) → u < v → v < box_count instance → have_equal_sides instance u v ≡ true
        → e ≡ not_after 0 (u, v) → IsFact e
    of_singles : {e : Exclusion} (q : ℕ × ℕ) → first_two (single_boxes instance) ≡ Some q → e ≡ not_after 0 q → IsFact e
    of_firsts : {e : Exclusion} (q : ℕ × ℕ) (i : ℕ) → first_two (ranked instance) ≡ Some q → 1 ≤ i → i < dims instance
        → e ≡ not_after i q → IsFact e

  in_pair : (is : List ℕ) (o : Option (ℕ × ℕ)) (e : Exclusion) → IsIn e (not_after_in is o)
      → (q : ℕ × ℕ) × (i : ℕ) × (o ≡ Some q) × IsIn i is × (e ≡ not_after i q)
  in_pair is None e h = absurd h
  in_pair is (Some q) e h = let m = map_in (λ i. not_after i q) e is h in (q, m.0, refl, m.1, m.2)

  pub fact_of : (e : Exclusion) → IsIn e (symmetry_facts instance) → IsFact e
  fact_of e h = outer (append_in e
      (flat_map (twin_facts instance) (below (box_count instance))
      ++ not_after_in (0 ∷ []) (first_two (single_boxes instance))) _ h)
    where
      twins : IsIn e (flat_map (twin_facts instance) (below (box_count instance))) → IsFact e
      twins k =
          let f = flat_map_in (twin_facts instance) e (below (box_count instance)) k in
          let u = f.0 in
          let m = map_in (λ v. not_after 0 (u, v)) e _ f.2 in
          let v = m.0 in
          let g = filter_in (λ w. have_equal_sides instance u w) v
          (range_with_len (suc u) (box_count instance - suc u)) m.1 in
          let r = range_in (suc u) (box_count instance - suc u) v g.0 in
          of_twins u v (omega (arith, r)) (omega (arith, r)) g.1 m.2

      singles : IsIn e (not_after_in (0 ∷ []) (first_two (single_boxes instance))) → IsFact e
      singles k = go (in_pair (0 ∷ []) (first_two (single_boxes instance)) e k)
        where
          go : (q : ℕ × ℕ) × (i : ℕ) × (first_two (single_boxes instance) ≡ Some q) × IsIn i (0 ∷ [])
              × (e ≡ not_after i q) → IsFact e
          go (q, i, f, inl z, g) = of_singles q f (g ∙ ap (λ j. not_after j q) z)
          go (q, i, f, inr z, g) = absurd z

      firsts : IsIn e (not_after_in (range_with_len 1 (dims instance - 1)) (first_two (ranked instance))) → IsFact e
      firsts k =
          let p = in_pair (range_with_len 1 (dims instance - 1)) (first_two (ranked instance)) e k in
          let r = range_in 1 (dims instance - 1) p.1 p.3 in
          of_firsts p.0 p.1 p.2 (omega (arith, r)) (omega (arith, r)) p.4

      inner : IsIn e (flat_map (twin_facts instance) (below (box_count instance)))
          ⊎ IsIn e (not_after_in (0 ∷ []) (first_two (single_boxes instance))) → IsFact e
      inner (inl k) = twins k
      inner (inr k) = singles k

      outer : IsIn e (flat_map (twin_facts instance) (below (box_count instance))
          ++ not_after_in (0 ∷ []) (first_two (single_boxes instance)))
          ⊎ IsIn e (not_after_in (range_with_len 1 (dims instance - 1)) (first_two (ranked instance))) → IsFact e
      outer (inl k) = inner (append_in e (flat_map (twin_facts instance) (below (box_count instance))) _ k)
      outer (inr k) = firsts k

  -- ---- they are at edges

  edge_at : (i : ℕ) (q : ℕ × ℕ) → i < dims instance → q.0 < q.1 → q.1 < box_count instance → IsEdge instance i q.0 q.1
  edge_at i q m l h = record { dim = m; first = omega arith; second = h; distinct = λ e. omega (arith, e, l) }

  fact_edge : 1 ≤ dims instance → (e : Exclusion) → IsFact e → IsEdge instance e.dim e.u e.v
  fact_edge d e (of_twins u v l h s g) =
      subst (λ (x : Exclusion). IsEdge instance x.dim x.u x.v) (sym g) (edge_at 0 (u, v) (omega (arith, d)) l h)
  fact_edge d e (of_singles q f g) =
      let p = single_pair q f in subst (λ (x : Exclusion). IsEdge instance x.dim x.u x.v) (sym g)
      (edge_at 0 q (omega (arith, d)) p.rising p.there)
  fact_edge d e (of_firsts q i f l m g) =
      let p = ranked_pair q f in subst (λ (x : Exclusion). IsEdge instance x.dim x.u x.v) (sym g)
      (edge_at i q m p.rising p.there)

  pub edge_of : 1 ≤ dims instance → (e : Exclusion) → IsIn e (symmetry_facts instance) → IsEdge instance e.dim e.u e.v
  edge_of d e h = fact_edge d e (fact_of e h)

  at_edges : (es : List Exclusion) → ((e : Exclusion) → IsIn e es → IsEdge instance e.dim e.u e.v)
      → AreAtEdges instance es
  at_edges [] h = tt
  at_edges (e ∷ es) h = (h e (inl refl), at_edges es (λ x i. h x (inr i)))

  pub facts_at_edges : 1 ≤ dims instance → AreAtEdges instance (symmetry_facts instance)
  facts_at_edges d = at_edges (symmetry_facts instance) (edge_of d)
