-- Some packing respects the symmetry facts, wherever there is a packing.
use Rattle.std.proofs.Common.{◌≡◌, ℕ, ◌+◌, ◌<◌, ◌≤◌, ◌⊎◌, inl, inr, refl, sym, ap, subst, ◌∙◌, arith, Bool, true, false}
use Rattle.std.proofs.Common.{not, ◌&&◌, eqb, leb, List, Option, Some, None}
use Rattle.std.proofs.lemmas.Bool.{cases_Bool, cases_eq, leb-true, leb-false, and_left, and_from, and_right, ne_eqb}
use Rattle.std.proofs.lemmas.Bool.{true≢false, not_from_false, not-true}
use Rattle.packing_terms.specs.declared.Rel.{Rel}
use Rattle.packing_terms.specs.declared.Rel.TheVariants.{Overlap, Before, After}
use Rattle.packing_terms.specs.declared.Exclusion.{Exclusion}
use Rattle.packing_terms.specs.Packing.{PlainInstance, IsPacking, HasPositiveSides, dims, box_count, side}
use Rattle.packing_terms.specs.Relations.{Holds, mirror}
use Rattle.packing_terms.specs.Exclusions.{Respects, excludes, is_of}
use Rattle.packing_terms.specs.Sums.{below}
use Rattle.packing_terms.proofs.Sets.{of_own}
use Rattle.packing_terms.proofs.Members.{IsIn, any_from, any_at, filter_in, in_range}
use Rattle.packing_terms.proofs.Working.{side_least}
use Rattle.packing_terms.specs.Rank.{ranked}
use Rattle.packing_terms.specs.Facts.{have_equal_sides, is_twin_of, has_twin, single_boxes, first_two, symmetry_facts}
use Rattle.packing_terms.specs.Orders.{Order}
use Rattle.packing_terms.proofs.Sorts.{order}
use Rattle.packing_terms.proofs.Layouts.{Ends, IsLayout, coordinates, layout_of, listed, listed_at, listed_packing}
use Rattle.packing_terms.proofs.Layouts.{mirrored, mirrored_on, mirrored_off, mirrored_layout, moved, moved_layout}
use Rattle.packing_terms.proofs.SymmetryMembers.{equal_sides, working_sides, single_pair, ranked_pair, IsFact, of_twins}
use Rattle.packing_terms.proofs.SymmetryMembers.{of_singles, of_firsts, fact_of}

-- places respect a list of exclusions where they respect each
respects_each : (instance : PlainInstance) (places : List ℕ) (es : List Exclusion)
    → ((e : Exclusion) → IsIn e es → ¬ Holds instance places e.dim e.u e.v e.rel)
    → Respects instance places (excludes es)
respects_each instance places es h i u v r k =
    let p = any_from (λ e. is_of e i u v r) es k in
    of_own (λ j a b s. ¬ Holds instance places j a b s) turn p.item i u v r p.passes (h p.item p.is_in)
  where
    turn : (j a b : ℕ) (s : Rel) → ¬ Holds instance places j a b s → ¬ Holds instance places j b a (mirror s)
    turn j a b Overlap none x = none (x.1, x.0)
    turn j a b Before none x = none x
    turn j a b After none x = none x

module _ (instance : PlainInstance) (sides : HasPositiveSides instance) (some : 1 ≤ dims instance) where
  -- dimensions in which a pair is turned, so that in those that are asked for its first box isn't after its second
  record IsTurned (p : ℕ → ℕ → ℕ) (o : Option (ℕ × ℕ)) (asked : ℕ → Bool) : Type 0 where
    test : ℕ → Bool
    only : (i : ℕ) → asked i ≡ false → test i ≡ false
    turned : (q : ℕ × ℕ) → o ≡ Some q → (i : ℕ) → i < dims instance → asked i ≡ true
        → ¬ Ends instance (mirrored instance test p) i q.1 q.0

  turn_pair : (p : ℕ → ℕ → ℕ) → IsLayout instance p → (q : ℕ × ℕ) → q.0 < box_count instance → q.1 < box_count instance
      → (asked : ℕ → Bool)
      → (i : ℕ) → i < dims instance → asked i ≡ true
      → ¬ Ends instance (mirrored instance (λ j. asked j && leb (p q.1 j + side instance q.1 j) (p q.0 j)) p) i q.1 q.0
  turn_pair p h q hu hv asked i l a ends = go (cases_Bool (leb (p q.1 i + side instance q.1 i) (p q.0 i)))
    where
      test : ℕ → Bool
      test = λ j. asked j && leb (p q.1 j + side instance q.1 j) (p q.0 j)

      go : (leb (p q.1 i + side instance q.1 i) (p q.0 i) ≡ true)
          ⊎ (leb (p q.1 i + side instance q.1 i) (p q.0 i) ≡ false) → ⊥
      go (inl e) =
          let on : (asked i && leb (p q.1 i + side instance q.1 i) (p q.0 i)) ≡ true = and_from _ _ a e in
          let f = mirrored_on instance (λ j. asked j && leb (p q.1 j + side instance q.1 j) (p q.0 j)) p q.0 i on in
          let g = mirrored_on instance (λ j. asked j && leb (p q.1 j + side instance q.1 j) (p q.0 j)) p q.1 i on in
          let b = leb-true _ _ e in
          let c = h.inside q.0 i hu l in
          let d = h.inside q.1 i hv l in
          let w = side_least instance sides q.0 i hu l in
          omega (arith, ends, f, g, b, c, d, w)
      go (inr e) =
          let off : (asked i && leb (p q.1 i + side instance q.1 i) (p q.0 i)) ≡ false = and_right _ _ e in
          let f = mirrored_off instance (λ j. asked j && leb (p q.1 j + side instance q.1 j) (p q.0 j)) p q.0 i off in
          let g = mirrored_off instance (λ j. asked j && leb (p q.1 j + side instance q.1 j) (p q.0 j)) p q.1 i off in
          let b = leb-false _ _ e in
          omega (arith, ends, f, g, b)

  turn : (p : ℕ → ℕ → ℕ) → IsLayout instance p → (o : Option (ℕ × ℕ))
      → ((q : ℕ × ℕ) → o ≡ Some q → (q.0 < q.1) × (q.1 < box_count instance))
      → (asked : ℕ → Bool) → IsTurned p o asked
  turn p h None there asked = record { test = λ i. false; only = λ i e. refl; turned = λ q e. absurd (cc (e)) }
  turn p h (Some q) there asked = record {
    test = λ j. asked j && leb (p q.1 j + side instance q.1 j) (p q.0 j);
    only = λ i e. and_left _ _ e;
    turned = λ x e i l a. go x e i l a;
  }
    where
      go : (x : ℕ × ℕ) → Some q ≡ Some x → (i : ℕ) → i < dims instance → asked i ≡ true
          → ¬ Ends instance (mirrored instance (λ j. asked j && leb (p q.1 j + side instance q.1 j) (p q.0 j))
          p) i x.1 x.0
      go x e i l a =
          let b = there q refl in
          let same : q ≡ x = cc (e) in
          subst (λ (y : ℕ × ℕ). ¬ Ends instance
          (mirrored instance (λ j. asked j && leb (p q.1 j + side instance q.1 j) (p q.0 j)) p) i y.1 y.0) same
          (turn_pair p h q (omega (arith, b)) b.1 asked i l a)

  -- coordinates of a packing that has what the facts say
  record IsReduced (p : ℕ → ℕ → ℕ) : Type 0 where
    layout : IsLayout instance p
    twins : (u v : ℕ) → u < v → v < box_count instance → have_equal_sides instance u v ≡ true → ¬ Ends instance p 0 v u
    singles : (q : ℕ × ℕ) → first_two (single_boxes instance) ≡ Some q → ¬ Ends instance p 0 q.1 q.0
    firsts : (q : ℕ × ℕ) → first_two (ranked instance) ≡ Some q → (i : ℕ) → 1 ≤ i → i < dims instance
        → ¬ Ends instance p i q.1 q.0

  abbrev is_first : ℕ → Bool
  is_first i = eqb i 0

  abbrev is_other : ℕ → Bool
  is_other i = not (eqb i 0)

  -- a box without a twin isn't moved
  single_stays : (f : ℕ → ℕ) (o : Order f (have_equal_sides instance) (box_count instance)) (v : ℕ)
      → v < box_count instance
      → IsIn v (single_boxes instance) → o.at v ≡ v
  single_stays f o v l h = go (cases_eq (o.at v) v)
    where
      alone : has_twin instance v ≡ false
      alone = not-true _ (filter_in (λ x. not (has_twin instance x)) v (ranked instance) h).1

      go : (o.at v ≡ v) ⊎ (o.at v ≡ v → ⊥) → o.at v ≡ v
      go (inl e) = e
      go (inr ne) =
          let twin : is_twin_of instance v (o.at v) ≡ true =
          and_from _ _ (not_from_false _ (ne_eqb (o.at v) v ne)) (o.in_class v) in
          let found = any_at (is_twin_of instance v) (o.at v) (below (box_count instance))
          (in_range 0 (box_count instance) (o.at v) (omega arith) (let w = o.within v l in omega (arith, w))) twin in
          absurd (true≢false (sym found ∙ alone))

  reduce : (p : ℕ → ℕ → ℕ) → IsLayout instance p → (q : ℕ → ℕ → ℕ) × IsReduced q
  reduce p h = first (turn p h (first_two (single_boxes instance))
      (λ q e. (let s = single_pair instance q e in (s.rising, s.there))) is_first)
    where
      first : IsTurned p (first_two (single_boxes instance)) is_first → (q : ℕ → ℕ → ℕ) × IsReduced q
      first a = second (order (λ v. mirrored instance a.test p v 0) (have_equal_sides instance) (equal_sides instance)
          (box_count instance))
        where
          second : Order (λ v. mirrored instance a.test p v 0) (have_equal_sides instance) (box_count instance)
              → (q : ℕ → ℕ → ℕ) × IsReduced q
          second o =
              third (moved_layout instance o.at (mirrored instance a.test p) o.within o.one_to_one
              (λ v i l. working_sides instance v (o.at v) (o.in_class v) i l)
              (mirrored_layout instance a.test p h))
            where
              third : IsLayout instance (moved instance o.at (mirrored instance a.test p))
                  → (q : ℕ → ℕ → ℕ) × IsReduced q
              third k =
                  fourth (turn (moved instance o.at (mirrored instance a.test p)) k (first_two (ranked instance))
                  (λ q e. (let s = ranked_pair instance q e in (s.rising, s.there))) is_other)
                where
                  fourth : IsTurned (moved instance o.at (mirrored instance a.test p)) (first_two (ranked instance))
                      is_other → (q : ℕ → ℕ → ℕ) × IsReduced q
                  fourth b = (
                    mirrored instance b.test (moved instance o.at (mirrored instance a.test p)),
                    record {
                      layout = mirrored_layout instance b.test (moved instance o.at (mirrored instance a.test p)) k;
                      twins = twins;
                      singles = singles;
                      firsts = λ q e i l m. b.turned q e i m (not_from_false _ (ne_eqb i 0 (λ z. omega (arith, z, l))));
                    },
                  )
                    where
                      -- dimension 0 stays
                      stays : (v : ℕ) → mirrored instance b.test (moved instance o.at (mirrored instance a.test p)) v 0
                          ≡ mirrored instance a.test p (o.at v) 0
                      stays v = mirrored_off instance b.test (moved instance o.at (mirrored instance a.test p)) v 0
                          (b.only 0 refl)

                      twins : (u v : ℕ) → u < v → v < box_count instance → have_equal_sides instance u v ≡ true
                          → ¬ Ends instance (mirrored instance b.test
                          (moved instance o.at (mirrored instance a.test p))) 0 v u
                      twins u v l m e ends =
                          let r = o.rising u v l m e in
                          let w = side_least instance sides v 0 m some in
                          let x = stays u in
                          let y = stays v in
                          omega (arith, ends, r, w, x, y)

                      singles : (q : ℕ × ℕ) → first_two (single_boxes instance) ≡ Some q
                          → ¬ Ends instance (mirrored instance b.test
                          (moved instance o.at (mirrored instance a.test p))) 0 q.1 q.0
                      singles q e ends =
                          let s = single_pair instance q e in
                          let low : q.0 < box_count instance =
                          (let s1 = s.rising in let s2 = s.there in omega (arith, s1, s2)) in
                          let x = stays q.0 ∙ ap (λ v. mirrored instance a.test p v 0)
                          (single_stays _ o q.0 low s.first) in
                          let y = stays q.1 ∙ ap (λ v. mirrored instance a.test p v 0)
                          (single_stays _ o q.1 s.there s.second) in
                          a.turned q e 0 some refl (omega (arith, ends, x, y))

  -- as a list of coordinates
  reduced_holds : (p : ℕ → ℕ → ℕ) → IsReduced p → (e : Exclusion) → IsFact instance e
      → ¬ Holds instance (listed instance p) e.dim e.u e.v e.rel
  reduced_holds p h e (of_twins u v l m s g) =
      subst (λ (x : Exclusion). ¬ Holds instance (listed instance p) x.dim x.u x.v x.rel) (sym g)
      (λ k. (let a = listed_at instance p u 0 (omega (arith, l, m)) some in let b = listed_at instance p v 0 m some in
      h.twins u v l m s (omega (arith, k, a, b))))
  reduced_holds p h e (of_singles q f g) =
      let s = single_pair instance q f in
      let s1 = s.rising in
      let s2 = s.there in
      subst (λ (x : Exclusion). ¬ Holds instance (listed instance p) x.dim x.u x.v x.rel) (sym g)
      (λ k. (let a = listed_at instance p q.0 0 (omega (arith, s1, s2)) some in
      let b = listed_at instance p q.1 0 s2 some in h.singles q f (omega (arith, k, a, b))))
  reduced_holds p h e (of_firsts q i f l m g) =
      let s = ranked_pair instance q f in
      let s1 = s.rising in
      let s2 = s.there in
      subst (λ (x : Exclusion). ¬ Holds instance (listed instance p) x.dim x.u x.v x.rel) (sym g)
      (λ k. (let a = listed_at instance p q.0 i (omega (arith, s1, s2)) m in let b = listed_at instance p q.1 i s2 m in
      h.firsts q f i l m (omega (arith, k, a, b))))

  pub some_packing_respects : (places : List ℕ) → IsPacking instance places
      → (q : List ℕ) × IsPacking instance q × Respects instance q (excludes (symmetry_facts instance))
  some_packing_respects places packing = go (reduce (coordinates instance places) (layout_of instance places packing))
    where
      go : (p : ℕ → ℕ → ℕ) × IsReduced p → (q : List ℕ) × IsPacking instance q
          × Respects instance q (excludes (symmetry_facts instance))
      go (p, h) = (
        listed instance p,
        listed_packing instance p h.layout,
        respects_each instance (listed instance p) (symmetry_facts instance)
            (λ e i. reduced_holds p h e (fact_of instance e i)),
      )
