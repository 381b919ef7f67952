-- The tests of the rounds say what the rules say.
use Rattle.std.proofs.Common.{◌≡◌, ◌≢◌, ℕ, ◌+◌, ◌<◌, ◌≤◌, ◌⊎◌, inl, inr, refl, sym, subst, ◌∙◌, arith, true, false, not}
use Rattle.std.proofs.Common.{◌&&◌, ◌||◌, ◌==◌, nat_lt, List, [], ◌∷◌, ◌++◌, length}
use Rattle.std.specs.List.{list_any, list_all, filter}
use Rattle.std.proofs.lemmas.Bool.{true≢false, cases_Bool, and_parts, or_cases, and_from, eqb-true, eq-eqb, not-true}
use Rattle.std.proofs.lemmas.Bool.{cases_eq, ltb-true, lt-ltb}
use Rattle.packing_terms.specs.declared.Rel.{Rel}
use Rattle.packing_terms.specs.declared.Rel.TheVariants.{Overlap, Before, After}
use Rattle.packing_terms.specs.Packing.{PlainInstance, dims, box_count, container_side, side}
use Rattle.packing_terms.specs.Relations.{allows, mirror}
use Rattle.packing_terms.specs.Exclusions.{Exclusions, IsEdge, IsJoined, IsSurelyBefore, is_same_rel}
use Rattle.packing_terms.specs.Rules.{Rule, Pair, Apart, Triple, Chain, Compose, Cycle, Order, AreBoxes, IsRuleInstance}
use Rattle.packing_terms.specs.Rules.{Premises, Concludes, Follows, by_rule, mirrored, IsChain, weight, dim_of}
use Rattle.packing_terms.specs.Rules.{first_of, second_of}
use Rattle.packing_terms.specs.Rounds.{rels, chains, is_joined, is_surely_before, is_chain, others, by_pair, by_apart}
use Rattle.packing_terms.specs.Rounds.{by_triple, by_compose, by_cycle, by_order, by_chain, follows}
use Rattle.packing_terms.specs.Sums.{below}
use Rattle.std.proofs.lemmas.Bool.{or_left}
use Rattle.std.proofs.lemmas.List.FromFn.{length-range_with_len}
use Rattle.packing_terms.proofs.Sets.{mirror_twice, or_true, same_rel}
use Rattle.packing_terms.proofs.Members.{IsIn, any_at, any_from, all_at, all_from, in_filter, filter_in, in_range}
use Rattle.packing_terms.proofs.Members.{range_in}
use Rattle.packing_terms.proofs.Drawn.{is_not, differs, differ, rel_differs, rel_differ, in_others, others_in, IsDrawn}
use Rattle.packing_terms.proofs.Drawn.{fewer, in_chains, chains_in, drawn, boxes_drawn, ends_in, ended, away_from}
use Rattle.packing_terms.proofs.Drawn.{all_away, boxes3, boxes4}

module _ (instance : PlainInstance) (X : Exclusions) where
  joined_test : (i u v : ℕ) → IsJoined X i u v → is_joined X i u v ≡ true
  joined_test i u v h = and_from _ _ h.0 h.1

  joined_from : (i u v : ℕ) → is_joined X i u v ≡ true → IsJoined X i u v
  joined_from i u v h = and_parts _ _ h

  before_test : (i u v : ℕ) → IsSurelyBefore X i u v → is_surely_before X i u v ≡ true
  before_test i u v h = and_from _ _ h.0 h.1

  before_from : (i u v : ℕ) → is_surely_before X i u v ≡ true → IsSurelyBefore X i u v
  before_from i u v h = and_parts _ _ h

  chain_test : (i : ℕ) (c : List ℕ) → IsChain X i c → is_chain X i c ≡ true
  chain_test i [] h = refl
  chain_test i (u ∷ []) h = refl
  chain_test i (u ∷ v ∷ vs) h = and_from _ _ (before_test i u v h.0) (chain_test i (v ∷ vs) h.1)

  chain_from : (i : ℕ) (c : List ℕ) → is_chain X i c ≡ true → IsChain X i c
  chain_from i [] h = tt
  chain_from i (u ∷ []) h = tt
  chain_from i (u ∷ v ∷ vs) h = let k = and_parts _ _ h in (before_from i u v k.0, chain_from i (v ∷ vs) k.1)

  rel_in : (r : Rel) → IsIn r rels
  rel_in Overlap = inl refl
  rel_in Before = inr (inl refl)
  rel_in After = inr (inr (inl refl))

  few : (u : ℕ) → length (filter (λ x. not (x == u)) (below (box_count instance))) ≤ box_count instance
  few u = omega (arith, fewer u (below (box_count instance)), length-range_with_len 0 (box_count instance))

  -- a chain's boxes but the end u are among the chains that are gone through
  gone_through : (c : List ℕ) (u : ℕ) → AreBoxes instance c → ((x : ℕ) → IsIn x c → x ≢ u)
      → IsIn c (chains (box_count instance) (filter (λ x. not (x == u)) (below (box_count instance))))
  gone_through c u b away =
      in_chains (box_count instance) (filter (λ x. not (x == u)) (below (box_count instance))) c (few u)
      (drawn instance c (filter (λ x. not (x == u)) (below (box_count instance))) b (λ x l i.
      in_filter (λ y. not (y == u)) x (below (box_count instance))
      (in_range 0 (box_count instance) x (omega arith) (omega arith)) (differs x u (away x i))))

  record IsGoneThrough (c : List ℕ) (u : ℕ) : Type 0 where
    pub boxes : AreBoxes instance c
    pub away : (x : ℕ) → IsIn x c → x ≢ u

  drawn_in : (c vs : List ℕ) → IsDrawn vs c → (x : ℕ) → IsIn x c → IsIn x vs
  drawn_in [] vs d x i = absurd i
  drawn_in (y ∷ ys) vs d x (inl e) = subst (λ z. IsIn z vs) (sym e) d.0
  drawn_in (y ∷ ys) vs d x (inr i) =
      (filter_in (λ u. not (u == y)) x vs (drawn_in ys (filter (λ u. not (u == y)) vs) d.1 x i)).0

  goes_through : (c : List ℕ) (u : ℕ)
      → IsIn c (chains (box_count instance) (filter (λ x. not (x == u)) (below (box_count instance))))
      → IsGoneThrough c u
  goes_through c u i =
      let d = chains_in (box_count instance) (filter (λ x. not (x == u)) (below (box_count instance))) c i in
      record {
        boxes = boxes_drawn instance c (filter (λ x. not (x == u)) (below (box_count instance)))
            (λ x j. let h = range_in 0 (box_count instance) x
            (filter_in (λ y. not (y == u)) x (below (box_count instance)) j).0 in omega (arith, h)) d;
        away = λ x j. differ x u (filter_in (λ y. not (y == u)) x (below (box_count instance))
            (drawn_in c (filter (λ y. not (y == u)) (below (box_count instance))) d x j)).1;
      }

  other : (u v x : ℕ) → x < box_count instance → x ≢ u → x ≢ v → IsIn x (others (box_count instance) u v)
  other u v x = in_others (box_count instance) u v x

  -- what an instance of a rule excludes, the test excludes
  rule_test : (rule : Rule) (r : Rel) → IsRuleInstance instance rule → Premises instance X rule → Concludes X rule r
      → follows instance X (dim_of rule) (first_of rule) (second_of rule) r ≡ true
  rule_test (Pair i u v) r h wide ne =
      or_left _ _ (or_left _ _ (or_left _ _
      (or_left _ _ (or_left _ _ (or_left _ _ (and_from _ _ (rel_differs r Overlap ne) (lt-ltb _ _ wide)))))))
  rule_test (Apart i u v) r h joined e =
      or_left _ _ (or_left _ _ (or_left _ _ (or_left _ _ (or_left _ _ (or_true _ _ (inr (and_from _ _
      (subst (λ x. is_same_rel x Overlap ≡ true) (sym e) refl)
      (all_from (λ j. (j == i) || is_joined X j u v) (below (dims instance)) (λ j k.
      let l = range_in 0 (dims instance) j k in each j (cases_eq j i) (omega (arith, l)))))))))))
    where
      each : (j : ℕ) → (j ≡ i) ⊎ (j ≡ i → ⊥) → j < dims instance → ((j == i) || is_joined X j u v) ≡ true
      each j (inl f) l = or_left _ _ (eq-eqb j i f)
      each j (inr ne) l = or_true _ _ (inr (joined_test j u v (joined j l ne)))
  rule_test (Triple i u v x) r (h, b) (ux, vx, wide) ne =
      or_left _ _ (or_left _ _ (or_left _ _ (or_left _ _ (or_true _ _ (inr (and_from _ _ (rel_differs r Overlap ne)
      (any_at (λ y. X i u y Overlap && X i v y Overlap
      && nat_lt (container_side instance i) (side instance u i + side instance v i + side instance y i)) x
      (others (box_count instance) u v)
      (other u v x b.2.2.0 (λ e. b.1.1.0 (sym e)) (λ e. b.2.1.0 (sym e)))
      (and_from _ _ (and_from _ _ ux vx) (lt-ltb _ _ wide)))))))))
  rule_test (Chain i before u v after) r (h, bu, bv, ne) (cu, cv, wide) e =
      let front = ends_in instance before u bu in
      or_true _ _ (inr (and_from _ _ (subst (λ x. is_same_rel x Before ≡ true) (sym e) refl)
      (any_at (λ c. is_chain X i (c ++ u ∷ []) && list_any (λ d. is_chain X i (v ∷ d)
      && nat_lt (container_side instance i) (weight instance i (c ++ u ∷ []) + weight instance i (v ∷ d)))
      (chains (box_count instance) (filter (λ x. not (x == v)) (below (box_count instance)))))
      before (chains (box_count instance) (filter (λ x. not (x == u)) (below (box_count instance))))
      (gone_through before u front.front front.away)
      (and_from _ _ (chain_test i (before ++ u ∷ []) cu)
      (any_at (λ d. is_chain X i (v ∷ d)
      && nat_lt (container_side instance i) (weight instance i (before ++ u ∷ []) + weight instance i (v ∷ d)))
      after (chains (box_count instance) (filter (λ x. not (x == v)) (below (box_count instance))))
      (gone_through after v bv.2 (away_from instance v after bv.1))
      (and_from _ _ (chain_test i (v ∷ after) cv) (lt-ltb _ _ wide)))))))
  rule_test (Compose i u v x) r (h, b) _ none =
      or_left _ _ (or_left _ _ (or_left _ _ (or_true _ _ (inr
      (any_at (λ y. list_all (λ q. list_all (λ s. X i u y q || X i y x s || not (allows q s r)) rels) rels) v
      (others (box_count instance) u x)
      (other u x v b.2.0 (λ e. b.1.0 (sym e)) b.2.1.0)
      (all_from (λ q. list_all (λ s. X i u v q || X i v x s || not (allows q s r)) rels) rels (λ q _.
      all_from (λ s. X i u v q || X i v x s || not (allows q s r)) rels (λ s _.
      each q s (cases_Bool (X i u v q)) (cases_Bool (X i v x s))))))))))
    where
      each : (q s : Rel) → (X i u v q ≡ true) ⊎ (X i u v q ≡ false) → (X i v x s ≡ true) ⊎ (X i v x s ≡ false)
          → (X i u v q || X i v x s || not (allows q s r)) ≡ true
      each q s (inl e) _ = or_left _ _ (or_left _ _ e)
      each q s (inr _) (inl e) = or_left _ _ (or_true _ _ (inr e))
      each q s (inr e) (inr f) = or_true _ _ (inr (is_not (allows q s r) (λ k. true≢false (sym k ∙ none q s e f))))
  rule_test (Cycle i a b c d) r (h, bs) (ab, bc, cd, da, ac) ne =
      or_left _ _ (or_left _ _ (or_true _ _ (inr (and_from _ _ (rel_differs r Overlap ne)
      (any_at (λ x. list_any (λ y. not (x == y) && is_joined X i x b && is_joined X i b y && is_joined X i y d
      && is_joined X i d x && X i x y Overlap)
      (others (box_count instance) b d)) a (others (box_count instance) b d)
      (other b d a bs.0 bs.1.0 bs.1.1.1.0)
      (any_at (λ y. not (a == y) && is_joined X i a b && is_joined X i b y && is_joined X i y d && is_joined X i d a
      && X i a y Overlap)
      c (others (box_count instance) b d)
      (other b d c bs.2.2.0 (λ e. bs.2.1.0 (sym e)) bs.2.2.1.0)
      (and_from _ _ (and_from _ _ (and_from _ _
      (and_from _ _ (and_from _ _ (differs a c bs.1.1.0) (joined_test i a b ab)) (joined_test i b c bc))
      (joined_test i c d cd)) (joined_test i d a da)) ac)))))))
  rule_test (Order i a b c d) r (h, bs) (ab, cd, ad) ne =
      or_left _ _ (or_true _ _ (inr (and_from _ _ (rel_differs r Before ne)
      (any_at (λ x. list_any (λ y. not (x == y) && is_surely_before X i x b && is_surely_before X i c y
      && X i x y Before)
      (others (box_count instance) c b)) a (others (box_count instance) c b)
      (other c b a bs.0 bs.1.1.0 bs.1.0)
      (any_at (λ y. not (a == y) && is_surely_before X i a b && is_surely_before X i c y && X i a y Before)
      d (others (box_count instance) c b)
      (other c b d bs.2.2.2.0 (λ e. bs.2.2.1.0 (sym e)) (λ e. bs.2.1.1.0 (sym e)))
      (and_from _ _ (and_from _ _ (and_from _ _ (differs a d bs.1.1.1.0) (before_test i a b ab))
      (before_test i c d cd)) ad))))))

  pub follows_test : (i u v : ℕ) (r : Rel) → Follows instance X i u v r
      → (follows instance X i u v r || follows instance X i v u (mirror r)) ≡ true
  follows_test i u v r (by_rule rule _ h p c) = or_left _ _ (rule_test rule r h p c)
  follows_test i u v r (mirrored rule s h p c) =
      or_true _ _ (inr (subst (λ x. follows instance X (dim_of rule) (first_of rule) (second_of rule) x ≡ true)
      (sym (mirror_twice s)) (rule_test rule s h p c)))

  module _ (i u v : ℕ) (edge : IsEdge instance i u v) (r : Rel) where
    two : AreBoxes instance (u ∷ v ∷ [])
    two = (edge.first, (edge.distinct, tt), (edge.second, tt, tt))

    from_pair : by_pair instance X i u v r ≡ true → Follows instance X i u v r
    from_pair h =
        let k = and_parts _ _ h in
        by_rule (Pair i u v) r (edge.dim, two) (ltb-true _ _ k.1) (rel_differ r Overlap k.0)

    from_apart : by_apart instance X i u v r ≡ true → Follows instance X i u v r
    from_apart h =
        let k = and_parts (is_same_rel r Overlap)
        (list_all (λ j. (j == i) || is_joined X j u v) (below (dims instance))) h in
        by_rule (Apart i u v) r (edge.dim, two)
        (λ j l ne. go j ne (or_cases _ _ (all_at (λ j'. (j' == i) || is_joined X j' u v) j (below (dims instance)) k.1
        (in_range 0 (dims instance) j (omega arith) (omega arith)))))
        (same_rel r Overlap k.0)
      where
        go : (j : ℕ) → j ≢ i → ((j == i) ≡ true) ⊎ (is_joined X j u v ≡ true) → IsJoined X j u v
        go j ne (inl e) = absurd (ne (eqb-true j i e))
        go j ne (inr e) = joined_from j u v e

    from_triple : by_triple instance X i u v r ≡ true → Follows instance X i u v r
    from_triple h =
        let k = and_parts _ _ h in
        let a = any_from (λ x. X i u x Overlap && X i v x Overlap
        && nat_lt (container_side instance i) (side instance u i + side instance v i + side instance x i))
        (others (box_count instance) u v) k.1 in
        let o = others_in (box_count instance) u v a.item a.is_in in
        let p = and_parts _ _ a.passes in
        let q = and_parts _ _ p.0 in
        by_rule (Triple i u v a.item) r (
          edge.dim,
          boxes3 instance u v a.item edge.first edge.second o.there edge.distinct (λ e. o.first (sym e))
              (λ e. o.second (sym e)),
        )
        (q.0, q.1, ltb-true _ _ p.1) (rel_differ r Overlap k.0)

    from_chain : by_chain instance X i u v r ≡ true → Follows instance X i u v r
    from_chain h =
        let k = and_parts _ _ h in
        let a = any_from (λ c. is_chain X i (c ++ u ∷ []) && list_any (λ d. is_chain X i (v ∷ d)
        && nat_lt (container_side instance i) (weight instance i (c ++ u ∷ []) + weight instance i (v ∷ d)))
        (chains (box_count instance) (filter (λ x. not (x == v)) (below (box_count instance)))))
        (chains (box_count instance) (filter (λ x. not (x == u)) (below (box_count instance)))) k.1 in
        let p = and_parts (is_chain X i (a.item ++ u ∷ [])) _ a.passes in
        let b = any_from (λ d. is_chain X i (v ∷ d)
        && nat_lt (container_side instance i) (weight instance i (a.item ++ u ∷ []) + weight instance i (v ∷ d)))
        (chains (box_count instance) (filter (λ x. not (x == v)) (below (box_count instance)))) p.1 in
        let q = and_parts (is_chain X i (v ∷ b.item)) _ b.passes in
        let front = goes_through a.item u a.is_in in
        let back = goes_through b.item v b.is_in in
        by_rule (Chain i a.item u v b.item) r (
          edge.dim,
          ended instance a.item u front.boxes edge.first front.away,
          (edge.second, all_away instance v b.item back.away, back.boxes),
          edge.distinct,
        )
        (chain_from i (a.item ++ u ∷ []) p.0, chain_from i (v ∷ b.item) q.0, ltb-true _ _ q.1) (same_rel r Before k.0)

    from_compose : by_compose instance X i u v r ≡ true → Follows instance X i u v r
    from_compose h =
        let a = any_from (λ x. list_all (λ q. list_all (λ s. X i u x q || X i x v s || not (allows q s r)) rels) rels)
        (others (box_count instance) u v) h in
        let o = others_in (box_count instance) u v a.item a.is_in in
        by_rule (Compose i u a.item v) r (
          edge.dim,
          boxes3 instance u a.item v edge.first o.there edge.second (λ e. o.first (sym e))
              edge.distinct o.second,
        )
        tt
        (λ q s e f. go a.item q s e f (or_cases _ _
        (all_at (λ s'. X i u a.item q || X i a.item v s' || not (allows q s' r)) s rels
        (all_at (λ q'. list_all (λ s'. X i u a.item q' || X i a.item v s' || not (allows q' s' r)) rels) q rels a.passes
        (rel_in q)) (rel_in s))))
      where
        go : (x : ℕ) (q s : Rel) → X i u x q ≡ false → X i x v s ≡ false
            → ((X i u x q || X i x v s) ≡ true) ⊎ (not (allows q s r) ≡ true) → allows q s r ≡ false
        go x q s e f (inr k) = not-true (allows q s r) k
        go x q s e f (inl k) = go' (or_cases _ _ k)
          where
            go' : (X i u x q ≡ true) ⊎ (X i x v s ≡ true) → allows q s r ≡ false
            go' (inl l) = absurd (true≢false (sym l ∙ e))
            go' (inr l) = absurd (true≢false (sym l ∙ f))

    from_cycle : by_cycle instance X i u v r ≡ true → Follows instance X i u v r
    from_cycle h =
        let k = and_parts _ _ h in
        let a = any_from (λ x. list_any
        (λ y. not (x == y) && is_joined X i x u && is_joined X i u y && is_joined X i y v && is_joined X i v x
        && X i x y Overlap)
        (others (box_count instance) u v)) (others (box_count instance) u v) k.1 in
        let c = any_from (λ y. not (a.item == y) && is_joined X i a.item u && is_joined X i u y && is_joined X i y v
        && is_joined X i v a.item && X i a.item y Overlap)
        (others (box_count instance) u v) a.passes in
        let oa = others_in (box_count instance) u v a.item a.is_in in
        let oc = others_in (box_count instance) u v c.item c.is_in in
        let p5 = and_parts _ _ c.passes in
        let p4 = and_parts _ _ p5.0 in
        let p3 = and_parts _ _ p4.0 in
        let p2 = and_parts _ _ p3.0 in
        let p1 = and_parts _ _ p2.0 in
        by_rule (Cycle i a.item u c.item v) r (
          edge.dim,
          boxes4 instance a.item u c.item v oa.there edge.first oc.there edge.second oa.first
              (differ a.item c.item p1.0) oa.second
              (λ e. oc.first (sym e)) edge.distinct oc.second,
        ) (
          joined_from i a.item u p1.1,
          joined_from i u c.item p2.1,
          joined_from i c.item v p3.1,
          joined_from i v a.item p4.1,
          p5.1,
        )
        (rel_differ r Overlap k.0)

    from_order : by_order instance X i u v r ≡ true → Follows instance X i u v r
    from_order h =
        let k = and_parts _ _ h in
        let a = any_from (λ x. list_any
        (λ y. not (x == y) && is_surely_before X i x v && is_surely_before X i u y && X i x y Before)
        (others (box_count instance) u v)) (others (box_count instance) u v) k.1 in
        let d = any_from (λ y. not (a.item == y) && is_surely_before X i a.item v && is_surely_before X i u y
        && X i a.item y Before)
        (others (box_count instance) u v) a.passes in
        let oa = others_in (box_count instance) u v a.item a.is_in in
        let od = others_in (box_count instance) u v d.item d.is_in in
        let p3 = and_parts _ _ d.passes in
        let p2 = and_parts _ _ p3.0 in
        let p1 = and_parts _ _ p2.0 in
        by_rule (Order i a.item v u d.item) r (
          edge.dim,
          boxes4 instance a.item v u d.item oa.there edge.second edge.first od.there oa.second oa.first
              (differ a.item d.item p1.0)
              (λ e. edge.distinct (sym e)) (λ e. od.second (sym e)) (λ e. od.first (sym e)),
        )
        (before_from i a.item v p1.1, before_from i u d.item p2.1, p3.1)
        (rel_differ r Before k.0)

    pub test_follows : follows instance X i u v r ≡ true → Follows instance X i u v r
    test_follows h = go (or_cases _ _ h)
      where
        p1 : (by_pair instance X i u v r ≡ true) ⊎ (by_apart instance X i u v r ≡ true) → Follows instance X i u v r
        p1 (inl k) = from_pair k
        p1 (inr k) = from_apart k

        p2 : ((by_pair instance X i u v r || by_apart instance X i u v r) ≡ true)
            ⊎ (by_triple instance X i u v r ≡ true) → Follows instance X i u v r
        p2 (inl k) = p1 (or_cases _ _ k)
        p2 (inr k) = from_triple k

        p3 : ((by_pair instance X i u v r || by_apart instance X i u v r || by_triple instance X i u v r) ≡ true)
            ⊎ (by_compose instance X i u v r ≡ true)
            → Follows instance X i u v r
        p3 (inl k) = p2 (or_cases _ _ k)
        p3 (inr k) = from_compose k

        p4 : ((by_pair instance X i u v r || by_apart instance X i u v r || by_triple instance X i u v r
            || by_compose instance X i u v r) ≡ true)
            ⊎ (by_cycle instance X i u v r ≡ true) → Follows instance X i u v r
        p4 (inl k) = p3 (or_cases _ _ k)
        p4 (inr k) = from_cycle k

        p5 : ((by_pair instance X i u v r || by_apart instance X i u v r || by_triple instance X i u v r
            || by_compose instance X i u v r
            || by_cycle instance X i u v r) ≡ true) ⊎ (by_order instance X i u v r ≡ true) → Follows instance X i u v r
        p5 (inl k) = p4 (or_cases _ _ k)
        p5 (inr k) = from_order k

        go : ((by_pair instance X i u v r || by_apart instance X i u v r || by_triple instance X i u v r
            || by_compose instance X i u v r
            || by_cycle instance X i u v r || by_order instance X i u v r) ≡ true)
            ⊎ (by_chain instance X i u v r ≡ true) → Follows instance X i u v r
        go (inl k) = p5 (or_cases _ _ k)
        go (inr k) = from_chain k

  flipped : (i u v : ℕ) (r : Rel) → Follows instance X i u v r → Follows instance X i v u (mirror r)
  flipped i u v r (by_rule rule _ h p c) = mirrored rule r h p c
  flipped i u v r (mirrored rule s h p c) =
      subst (λ x. Follows instance X (dim_of rule) (first_of rule) (second_of rule) x) (sym (mirror_twice s))
      (by_rule rule s h p c)

  pub test_either : (i u v : ℕ) → IsEdge instance i u v → (r : Rel)
      → (follows instance X i u v r || follows instance X i v u (mirror r)) ≡ true
      → Follows instance X i u v r
  test_either i u v edge r h = go (or_cases _ _ h)
    where
      back : IsEdge instance i v u
      back = record { dim = edge.dim; first = edge.second; second = edge.first; distinct = λ e. edge.distinct (sym e) }

      go : (follows instance X i u v r ≡ true) ⊎ (follows instance X i v u (mirror r) ≡ true)
          → Follows instance X i u v r
      go (inl k) = test_follows i u v edge r k
      go (inr k) = subst (λ x. Follows instance X i u v x) (mirror_twice r)
          (flipped i v u (mirror r) (test_follows i v u back (mirror r) k))
