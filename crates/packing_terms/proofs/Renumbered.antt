-- Rules and derivations of the instance of a set are those of the whole instance at boxes of the set, renumbered.
use Rattle.std.proofs.Common.{◌≡◌, ◌≢◌, ℕ, ◌<◌, ◌≤◌, ◌⊎◌, ◌↔◌, inl, inr, refl, sym, ap, subst, ◌∙◌, arith, true, ◌&&◌}
use Rattle.std.proofs.Common.{ltb, List, [], ◌∷◌, ◌++◌, map, length, get_or, IsTrue}
use mathlib.Core.Path.{fun_ext}
use Rattle.std.specs.List.{AllByRecursion}
use Rattle.std.proofs.lemmas.Bool.{true≢false, cases_lt, lt-ltb, ltb-true, eqb-true, eq-eqb, and_parts, and_from}
use Rattle.std.proofs.lemmas.Bool.{or_cases}
use Rattle.std.proofs.lemmas.List.{length-map, map-append}
use Rattle.std.proofs.lemmas.List.Sums.{sum_by-cons}
use Rattle.packing_terms.specs.declared.Rel.{Rel}
use Rattle.packing_terms.specs.declared.Rel.TheVariants.{Overlap, Before, After}
use Rattle.packing_terms.specs.declared.Exclusion.{Exclusion}
use Rattle.packing_terms.specs.Packing.{PlainInstance, no_box, box_count, side}
use Rattle.packing_terms.specs.Relations.{mirror}
use Rattle.packing_terms.specs.Exclusions.{Exclusions, is_at, is_of, excludes, IsJoined, IsSurelyBefore}
use Rattle.packing_terms.specs.Rules.{Rule, Pair, Apart, Triple, Chain, Compose, Cycle, Order, AreBoxes, IsRuleInstance}
use Rattle.packing_terms.specs.Rules.{Premises, Concludes, first_of, second_of, Follows, by_rule, mirrored, IsChain}
use Rattle.packing_terms.specs.Rules.{weight}
use Rattle.packing_terms.specs.Closure.{IsDerivation, IsDerived}
use Rattle.packing_terms.specs.Goals.{subset}
use Rattle.packing_terms.specs.Renumbering.{named, rule_boxes, renamed_rule, renamed, AreAmongKept, restricted}
use Rattle.packing_terms.specs.Renumbering.{FollowsAmong, by_kept, kept_mirrored, IsDerivationAmong, IsDerivedAmong}
use Rattle.packing_terms.proofs.Sets.{or_true, of_own, excludes_symmetric, same_bool, excludes_first}
use Rattle.packing_terms.proofs.Boxes.{box_in, differ_at}
use Rattle.packing_terms.proofs.InBins.{side_of}
use Rattle.packing_terms.proofs.Members.{index_in}

module _ (P : ℕ → Type 0) where
  pub each_left : (xs ys : List ℕ) → AllByRecursion P (xs ++ ys) → AllByRecursion P xs
  each_left [] ys h = tt
  each_left (x ∷ xs) ys h = (h.0, each_left xs ys h.1)

  pub each_right : (xs ys : List ℕ) → AllByRecursion P (xs ++ ys) → AllByRecursion P ys
  each_right [] ys h = h
  each_right (x ∷ xs) ys h = each_right xs ys h.1

  pub each_both : (xs ys : List ℕ) → AllByRecursion P xs → AllByRecursion P ys → AllByRecursion P (xs ++ ys)
  each_both [] ys h k = k
  each_both (x ∷ xs) ys h k = (h.0, each_both xs ys h.1 k)

module _ (instance : PlainInstance) (keep : List ℕ) (kept : AreBoxes instance keep) where
  abbrev pub IsIndex : ℕ → Type 0
  IsIndex k = k < length keep

  abbrev pub set : PlainInstance
  set = subset instance keep

  pub count : box_count set ≡ length keep
  count = length-map keep (λ v. get_or instance.boxes v no_box)

  there : (k : ℕ) → k < length keep → named keep k < box_count instance
  there k l = box_in (box_count instance) keep kept (named keep k) (index_in 0 keep k l)

  one_index : (j k : ℕ) → j < length keep → k < length keep → named keep j ≡ named keep k → j ≡ k
  one_index j k l m e = go (cases_lt j k) (cases_lt k j)
    where
      go : (j < k) ⊎ (k ≤ j) → (k < j) ⊎ (j ≤ k) → j ≡ k
      go (inl a) b = absurd (differ_at (box_count instance) keep kept j k a m e)
      go (inr a) (inl b) = absurd (differ_at (box_count instance) keep kept k j b l (sym e))
      go (inr a) (inr b) = omega (arith, a, b)

  -- boxes
  pub boxes_in : (vs : List ℕ) → AreBoxes set vs → AllByRecursion IsIndex vs
  boxes_in [] b = tt
  boxes_in (v ∷ vs) b = ((let l = b.0 in omega (arith, l, count)), boxes_in vs b.2)

  pub boxes_to : (vs : List ℕ) → AllByRecursion IsIndex vs → AreBoxes set vs → AreBoxes instance (map (named keep) vs)
  boxes_to [] h b = tt
  boxes_to (v ∷ vs) h b = (there v h.0, away vs h.1 b.1, boxes_to vs h.1 b.2)
    where
      away : (us : List ℕ) → AllByRecursion IsIndex us → AllByRecursion (λ u. v ≢ u) us
          → AllByRecursion (λ u. named keep v ≢ u) (map (named keep) us)
      away [] i a = tt
      away (u ∷ us) i a = ((λ e. a.0 (one_index v u h.0 i.0 e)), away us i.1 a.1)

  pub boxes_from : (vs : List ℕ) → AllByRecursion IsIndex vs → AreBoxes instance (map (named keep) vs) → AreBoxes set vs
  boxes_from [] h b = tt
  boxes_from (v ∷ vs) h b = ((let l = h.0 in omega (arith, l, count)), away vs b.1, boxes_from vs h.1 b.2)
    where
      away : (us : List ℕ) → AllByRecursion (λ u. named keep v ≢ u) (map (named keep) us)
          → AllByRecursion (λ u. v ≢ u) us
      away [] a = tt
      away (u ∷ us) a = ((λ e. a.0 (ap (named keep) e)), away us a.1)

  pub weight_same : (i : ℕ) (vs : List ℕ) → AllByRecursion IsIndex vs
      → weight set i vs ≡ weight instance i (map (named keep) vs)
  weight_same i [] h = refl
  weight_same i (v ∷ vs) h =
      let rest = weight_same i vs h.1 in
      let here = side_of instance keep v i h.0 in
      let p = sum_by-cons (λ (x : ℕ). side set x i) v vs in
      let q = sum_by-cons (λ (x : ℕ). side instance x i) (named keep v) (map (named keep) vs) in
      omega (arith, rest, here, p, q)

  module _ (X : Exclusions) where
    abbrev pub R : Exclusions
    R = restricted keep X

    same_at : (i u v : ℕ) (r : Rel) → u < length keep → v < length keep
        → R i u v r ≡ X i (named keep u) (named keep v) r
    same_at i u v r l m = rw (lt-ltb u (length keep) l, lt-ltb v (length keep) m) refl

    to : (i u v : ℕ) (r : Rel) → u < length keep → v < length keep → IsTrue (R i u v r)
        → IsTrue (X i (named keep u) (named keep v) r)
    to i u v r l m h = sym (same_at i u v r l m) ∙ h

    from : (i u v : ℕ) (r : Rel) → u < length keep → v < length keep → IsTrue (X i (named keep u) (named keep v) r)
        → IsTrue (R i u v r)
    from i u v r l m h = same_at i u v r l m ∙ h

    pub chain_to : (i : ℕ) (vs : List ℕ) → AllByRecursion IsIndex vs → IsChain R i vs
        → IsChain X i (map (named keep) vs)
    chain_to i [] h c = tt
    chain_to i (u ∷ []) h c = tt
    chain_to i (u ∷ v ∷ vs) h c = (
      (to i u v Overlap h.0 h.1.0 c.0.0, to i u v After h.0 h.1.0 c.0.1),
      chain_to i (v ∷ vs) h.1 c.1,
    )

    pub chain_from : (i : ℕ) (vs : List ℕ) → AllByRecursion IsIndex vs → IsChain X i (map (named keep) vs)
        → IsChain R i vs
    chain_from i [] h c = tt
    chain_from i (u ∷ []) h c = tt
    chain_from i (u ∷ v ∷ vs) h c =
        ((from i u v Overlap h.0 h.1.0 c.0.0, from i u v After h.0 h.1.0 c.0.1), chain_from i (v ∷ vs) h.1 c.1)

    joined_to : (i u v : ℕ) → u < length keep → v < length keep → IsJoined R i u v
        → IsJoined X i (named keep u) (named keep v)
    joined_to i u v l m j = (to i u v Before l m j.0, to i u v After l m j.1)

    joined_from : (i u v : ℕ) → u < length keep → v < length keep → IsJoined X i (named keep u) (named keep v)
        → IsJoined R i u v
    joined_from i u v l m j = (from i u v Before l m j.0, from i u v After l m j.1)

    before_to : (i u v : ℕ) → u < length keep → v < length keep → IsSurelyBefore R i u v
        → IsSurelyBefore X i (named keep u) (named keep v)
    before_to i u v l m j = (to i u v Overlap l m j.0, to i u v After l m j.1)

    before_from : (i u v : ℕ) → u < length keep → v < length keep → IsSurelyBefore X i (named keep u) (named keep v)
        → IsSurelyBefore R i u v
    before_from i u v l m j = (from i u v Overlap l m j.0, from i u v After l m j.1)

    -- the boxes of a rule of the set
    rule_in : (rule : Rule) → IsRuleInstance set rule → AllByRecursion IsIndex (rule_boxes rule)
    rule_in (Pair i u v) h = boxes_in (u ∷ v ∷ []) h.1
    rule_in (Apart i u v) h = boxes_in (u ∷ v ∷ []) h.1
    rule_in (Triple i u v x) h = boxes_in (u ∷ v ∷ x ∷ []) h.1
    rule_in (Chain i before u v after) h =
        each_both IsIndex (before ++ u ∷ []) (v ∷ after) (boxes_in (before ++ u ∷ []) h.1) (boxes_in (v ∷ after) h.2)
    rule_in (Compose i u v x) h = boxes_in (u ∷ v ∷ x ∷ []) h.1
    rule_in (Cycle i a b c d) h = boxes_in (a ∷ b ∷ c ∷ d ∷ []) h.1
    rule_in (Order i a b c d) h = boxes_in (a ∷ b ∷ c ∷ d ∷ []) h.1

    abbrev ends : List ℕ → ℕ → List ℕ
    ends before u = before ++ u ∷ []

    push : (before : List ℕ) (u : ℕ) → map (named keep) (before ++ u ∷ []) ≡ map (named keep) before
        ++ named keep u ∷ []
    push before u = map-append (named keep) before (u ∷ [])

    last_in : (before : List ℕ) (u : ℕ) → AllByRecursion IsIndex (before ++ u ∷ []) → u < length keep
    last_in before u h = (each_right IsIndex before (u ∷ []) h).0

    instance_to : (rule : Rule) → AllByRecursion IsIndex (rule_boxes rule) → IsRuleInstance set rule
        → IsRuleInstance instance (renamed_rule keep rule)
    instance_to (Pair i u v) k h = (h.0, boxes_to (u ∷ v ∷ []) k h.1)
    instance_to (Apart i u v) k h = (h.0, boxes_to (u ∷ v ∷ []) k h.1)
    instance_to (Triple i u v x) k h = (h.0, boxes_to (u ∷ v ∷ x ∷ []) k h.1)
    instance_to (Chain i before u v after) k h =
        let a = each_left IsIndex (before ++ u ∷ []) (v ∷ after) k in
        let b = each_right IsIndex (before ++ u ∷ []) (v ∷ after) k in (
          h.0,
          subst (λ (l : List ℕ). AreBoxes instance l) (push before u) (boxes_to (before ++ u ∷ []) a h.1),
          boxes_to (v ∷ after) b h.2,
          (λ e. h.3 (one_index u v (last_in before u a) b.0 e)),
        )
    instance_to (Compose i u v x) k h = (h.0, boxes_to (u ∷ v ∷ x ∷ []) k h.1)
    instance_to (Cycle i a b c d) k h = (h.0, boxes_to (a ∷ b ∷ c ∷ d ∷ []) k h.1)
    instance_to (Order i a b c d) k h = (h.0, boxes_to (a ∷ b ∷ c ∷ d ∷ []) k h.1)

    instance_from : (rule : Rule) → AllByRecursion IsIndex (rule_boxes rule)
        → IsRuleInstance instance (renamed_rule keep rule) → IsRuleInstance set rule
    instance_from (Pair i u v) k h = (h.0, boxes_from (u ∷ v ∷ []) k h.1)
    instance_from (Apart i u v) k h = (h.0, boxes_from (u ∷ v ∷ []) k h.1)
    instance_from (Triple i u v x) k h = (h.0, boxes_from (u ∷ v ∷ x ∷ []) k h.1)
    instance_from (Chain i before u v after) k h =
        let a = each_left IsIndex (before ++ u ∷ []) (v ∷ after) k in
        let b = each_right IsIndex (before ++ u ∷ []) (v ∷ after) k in (
          h.0,
          boxes_from (before ++ u ∷ []) a (subst (λ (l : List ℕ). AreBoxes instance l) (sym (push before u)) h.1),
          boxes_from (v ∷ after) b h.2,
          (λ e. h.3 (ap (named keep) e)),
        )
    instance_from (Compose i u v x) k h = (h.0, boxes_from (u ∷ v ∷ x ∷ []) k h.1)
    instance_from (Cycle i a b c d) k h = (h.0, boxes_from (a ∷ b ∷ c ∷ d ∷ []) k h.1)
    instance_from (Order i a b c d) k h = (h.0, boxes_from (a ∷ b ∷ c ∷ d ∷ []) k h.1)

    premises_to : (rule : Rule) → AllByRecursion IsIndex (rule_boxes rule) → Premises set R rule
        → Premises instance X (renamed_rule keep rule)
    premises_to (Pair i u v) k p = let a = side_of instance keep u i k.0 in let b = side_of instance keep v i k.1.0 in
        omega (arith, p, a, b)
    premises_to (Apart i u v) k p = λ j l ne. joined_to j u v k.0 k.1.0 (p j l ne)
    premises_to (Triple i u v x) k p =
        let a = side_of instance keep u i k.0 in let b = side_of instance keep v i k.1.0 in let c =
        side_of instance keep x i k.1.1.0 in let w = p.2 in
        (to i u x Overlap k.0 k.1.1.0 p.0, to i v x Overlap k.1.0 k.1.1.0 p.1, omega (arith, w, a, b, c))
    premises_to (Chain i before u v after) k p =
        let a = each_left IsIndex (before ++ u ∷ []) (v ∷ after) k in
        let b = each_right IsIndex (before ++ u ∷ []) (v ∷ after) k in
        let s = weight_same i (before ++ u ∷ []) a in
        let t = weight_same i (v ∷ after) b in
        let e = ap (λ l. weight instance i l) (push before u) in
        let w = p.2 in (
          subst (λ (l : List ℕ). IsChain X i l) (push before u) (chain_to i (before ++ u ∷ []) a p.0),
          chain_to i (v ∷ after) b p.1,
          omega (arith, w, s, t, e),
        )
    premises_to (Compose i u v x) k p = tt
    premises_to (Cycle i a b c d) k p = (
      joined_to i a b k.0 k.1.0 p.0,
      joined_to i b c k.1.0 k.1.1.0 p.1,
      joined_to i c d k.1.1.0 k.1.1.1.0 p.2,
      joined_to i d a k.1.1.1.0 k.0 p.3,
      to i a c Overlap k.0 k.1.1.0 p.4,
    )
    premises_to (Order i a b c d) k p =
        (before_to i a b k.0 k.1.0 p.0, before_to i c d k.1.1.0 k.1.1.1.0 p.1, to i a d Before k.0 k.1.1.1.0 p.2)

    premises_from : (rule : Rule) → AllByRecursion IsIndex (rule_boxes rule)
        → Premises instance X (renamed_rule keep rule) → Premises set R rule
    premises_from (Pair i u v) k p = let a = side_of instance keep u i k.0 in let b = side_of instance keep v i k.1.0 in
        omega (arith, p, a, b)
    premises_from (Apart i u v) k p = λ j l ne. joined_from j u v k.0 k.1.0 (p j l ne)
    premises_from (Triple i u v x) k p =
        let a = side_of instance keep u i k.0 in let b = side_of instance keep v i k.1.0 in let c =
        side_of instance keep x i k.1.1.0 in let w = p.2 in
        (from i u x Overlap k.0 k.1.1.0 p.0, from i v x Overlap k.1.0 k.1.1.0 p.1, omega (arith, w, a, b, c))
    premises_from (Chain i before u v after) k p =
        let a = each_left IsIndex (before ++ u ∷ []) (v ∷ after) k in
        let b = each_right IsIndex (before ++ u ∷ []) (v ∷ after) k in
        let s = weight_same i (before ++ u ∷ []) a in
        let t = weight_same i (v ∷ after) b in
        let e = ap (λ l. weight instance i l) (push before u) in
        let w = p.2 in (
          chain_from i (before ++ u ∷ []) a (subst (λ (l : List ℕ). IsChain X i l) (sym (push before u)) p.0),
          chain_from i (v ∷ after) b p.1,
          omega (arith, w, s, t, e),
        )
    premises_from (Compose i u v x) k p = tt
    premises_from (Cycle i a b c d) k p = (
      joined_from i a b k.0 k.1.0 p.0,
      joined_from i b c k.1.0 k.1.1.0 p.1,
      joined_from i c d k.1.1.0 k.1.1.1.0 p.2,
      joined_from i d a k.1.1.1.0 k.0 p.3,
      from i a c Overlap k.0 k.1.1.0 p.4,
    )
    premises_from (Order i a b c d) k p =
        (before_from i a b k.0 k.1.0 p.0, before_from i c d k.1.1.0 k.1.1.1.0 p.1, from i a d Before k.0 k.1.1.1.0 p.2)

    concludes_to : (rule : Rule) (r : Rel) → AllByRecursion IsIndex (rule_boxes rule) → Concludes R rule r
        → Concludes X (renamed_rule keep rule) r
    concludes_to (Pair i u v) r k c = c
    concludes_to (Apart i u v) r k c = c
    concludes_to (Triple i u v x) r k c = c
    concludes_to (Chain i before u v after) r k c = c
    concludes_to (Compose i u v x) r k c =
        λ q s e f. c q s (same_at i u v q k.0 k.1.0 ∙ e) (same_at i v x s k.1.0 k.1.1.0 ∙ f)
    concludes_to (Cycle i a b c' d) r k c = c
    concludes_to (Order i a b c' d) r k c = c

    concludes_from : (rule : Rule) (r : Rel) → AllByRecursion IsIndex (rule_boxes rule)
        → Concludes X (renamed_rule keep rule) r → Concludes R rule r
    concludes_from (Pair i u v) r k c = c
    concludes_from (Apart i u v) r k c = c
    concludes_from (Triple i u v x) r k c = c
    concludes_from (Chain i before u v after) r k c = c
    concludes_from (Compose i u v x) r k c =
        λ q s e f. c q s (sym (same_at i u v q k.0 k.1.0) ∙ e) (sym (same_at i v x s k.1.0 k.1.1.0) ∙ f)
    concludes_from (Cycle i a b c' d) r k c = c
    concludes_from (Order i a b c' d) r k c = c

    follows_to : (i u v : ℕ) (r : Rel) → Follows set R i u v r → FollowsAmong instance keep X i u v r
    follows_to i u v r (by_rule rule _ h p c) =
        let k = rule_in rule h in by_kept rule r k (instance_to rule k h) (premises_to rule k p)
        (concludes_to rule r k c)
    follows_to i u v r (mirrored rule s h p c) =
        let k = rule_in rule h in kept_mirrored rule s k (instance_to rule k h) (premises_to rule k p)
        (concludes_to rule s k c)

    follows_from : (i u v : ℕ) (r : Rel) → FollowsAmong instance keep X i u v r → Follows set R i u v r
    follows_from i u v r (by_kept rule _ k h p c) =
        by_rule rule r (instance_from rule k h) (premises_from rule k p) (concludes_from rule r k c)
    follows_from i u v r (kept_mirrored rule s k h p c) =
        mirrored rule s (instance_from rule k h) (premises_from rule k p) (concludes_from rule s k c)

    pub follows_same : (i u v : ℕ) (r : Rel) → Follows set R i u v r ↔ FollowsAmong instance keep X i u v r
    follows_same i u v r = (follows_to i u v r, follows_from i u v r)

  -- lists of exclusions
  at_back : (e : Exclusion) (i u v : ℕ) (r : Rel) → e.u < length keep → e.v < length keep → u < length keep
      → v < length keep
      → is_at (renamed keep e) i (named keep u) (named keep v) r ≡ true → is_at e i u v r ≡ true
  at_back e i u v r a b l m h =
      let p = and_parts _ _ h in
      let q = and_parts _ _ p.0 in
      let s = and_parts _ _ q.0 in
      and_from _ _ (and_from _ _ (and_from _ _ s.0
      (eq-eqb e.u u (one_index e.u u a l (eqb-true (named keep e.u) (named keep u) s.1))))
      (eq-eqb e.v v (one_index e.v v b m (eqb-true (named keep e.v) (named keep v) q.1)))) p.1

  turned : (X : Exclusions) → ((j a b : ℕ) (s : Rel) → IsTrue (X j a b s) → IsTrue (X j b a (mirror s)))
      → (j a b : ℕ) (s : Rel)
      → IsTrue (restricted keep X j a b s) → IsTrue (restricted keep X j b a (mirror s))
  turned X symmetric j a b s h =
      let p = and_parts _ _ h in
      let q = and_parts (ltb a (length keep)) (ltb b (length keep)) p.0 in
      and_from (ltb b (length keep) && ltb a (length keep)) (X j (named keep b) (named keep a) (mirror s))
      (and_from (ltb b (length keep)) (ltb a (length keep)) q.1 q.0) (symmetric j (named keep a) (named keep b) s p.1)

  list_to : (es : List Exclusion) → AreAmongKept keep es → (i u v : ℕ) (r : Rel) → excludes es i u v r ≡ true
      → restricted keep (excludes (map (renamed keep) es)) i u v r ≡ true
  list_to [] w i u v r h = absurd (true≢false (sym h))
  list_to (e ∷ es) w i u v r h = go (or_cases _ _ h) (list_to es w.2 i u v r)
    where
      go : (is_of e i u v r ≡ true) ⊎ (excludes es i u v r ≡ true)
          → (excludes es i u v r ≡ true → restricted keep (excludes (map (renamed keep) es)) i u v r ≡ true)
          → restricted keep (excludes (map (renamed keep) (e ∷ es))) i u v r ≡ true
      go (inl k) rest = of_own (λ j a b s. restricted keep (excludes (map (renamed keep) (e ∷ es))) j a b s ≡ true)
          (turned (excludes (map (renamed keep) (e ∷ es)))
          (excludes_symmetric (map (renamed keep) (e ∷ es)))) e i u v r k
          (and_from (ltb e.u (length keep) && ltb e.v (length keep))
          (excludes (map (renamed keep) (e ∷ es)) e.dim (named keep e.u) (named keep e.v) e.rel)
          (and_from (ltb e.u (length keep)) (ltb e.v (length keep)) (lt-ltb e.u (length keep) w.0)
          (lt-ltb e.v (length keep) w.1)) (excludes_first (renamed keep e) (map (renamed keep) es)))
      go (inr k) rest =
          let p = and_parts (ltb u (length keep) && ltb v (length keep))
          (excludes (map (renamed keep) es) i (named keep u) (named keep v) r) (rest k) in
          and_from (ltb u (length keep) && ltb v (length keep))
          (excludes (map (renamed keep) (e ∷ es)) i (named keep u) (named keep v) r) p.0
          (or_true (is_of (renamed keep e) i (named keep u) (named keep v) r)
          (excludes (map (renamed keep) es) i (named keep u) (named keep v) r) (inr p.1))

  list_from : (es : List Exclusion) → AreAmongKept keep es → (i u v : ℕ) (r : Rel) → u < length keep → v < length keep
      → excludes (map (renamed keep) es) i (named keep u) (named keep v) r ≡ true → excludes es i u v r ≡ true
  list_from [] w i u v r l m h = absurd (true≢false (sym h))
  list_from (e ∷ es) w i u v r l m h = go (or_cases _ _ h) (list_from es w.2 i u v r l m)
    where
      pick : (is_at (renamed keep e) i (named keep u) (named keep v) r ≡ true)
          ⊎ (is_at (renamed keep e) i (named keep v) (named keep u) (mirror r) ≡ true)
          → is_of e i u v r ≡ true
      pick (inl k) = or_true _ _ (inl (at_back e i u v r w.0 w.1 l m k))
      pick (inr k) = or_true _ _ (inr (at_back e i v u (mirror r) w.0 w.1 m l k))

      go : (is_of (renamed keep e) i (named keep u) (named keep v) r ≡ true)
          ⊎ (excludes (map (renamed keep) es) i (named keep u) (named keep v) r ≡ true)
          → (excludes (map (renamed keep) es) i (named keep u) (named keep v) r ≡ true → excludes es i u v r ≡ true)
          → excludes (e ∷ es) i u v r ≡ true
      go (inl k) rest = or_true _ _ (inl (pick (or_cases _ _ k)))
      go (inr k) rest = or_true _ _ (inr (rest k))

  pub list_same : (es : List Exclusion) → AreAmongKept keep es → (i u v : ℕ) (r : Rel)
      → excludes es i u v r ≡ restricted keep (excludes (map (renamed keep) es)) i u v r
  list_same es w i u v r = same_bool (excludes es i u v r) (restricted keep (excludes (map (renamed keep) es)) i u v r)
      (list_to es w i u v r) back
    where
      back : restricted keep (excludes (map (renamed keep) es)) i u v r ≡ true → excludes es i u v r ≡ true
      back h =
          let p = and_parts _ _ h in
          let q = and_parts _ _ p.0 in
          list_from es w i u v r (ltb-true u (length keep) q.0) (ltb-true v (length keep) q.1) p.1

  sets_same : (es : List Exclusion) → AreAmongKept keep es
      → excludes es ≡ restricted keep (excludes (map (renamed keep) es))
  sets_same es w = fun_ext (λ i. fun_ext (λ u. fun_ext (λ v. fun_ext (λ r. list_same es w i u v r))))

  -- derivations
  module _ (E : Exclusions) where
    given_in : (i u v : ℕ) (r : Rel) → IsTrue (restricted keep E i u v r) → (u < length keep) × (v < length keep)
    given_in i u v r h =
        let p = and_parts _ _ h in
        let q = and_parts _ _ p.0 in
        (ltb-true u (length keep) q.0, ltb-true v (length keep) q.1)

    ends_in : (rule : Rule) → AllByRecursion IsIndex (rule_boxes rule) → (first_of rule < length keep)
        × (second_of rule < length keep)
    ends_in (Pair i u v) k = (k.0, k.1.0)
    ends_in (Apart i u v) k = (k.0, k.1.0)
    ends_in (Triple i u v x) k = (k.0, k.1.0)
    ends_in (Chain i before u v after) k = (
      (each_right IsIndex before (u ∷ []) (each_left IsIndex (before ++ u ∷ []) (v ∷ after) k)).0,
      (each_right IsIndex (before ++ u ∷ []) (v ∷ after) k).0,
    )
    ends_in (Compose i u v x) k = (k.0, k.1.1.0)
    ends_in (Cycle i a b c d) k = (k.1.0, k.1.1.1.0)
    ends_in (Order i a b c d) k = (k.1.1.0, k.1.0)

    among_in : (X : Exclusions) (i u v : ℕ) (r : Rel) → FollowsAmong instance keep X i u v r
        → (u < length keep) × (v < length keep)
    among_in X i u v r (by_kept rule _ k h p c) = ends_in rule k
    among_in X i u v r (kept_mirrored rule s k h p c) = let e = ends_in rule k in (e.1, e.0)

    steps_to : (es : List Exclusion) → IsDerivation set (restricted keep E) es
        → AreAmongKept keep es × IsDerivationAmong instance keep E es
    steps_to [] d = (tt, tt)
    steps_to (e ∷ es) d = go d.0 (steps_to es d.1)
      where
        go : IsTrue (restricted keep E e.dim e.u e.v e.rel) ⊎ Follows set (excludes es) e.dim e.u e.v e.rel
            → AreAmongKept keep es × IsDerivationAmong instance keep E es
            → AreAmongKept keep (e ∷ es) × IsDerivationAmong instance keep E (e ∷ es)
        go (inl h) rest = let l = given_in e.dim e.u e.v e.rel h in ((l.0, l.1, rest.0), (inl h, rest.1))
        go (inr h) rest =
            let f = follows_to (excludes (map (renamed keep) es)) e.dim e.u e.v e.rel
            (subst (λ (X : Exclusions). Follows set X e.dim e.u e.v e.rel) (sets_same es rest.0) h) in
            let l = among_in (excludes (map (renamed keep) es)) e.dim e.u e.v e.rel f in
            ((l.0, l.1, rest.0), (inr f, rest.1))

    steps_from : (es : List Exclusion) → IsDerivationAmong instance keep E es
        → AreAmongKept keep es × IsDerivation set (restricted keep E) es
    steps_from [] d = (tt, tt)
    steps_from (e ∷ es) d = go d.0 (steps_from es d.1)
      where
        go : IsTrue (restricted keep E e.dim e.u e.v e.rel)
            ⊎ FollowsAmong instance keep (excludes (map (renamed keep) es)) e.dim e.u e.v e.rel
            → AreAmongKept keep es × IsDerivation set (restricted keep E) es → AreAmongKept keep (e ∷ es)
            × IsDerivation set (restricted keep E) (e ∷ es)
        go (inl h) rest = let l = given_in e.dim e.u e.v e.rel h in ((l.0, l.1, rest.0), (inl h, rest.1))
        go (inr f) rest =
            let h = follows_from (excludes (map (renamed keep) es)) e.dim e.u e.v e.rel f in
            let l = among_in (excludes (map (renamed keep) es)) e.dim e.u e.v e.rel f in (
              (l.0, l.1, rest.0),
              (
                inr (subst (λ (X : Exclusions). Follows set X e.dim e.u e.v e.rel)
                    (sym (sets_same es rest.0)) h),
                rest.1,
              ),
            )

    derived_to : (i u v : ℕ) (r : Rel) → IsDerived set (restricted keep E) i u v r
        → IsDerivedAmong instance keep E i u v r
    derived_to i u v r d =
        let s = steps_to d.steps d.derivation in
        record { steps = d.steps; derivation = s.1; stands = list_to d.steps s.0 i u v r d.stands }

    derived_from : (i u v : ℕ) (r : Rel) → IsDerivedAmong instance keep E i u v r
        → IsDerived set (restricted keep E) i u v r
    derived_from i u v r d =
        let s = steps_from d.steps d.derivation in
        record { steps = d.steps; derivation = s.1; stands = list_same d.steps s.0 i u v r ∙ d.stands }

    pub derived_same : (i u v : ℕ) (r : Rel)
        → IsDerived set (restricted keep E) i u v r ↔ IsDerivedAmong instance keep E i u v r
    derived_same i u v r = (derived_to i u v r, derived_from i u v r)
