-- The closure by rounds is the set of what has a derivation.
use Rattle.std.proofs.Common.{◌≡◌, ℕ, zero, suc, ◌+◌, ◌-◌, ◌*◌, ◌/◌, ◌<◌, ◌≤◌, ◌⊎◌, inl, inr, refl, sym, ap, subst, ◌∙◌}
use Rattle.std.proofs.Common.{arith, Bool, true, false, not, cond, ◌&&◌, ◌||◌, List, [], ◌∷◌, ◌++◌, map, length, IsTrue}
use Rattle.std.proofs.Math.Nat.{le_trans, mul-zero}
use Rattle.std.specs.List.{filter, flat_map, range_with_len}
use Rattle.std.proofs.lemmas.Bool.{true≢false, cases_Bool, and_parts, or_cases, and_from, cases_lt, or_left}
use Rattle.packing_terms.specs.declared.Rel.{Rel}
use Rattle.packing_terms.specs.declared.Rel.TheVariants.{Overlap, Before, After}
use Rattle.packing_terms.specs.declared.Exclusion.{Exclusion}
use Rattle.packing_terms.specs.Packing.{PlainInstance, dims, box_count}
use Rattle.packing_terms.specs.Relations.{mirror}
use Rattle.packing_terms.specs.Exclusions.{Exclusions, IsEdge, is_of, excludes}
use Rattle.packing_terms.specs.Rules.{Rule, Pair, Apart, Triple, Chain, Compose, Cycle, Order, IsRuleInstance, Follows}
use Rattle.packing_terms.specs.Rules.{by_rule, mirrored, dim_of, first_of, second_of}
use Rattle.std.proofs.lemmas.List.FromFn.{length-range_with_len}
use Rattle.std.proofs.lemmas.List.{length-append}
use Rattle.packing_terms.specs.Closure.{IsDerivation, IsDerived, IsSubset, IsStable}
use Rattle.packing_terms.specs.Rounds.{rels, follows, all_exclusions, additions, rounds, closure}
use Rattle.packing_terms.specs.Sums.{below}
use Rattle.packing_terms.proofs.Sets.{or_true, mirror_twice, is_at_own, excludes_symmetric, excludes_left}
use Rattle.packing_terms.proofs.Sets.{excludes_right}
use Rattle.packing_terms.proofs.Members.{IsIn, any_at, in_map, map_in, in_flat_map, flat_map_in, in_filter, filter_in}
use Rattle.packing_terms.proofs.Members.{in_range, range_in}
use Rattle.packing_terms.proofs.Monotone.{follows_more}
use Rattle.packing_terms.proofs.Derivations.{stable_holds}
use Rattle.packing_terms.proofs.Lengths.{length_parts, filter_short}
use Rattle.packing_terms.proofs.Tests.{follows_test, test_either}
use Rattle.packing_terms.proofs.Drawn.{is_not, not_so, ends_in}

-- fewer elements pass the smaller test
pub length_filter_less : {X : Type 0} (p q : X → Bool) (xs : List X) → ((x : X) → q x ≡ true → p x ≡ true)
    → length (filter q xs) ≤ length (filter p xs)
length_filter_less p q [] h = omega arith
length_filter_less p q (x ∷ xs) h = go (p x) (q x) (h x) (length_filter_less p q xs h)
  where
    go : (a b : Bool) → (b ≡ true → a ≡ true) → length (filter q xs) ≤ length (filter p xs)
        → length (cond b (x ∷ filter q xs) (filter q xs)) ≤ length (cond a (x ∷ filter p xs) (filter p xs))
    go true true k l = omega arith
    go true false k l = omega arith
    go false false k l = l
    go false true k l = absurd (true≢false (sym (k refl)))

pub length_filter_fewer : {X : Type 0} (p q : X → Bool) (xs : List X) → ((x : X) → q x ≡ true → p x ≡ true)
    → (x : X) → IsIn x xs → p x ≡ true → q x ≡ false → length (filter q xs) < length (filter p xs)
length_filter_fewer p q [] h x i px qx = absurd i
length_filter_fewer p q (y ∷ ys) h x (inl e) px qx =
    rw (ap p (sym e) ∙ px, ap q (sym e) ∙ qx) (let l = length_filter_less p q ys h in omega arith)
length_filter_fewer p q (y ∷ ys) h x (inr i) px qx = go (p y) (q y) (h y) (length_filter_fewer p q ys h x i px qx)
  where
    go : (a b : Bool) → (b ≡ true → a ≡ true) → length (filter q ys) < length (filter p ys)
        → length (cond b (y ∷ filter q ys) (filter q ys)) < length (cond a (y ∷ filter p ys) (filter p ys))
    go true true k l = omega arith
    go true false k l = omega arith
    go false false k l = l
    go false true k l = absurd (true≢false (sym (k refl)))

-- each exclusion of a list is in its set
pub excludes_own : (e : Exclusion) (es : List Exclusion) → IsIn e es → excludes es e.dim e.u e.v e.rel ≡ true
excludes_own e es i = any_at (λ x. is_of x e.dim e.u e.v e.rel) e es i (or_left _ _ (is_at_own e))

-- a list of given exclusions is a derivation
pub given : (instance : PlainInstance) (E : Exclusions) (es : List Exclusion) → IsSubset (excludes es) E
    → IsDerivation instance E es
given instance E [] h = tt
given instance E (e ∷ es) h = (
  inl (h e.dim e.u e.v e.rel (excludes_own e (e ∷ es) (inl refl))),
  given instance E es (λ i u v r k. h i u v r (or_true _ _ (inr k))),
)

module _ (instance : PlainInstance) where
  abbrev may_add : List Exclusion → Exclusion → Bool
  may_add es e = not (excludes es e.dim e.u e.v e.rel)
      && (follows instance (excludes es) e.dim e.u e.v e.rel
      || follows instance (excludes es) e.dim e.v e.u (mirror e.rel))

  -- the candidates: at each edge
  pub all_in : (e : Exclusion) → IsIn e (all_exclusions (dims instance) (box_count instance))
      → IsEdge instance e.dim e.u e.v
  all_in e i =
      let a = flat_map_in (λ j. flat_map
      (λ v. flat_map (λ u. map (λ r. record { dim = j; u = u; v = v; rel = r }) rels) (below v))
      (below (box_count instance))) e (below (dims instance)) i in
      let b = flat_map_in (λ v. flat_map (λ u. map (λ r. record { dim = a.0; u = u; v = v; rel = r }) rels) (below v)) e
      (below (box_count instance)) a.2 in
      let c = flat_map_in (λ u. map (λ r. record { dim = a.0; u = u; v = b.0; rel = r }) rels) e (below b.0) b.2 in
      let d = map_in (λ r. record { dim = a.0; u = c.0; v = b.0; rel = r }) e rels c.2 in
      let P : Exclusion → Type 0 = λ x. IsEdge instance x.dim x.u x.v in
      let h1 = range_in 0 (dims instance) a.0 a.1 in
      let h2 = range_in 0 (box_count instance) b.0 b.1 in
      let h3 = range_in 0 b.0 c.0 c.1 in
      let at : IsEdge instance a.0 c.0 b.0 =
      record {
        dim = omega (arith, h1);
        first = omega (arith, h2, h3);
        second = omega (arith, h2);
        distinct = omega (arith, h3);
      } in
      subst P (sym d.2) at

  pub in_all : (i u v : ℕ) (r : Rel) → i < dims instance → u < v → v < box_count instance
      → IsIn (record { dim = i; u = u; v = v; rel = r }) (all_exclusions (dims instance) (box_count instance))
  in_all i u v r hi huv hv =
      in_flat_map (λ j. flat_map (λ y. flat_map (λ x. map (λ s. record { dim = j; u = x; v = y; rel = s }) rels)
      (below y)) (below (box_count instance))) i
      (record { dim = i; u = u; v = v; rel = r }) (below (dims instance))
      (in_range 0 (dims instance) i (omega arith) (omega arith))
      (in_flat_map (λ y. flat_map (λ x. map (λ s. record { dim = i; u = x; v = y; rel = s }) rels) (below y)) v
      (record { dim = i; u = u; v = v; rel = r }) (below (box_count instance))
      (in_range 0 (box_count instance) v (omega arith) (omega arith))
      (in_flat_map (λ x. map (λ s. record { dim = i; u = x; v = v; rel = s }) rels) u
      (record { dim = i; u = u; v = v; rel = r }) (below v) (in_range 0 v u (omega arith) (omega arith))
      (in_map (λ s. record { dim = i; u = u; v = v; rel = s }) r rels (rel_in r))))
    where
      rel_in : (s : Rel) → IsIn s rels
      rel_in Overlap = inl refl
      rel_in Before = inr (inl refl)
      rel_in After = inr (inr (inl refl))

  -- what one round adds follows
  derived_round : (E : Exclusions) (es new : List Exclusion)
      → ((e : Exclusion) → IsIn e new → Follows instance (excludes es) e.dim e.u e.v e.rel)
      → IsDerivation instance E es → IsDerivation instance E (new ++ es)
  derived_round E es [] h d = d
  derived_round E es (e ∷ new) h d = (
    inr (follows_more instance (excludes es) (excludes (new ++ es)) (excludes_right new es) e.dim e.u e.v e.rel
        (h e (inl refl))),
    derived_round E es new (λ x i. h x (inr i)) d,
  )

  addition_follows : (es : List Exclusion) (e : Exclusion) → IsIn e (additions instance es)
      → Follows instance (excludes es) e.dim e.u e.v e.rel
  addition_follows es e i =
      let h = filter_in (may_add es) e (all_exclusions (dims instance) (box_count instance)) i in
      let k = and_parts (not (excludes es e.dim e.u e.v e.rel))
      (follows instance (excludes es) e.dim e.u e.v e.rel
      || follows instance (excludes es) e.dim e.v e.u (mirror e.rel)) h.1 in
      test_either instance (excludes es) e.dim e.u e.v (all_in e h.0) e.rel k.1

  pub rounds_derived : (E : Exclusions) (k : ℕ) (es : List Exclusion) → IsDerivation instance E es
      → IsDerivation instance E (rounds instance k es)
  rounds_derived E zero es d = d
  rounds_derived E (suc k) es d = go (additions instance es) refl (rounds_derived E k)
    where
      go : (new : List Exclusion) → additions instance es ≡ new
          → ((fs : List Exclusion) → IsDerivation instance E fs → IsDerivation instance E (rounds instance k fs))
          → IsDerivation instance E (elim new [ [] ↦ es | e ∷ more ↦ rounds instance k ((e ∷ more) ++ es) ])
      go [] f rest = d
      go (e ∷ more) f rest = rest ((e ∷ more) ++ es) (derived_round E es (e ∷ more)
          (λ x i. addition_follows es x (subst (λ l. IsIn x l) (sym f) i)) d)

  -- how many candidates are open
  unfoldable pub open_count : List Exclusion → ℕ
  open_count es = length (filter (λ e. not (excludes es e.dim e.u e.v e.rel))
      (all_exclusions (dims instance) (box_count instance)))

  fewer_open : (es : List Exclusion) (e : Exclusion) (more : List Exclusion) → additions instance es ≡ e ∷ more
      → open_count ((e ∷ more) ++ es) < open_count es
  unfolding open_count
  fewer_open es e more f =
      let i : IsIn e (additions instance es) = subst (λ l. IsIn e l) (sym f) (inl refl) in
      let h = filter_in (may_add es) e (all_exclusions (dims instance) (box_count instance)) i in
      let k = and_parts (not (excludes es e.dim e.u e.v e.rel))
      (follows instance (excludes es) e.dim e.u e.v e.rel
      || follows instance (excludes es) e.dim e.v e.u (mirror e.rel)) h.1 in
      length_filter_fewer (λ x. not (excludes es x.dim x.u x.v x.rel))
      (λ x. not (excludes ((e ∷ more) ++ es) x.dim x.u x.v x.rel))
      (all_exclusions (dims instance) (box_count instance))
      (λ x n. is_not (excludes es x.dim x.u x.v x.rel) (λ y. not_so (excludes ((e ∷ more) ++ es) x.dim x.u x.v x.rel) n
      (excludes_right (e ∷ more) es x.dim x.u x.v x.rel y)))
      e h.0 k.0
      (rw (excludes_left (e ∷ more) es e.dim e.u e.v e.rel (excludes_own e (e ∷ more) (inl refl))) refl)

  none_open : (es : List Exclusion) → open_count es ≤ 0 → additions instance es ≡ []
  unfolding open_count
  none_open es h = go (additions instance es) refl
    where
      go : (new : List Exclusion) → additions instance es ≡ new → new ≡ []
      go [] f = refl
      go (e ∷ more) f = absurd (omega (arith, h, fewer_open es e more f))

  -- after as many rounds as there are open candidates, a round adds nothing
  pub rounds_end : (k : ℕ) (es : List Exclusion) → open_count es ≤ k → additions instance (rounds instance k es) ≡ []
  rounds_end zero es h = none_open es h
  rounds_end (suc k) es h = go (additions instance es) refl (λ fs l. rounds_end k fs l)
    where
      go : (new : List Exclusion) → additions instance es ≡ new
          → ((fs : List Exclusion) → open_count fs ≤ k → additions instance (rounds instance k fs) ≡ [])
          → additions instance (elim new [ [] ↦ es | e ∷ more ↦ rounds instance k ((e ∷ more) ++ es) ]) ≡ []
      go [] f rest = f
      go (e ∷ more) f rest = rest ((e ∷ more) ++ es) (let l = fewer_open es e more f in omega arith)

  -- the edge of a rule is an edge
  pub rule_edge : (rule : Rule) → IsRuleInstance instance rule
      → IsEdge instance (dim_of rule) (first_of rule) (second_of rule)
  rule_edge (Pair i u v) (h, b) = record { dim = h; first = b.0; second = b.2.0; distinct = b.1.0 }
  rule_edge (Apart i u v) (h, b) = record { dim = h; first = b.0; second = b.2.0; distinct = b.1.0 }
  rule_edge (Triple i u v x) (h, b) = record { dim = h; first = b.0; second = b.2.0; distinct = b.1.0 }
  rule_edge (Chain i before u v after) (h, bu, bv, ne) =
      record { dim = h; first = (ends_in instance before u bu).last; second = bv.0; distinct = ne }
  rule_edge (Compose i u v x) (h, b) = record { dim = h; first = b.0; second = b.2.2.0; distinct = b.1.1.0 }
  rule_edge (Cycle i a b c d) (h, bs) = record { dim = h; first = bs.2.0; second = bs.2.2.2.0; distinct = bs.2.1.1.0 }
  rule_edge (Order i a b c d) (h, bs) =
      record { dim = h; first = bs.2.2.0; second = bs.2.0; distinct = λ e. bs.2.1.0 (sym e) }

  pub follows_edge : (X : Exclusions) (i u v : ℕ) (r : Rel) → Follows instance X i u v r → IsEdge instance i u v
  follows_edge X i u v r (by_rule rule _ h p c) = rule_edge rule h
  follows_edge X i u v r (mirrored rule s h p c) =
      let k = rule_edge rule h in record {
        dim = k.dim;
        first = k.second;
        second = k.first;
        distinct = λ e. k.distinct (sym e);
      }

  -- where a round adds nothing, no rule adds an exclusion
  stable_at_end : (es : List Exclusion) → additions instance es ≡ [] → IsStable instance (excludes es)
  stable_at_end es none i u v r f = go (cases_Bool (excludes es i u v r))
    where
      edge : IsEdge instance i u v
      edge = follows_edge (excludes es) i u v r f

      added : (e : Exclusion) → IsIn e (all_exclusions (dims instance) (box_count instance))
          → excludes es e.dim e.u e.v e.rel ≡ false
          → (follows instance (excludes es) e.dim e.u e.v e.rel
          || follows instance (excludes es) e.dim e.v e.u (mirror e.rel)) ≡ true → ⊥
      added e i' left t =
          let P : List Exclusion → Type 0 = λ l. IsIn e l in
          let j : IsIn e (additions instance es) =
          in_filter (may_add es) e (all_exclusions (dims instance) (box_count instance)) i'
          (and_from _ _ (is_not (excludes es e.dim e.u e.v e.rel) (λ k. true≢false (sym k ∙ left))) t) in
          subst P none j

      open_mirrored : excludes es i u v r ≡ false → excludes es i v u (mirror r) ≡ false
      open_mirrored left = shut (cases_Bool (excludes es i v u (mirror r)))
        where
          shut : (excludes es i v u (mirror r) ≡ true) ⊎ (excludes es i v u (mirror r) ≡ false)
              → excludes es i v u (mirror r) ≡ false
          shut (inr k) = k
          shut (inl k) = absurd (true≢false
              (sym (subst (λ x. excludes es i u v x ≡ true) (mirror_twice r)
              (excludes_symmetric es i v u (mirror r) k)) ∙ left))

      swap : (a b : Bool) → (a || b) ≡ true → (b || a) ≡ true
      swap a b h = sw (or_cases a b h)
        where
          sw : (a ≡ true) ⊎ (b ≡ true) → (b || a) ≡ true
          sw (inl k) = or_true b a (inr k)
          sw (inr k) = or_true b a (inl k)

      side_by : (u < v) ⊎ (v ≤ u) → excludes es i u v r ≡ false → IsTrue (excludes es i u v r)
      side_by (inl l) left = absurd (added (record { dim = i; u = u; v = v; rel = r })
          (in_all i u v r edge.dim l edge.second) left
          (follows_test instance (excludes es) i u v r f))
      side_by (inr l) left = absurd (added (record { dim = i; u = v; v = u; rel = mirror r })
          (in_all i v u (mirror r) edge.dim (let ne = edge.distinct in omega arith) edge.first) (open_mirrored left)
          (swap (follows instance (excludes es) i u v (mirror (mirror r)))
          (follows instance (excludes es) i v u (mirror r))
          (subst (λ x. (follows instance (excludes es) i u v x || follows instance (excludes es) i v u (mirror r))
          ≡ true) (sym (mirror_twice r))
          (follows_test instance (excludes es) i u v r f))))

      go : (excludes es i u v r ≡ true) ⊎ (excludes es i u v r ≡ false) → IsTrue (excludes es i u v r)
      go (inl k) = k
      go (inr k) = side_by (cases_lt u v) k

  -- rounds keep what is excluded
  rounds_keep : (k : ℕ) (es : List Exclusion) → IsSubset (excludes es) (excludes (rounds instance k es))
  rounds_keep zero es i u v r h = h
  rounds_keep (suc k) es i u v r h = go (additions instance es) (λ fs l. rounds_keep k fs i u v r l)
    where
      go : (new : List Exclusion) → ((fs : List Exclusion) → IsTrue (excludes fs i u v r)
          → IsTrue (excludes (rounds instance k fs) i u v r))
          → IsTrue (excludes (elim new [ [] ↦ es | e ∷ more ↦ rounds instance k ((e ∷ more) ++ es) ]) i u v r)
      go [] rest = h
      go (e ∷ more) rest = rest ((e ∷ more) ++ es) (excludes_right (e ∷ more) es i u v r h)

  row_length : (i v : ℕ) → length
      (flat_map (λ u. map (λ r. (let e : Exclusion = record { dim = i; u = u; v = v; rel = r } in e)) rels)
      (below v)) ≡ v * 3
  row_length i v =
      let e = length_parts (λ u. map (λ r. (let x : Exclusion = record { dim = i; u = u; v = v; rel = r } in x)) rels) 3
      (λ u. refl) (below v) in
      omega (arith, e, length-range_with_len 0 v)

  triangle : (i a m : ℕ) → 2 * length
      (flat_map (λ v. flat_map (λ u. map (λ r. (let e : Exclusion = record { dim = i; u = u; v = v; rel = r } in e))
      rels) (below v)) (range_with_len a m)) + 3 * m
      ≡ 3 * m * m + 6 * a * m
  triangle i a zero = omega arith
  triangle i a (suc m) =
      let rest = triangle i (a + 1) m in
      let row = row_length i a in
      omega (
        arith,
        rest,
        row,
        length-append (flat_map (λ u. map (λ r. (let e : Exclusion = record { dim = i; u = u; v = a; rel = r } in e))
            rels) (below a))
            (flat_map (λ v. flat_map (λ u. map
            (λ r. (let e : Exclusion = record { dim = i; u = u; v = v; rel = r } in e)) rels) (below v))
            (range_with_len (a + 1) m)),
      )

  spread : (d t m : ℕ) → d * (2 * t + 3 * suc m) ≡ 2 * (d * t) + 3 * (d * suc m)
  spread d t m = grind arith

  spread' : (d m : ℕ) → d * (3 * suc m * suc m + 6 * 0 * suc m) ≡ 3 * (d * suc m) + 3 * d * suc m * m
  spread' d m = grind arith

  half_square : (d n t : ℕ) → 2 * t + 3 * n ≡ 3 * n * n + 6 * 0 * n → d * t ≤ 3 * d * n * (n - 1) / 2
  half_square d zero t h = let z : t ≡ 0 = omega arith in rw z (rw mul-zero (omega arith))
  half_square d (suc m) t h =
      let e : suc m - 1 ≡ m = omega arith in
      rw e (omega (arith, ap (λ x. d * x) h, spread d t m, spread' d m))

  pub few_passing : (p : Exclusion → Bool) → length (filter p (all_exclusions (dims instance) (box_count instance)))
      ≤ 3 * dims instance * box_count instance * (box_count instance - 1) / 2
  few_passing p =
      let n = box_count instance in
      let d = dims instance in
      let row = λ (i : ℕ). flat_map (λ v. flat_map
      (λ u. map (λ r. (let e : Exclusion = record { dim = i; u = u; v = v; rel = r } in e)) rels) (below v))
      (below n) in
      let same : (i : ℕ) → length (row i) ≡ length (row 0) = λ i. omega (arith, triangle i 0 n, triangle 0 0 n) in
      let whole : length (all_exclusions d n) ≡ length (below d) * length (row 0) =
      length_parts row (length (row 0)) same (below d) in
      let count : length (below d) * length (row 0) ≡ d * length (row 0) =
      ap (λ x. x * length (row 0)) (length-range_with_len 0 d) in
      le_trans (filter_short p (all_exclusions d n))
      (subst (λ x. x ≤ 3 * d * n * (n - 1) / 2) (sym (whole ∙ count))
      (half_square d n (length (row 0)) (triangle 0 0 n)))

  few_all : (es : List Exclusion)
      → open_count es ≤ 3 * dims instance * box_count instance * (box_count instance - 1) / 2
  unfolding open_count
  few_all es = few_passing (λ e. not (excludes es e.dim e.u e.v e.rel))

  -- the closure by rounds is the set of what has a derivation
  pub closure_is : (es : List Exclusion) (i u v : ℕ) (r : Rel)
      → (IsTrue (excludes (closure instance es) i u v r) → IsDerived instance (excludes es) i u v r)
      × (IsDerived instance (excludes es) i u v r → IsTrue (excludes (closure instance es) i u v r))
  closure_is es i u v r = (
    (λ h. record {
      steps = closure instance es;
      derivation = rounds_derived (excludes es)
          (3 * dims instance * box_count instance * (box_count instance - 1) / 2) es
          (given instance (excludes es) es (λ j a b s k. k));
      stands = h;
    }),
    (λ d. stable_holds instance (excludes es) (excludes (closure instance es))
        (excludes_symmetric (closure instance es))
        (rounds_keep (3 * dims instance * box_count instance * (box_count instance - 1) / 2) es)
        (stable_at_end (closure instance es)
        (rounds_end (3 * dims instance * box_count instance * (box_count instance - 1) / 2) es (few_all es)))
        d.steps d.derivation i u v r d.stands),
  )

  pub closure_stable : (es : List Exclusion) → IsStable instance (excludes (closure instance es))
  closure_stable es = stable_at_end (closure instance es)
      (rounds_end (3 * dims instance * box_count instance * (box_count instance - 1) / 2) es (few_all es))

  pub closure_keeps : (es : List Exclusion) → IsSubset (excludes es) (excludes (closure instance es))
  closure_keeps es = rounds_keep (3 * dims instance * box_count instance * (box_count instance - 1) / 2) es
