-- A table without an empty mask leaves a relation for each pair, so a tree is only so deep.
use Rattle.std.proofs.Common.{◌≡◌, ◌≢◌, ℕ, zero, suc, ◌+◌, ◌-◌, ◌*◌, ◌≤◌, ◌<◌, ◌⊎◌, inl, inr, refl, sym, ap, subst, ◌∙◌}
use Rattle.std.proofs.Common.{arith, Bool, true, false, not, List, [], ◌∷◌, ◌++◌, length, map, if◌then◌else◌}
use Rattle.std.proofs.lemmas.List.{length-append}
use Rattle.std.specs.List.{filter, flat_map, range_with_len}
use Rattle.std.proofs.lemmas.Bool.{true≢false, cases_Bool, or_cases, and_parts, eqb-true, or_from}
use Rattle.std.proofs.lemmas.List.FromFn.{length-range_with_len}
use Rattle.std.proofs.Math.Nat.{mul-add}
use Rattle.packing_terms.specs.declared.Rel.{Rel}
use Rattle.packing_terms.specs.declared.Rel.TheVariants.{Overlap, Before, After}
use Rattle.packing_terms.specs.declared.Exclusion.{Exclusion}
use Rattle.packing_terms.specs.Packing.{PlainInstance, dims, box_count}
use Rattle.packing_terms.specs.Relations.{mirror}
use Rattle.packing_terms.specs.Exclusions.{excludes, is_of, is_at, is_same_rel, IsEdge, exclusion_at}
use Rattle.packing_terms.proofs.Sets.{of_own}
use Rattle.packing_terms.proofs.Members.{IsIn, in_filter, range_in}
use Rattle.packing_terms.specs.Places.{HasNoEmptyMask}
use Rattle.packing_terms.specs.Rounds.{rels}
use Rattle.packing_terms.specs.Sums.{below}
use Rattle.packing_terms.specs.Steps.{with_exclusion}
use Rattle.packing_terms.proofs.Steps.{fewer_open, open_mirrored}
use Rattle.edge_state.proofs.Kept.{with_new, with_old}
use Rattle.refutation_check.specs.Nodes.{opens}

-- ---- one exclusion more

pub less_open : (instance : PlainInstance) (es : List Exclusion) (e : Exclusion) → IsEdge instance e.dim e.u e.v
    → excludes es e.dim e.u e.v e.rel ≡ false
    → opens instance (with_exclusion es e) < opens instance es
less_open instance es e edge none =
    rw (with_new es e none) (fewer_open (dims instance) (box_count instance) es e edge none)

pub no_more_open : (instance : PlainInstance) (es : List Exclusion) (e : Exclusion) → IsEdge instance e.dim e.u e.v
    → opens instance (with_exclusion es e) ≤ opens instance es
no_more_open instance es e edge = go (cases_Bool (excludes es e.dim e.u e.v e.rel))
  where
    go : (excludes es e.dim e.u e.v e.rel ≡ true) ⊎ (excludes es e.dim e.u e.v e.rel ≡ false)
        → opens instance (with_exclusion es e) ≤ opens instance es
    go (inl h) = rw (with_old es e h) (omega arith)
    go (inr h) = let l = less_open instance es e edge h in omega (arith, l)

not_of : (e : Exclusion) (s : Rel) → e.u ≢ e.v → is_same_rel e.rel s ≡ false → is_of e e.dim e.u e.v s ≡ false
not_of e s distinct other = go (cases_Bool (is_of e e.dim e.u e.v s))
  where
    hit : (is_at e e.dim e.u e.v s ≡ true) ⊎ (is_at e e.dim e.v e.u (mirror s) ≡ true) → ⊥
    hit (inl k) = true≢false (sym (and_parts _ _ k).1 ∙ other)
    hit (inr k) = distinct (eqb-true _ _ (and_parts _ _ (and_parts _ _ (and_parts _ _ k).0).0).1)

    go : (is_of e e.dim e.u e.v s ≡ true) ⊎ (is_of e e.dim e.u e.v s ≡ false) → is_of e e.dim e.u e.v s ≡ false
    go (inl k) = absurd (hit (or_cases _ _ k))
    go (inr k) = k

-- where another relation is left at the pair, no mask gets empty
pub still_full : (instance : PlainInstance) (es : List Exclusion) (e : Exclusion) (s : Rel) → e.u ≢ e.v
    → is_same_rel e.rel s ≡ false
    → excludes es e.dim e.u e.v s ≡ false → HasNoEmptyMask instance (excludes es)
    → HasNoEmptyMask instance (excludes (e ∷ es))
still_full instance es e s distinct other left full i u v edge =
    go (full i u v edge) (cases_Bool (is_of e i u v (full i u v edge).0))
  where
    Left : ℕ → ℕ → ℕ → Rel → Type 0
    Left j a b t = (q : Rel) × (excludes (e ∷ es) j a b q ≡ false)

    turned : (j a b : ℕ) (t : Rel) → Left j a b t → Left j b a (mirror t)
    turned j a b t h = (mirror h.0, open_mirrored (e ∷ es) j a b h.0 h.1)

    go : (o : (r : Rel) × (excludes es i u v r ≡ false)) → (is_of e i u v o.0 ≡ true) ⊎ (is_of e i u v o.0 ≡ false)
        → (r : Rel) × (excludes (e ∷ es) i u v r ≡ false)
    go o (inl h) = of_own Left turned e i u v o.0 h (s, or_from _ _ (not_of e s distinct other) left)
    go o (inr h) = (o.0, or_from _ _ h o.1)

-- ---- counting

one_there : {X : Type 0} (x : X) (xs : List X) → IsIn x xs → 1 ≤ length xs
one_there x [] h = absurd h
one_there x (y ∷ ys) h = omega arith

filter_joined : {X : Type 0} (p : X → Bool) (xs ys : List X) → filter p (xs ++ ys) ≡ filter p xs ++ filter p ys
filter_joined p [] ys = refl
filter_joined {X = X} p (x ∷ xs) ys = go (p x) (filter_joined p xs ys)
  where
    go : (b : Bool) → filter p (xs ++ ys) ≡ filter p xs ++ filter p ys
        → (if b then x ∷ filter p (xs ++ ys) else filter p (xs ++ ys)) ≡ (if b then x ∷ filter p xs else filter p xs)
        ++ filter p ys
    go true h = ap (λ (l : List X). x ∷ l) h
    go false h = h

filter_count : {X : Type 0} (p : X → Bool) (xs ys : List X)
    → length (filter p (xs ++ ys)) ≡ length (filter p xs) + length (filter p ys)
filter_count p xs ys = ap length (filter_joined p xs ys) ∙ length-append (filter p xs) (filter p ys)

-- a bound on the count in each part gives one on the count in all parts
each_part : {X Y : Type 0} (p : Y → Bool) (f : X → List Y) (c k : ℕ) (xs : List X)
    → ((x : X) → IsIn x xs → k ≤ c * length (filter p (f x)))
    → length xs * k ≤ c * length (filter p (flat_map f xs))
each_part p f c k [] h = omega arith
each_part p f c k (x ∷ xs) h =
    let rest = each_part p f c k xs (λ y i. h y (inr i)) in
    let here = h x (inl refl) in
    let split : c * length (filter p (flat_map f (x ∷ xs)))
    ≡ c * length (filter p (f x)) + c * length (filter p (flat_map f xs))
    = ap (λ n. c * n) (filter_count p (f x) (flat_map f xs))
    ∙ mul-add c (length (filter p (f x))) (length (filter p (flat_map f xs))) in
    let more : length (x ∷ xs) * k ≡ k + length xs * k = over (length xs) k in
    omega (arith, rest, here, split, more)
  where
    over : (n k : ℕ) → suc n * k ≡ k + n * k
    over n k = grind arith

-- part v has at least v
rising_parts : {Y : Type 0} (p : Y → Bool) (f : ℕ → List Y) (a m : ℕ)
    → ((v : ℕ) → IsIn v (range_with_len a m) → v ≤ length (filter p (f v)))
    → m * m + 2 * a * m ≤ 2 * length (filter p (flat_map f (range_with_len a m))) + m
rising_parts p f a zero h = omega arith
rising_parts p f a (suc m) h =
    let rest = rising_parts p f (a + 1) m (λ v i. h v (inr i)) in
    let here = h a (inl refl) in
    let split = filter_count p (f a) (flat_map f (range_with_len (a + 1) m)) in
    let square : suc m * suc m + 2 * a * suc m ≡ (m * m + 2 * (a + 1) * m) + 2 * a + 1 = grind arith in
    omega (arith, rest, here, split, square)

module _ (instance : PlainInstance) (es : List Exclusion) (full : HasNoEmptyMask instance (excludes es)) where
  abbrev is_left : Exclusion → Bool
  is_left e = not (excludes es e.dim e.u e.v e.rel)

  pair_left : (i u v : ℕ) → IsEdge instance i u v
      → 1 ≤ 1 * length (filter is_left
      (map (λ r. (let e : Exclusion = record { dim = i; u = u; v = v; rel = r } in e)) rels))
  pair_left i u v edge = omega (
    arith,
    one_there (exclusion_at i u v o.0) (filter is_left (map (λ r. exclusion_at i u v r) rels))
        (in_filter is_left (exclusion_at i u v o.0) (map (λ r. exclusion_at i u v r) rels) (there o.0) (open_ o.0 o.1)),
  )
    where
      o : (r : Rel) × (excludes es i u v r ≡ false)
      o = full i u v edge

      there : (r : Rel) → IsIn (let e : Exclusion = record { dim = i; u = u; v = v; rel = r } in e)
          (map (λ r. (let e : Exclusion = record { dim = i; u = u; v = v; rel = r } in e)) rels)
      there Overlap = inl refl
      there Before = inr (inl refl)
      there After = inr (inr (inl refl))

      open_ : (r : Rel) → excludes es i u v r ≡ false → not (excludes es i u v r) ≡ true
      open_ r h = rw h refl

  abbrev parts : ℕ → ℕ → List Exclusion
  parts i v = flat_map (λ u. map (λ r. (let e : Exclusion = record { dim = i; u = u; v = v; rel = r } in e))
      rels) (below v)

  row_left : (i v : ℕ) → i < dims instance → v < box_count instance → v ≤ length (filter is_left (parts i v))
  row_left i v hi hv =
      let h = each_part is_left (λ u. map (λ r. (let e : Exclusion = record { dim = i; u = u; v = v; rel = r } in e))
      rels) 1 1 (below v)
      (λ u a. let q = range_in 0 v u a in
      pair_left i u v (record {
        dim = hi;
        first = omega (arith, q.1, hv);
        second = hv;
        distinct = λ e. omega (arith, q.1, e);
      })) in
      omega (arith, h, length-range_with_len 0 v)

  square : (n l : ℕ) → n * n + 2 * 0 * n ≤ 2 * l + n → n * (n - 1) ≤ 2 * l
  square zero l h = omega arith
  square (suc m) l h =
      let e : suc m - 1 ≡ m = omega arith in
      let k : suc m * suc m ≡ suc m * m + suc m = grind arith in
      rw e (omega (arith, h, k))

  dim_left : (i : ℕ) → i < dims instance
      → box_count instance * (box_count instance - 1) ≤ 2 * length
      (filter is_left (flat_map (parts i) (below (box_count instance))))
  dim_left i hi = square (box_count instance) _
      (rising_parts is_left (parts i) 0 (box_count instance)
      (λ v a. let q = range_in 0 (box_count instance) v a in row_left i v hi (omega (arith, q.1))))

  pub least_open : dims instance * (box_count instance * (box_count instance - 1)) ≤ 2 * opens instance es
  least_open =
      let h = each_part is_left (λ i. flat_map (parts i) (below (box_count instance))) 2
      (box_count instance * (box_count instance - 1)) (below (dims instance))
      (λ i a. let q = range_in 0 (dims instance) i a in dim_left i (omega (arith, q.1))) in
      subst (λ (d : ℕ). d * (box_count instance * (box_count instance - 1)) ≤ 2 * opens instance es)
      (length-range_with_len 0 (dims instance)) h
