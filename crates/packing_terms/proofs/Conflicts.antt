-- What the test for a conflict says of a closure, and of what has a derivation.
use Rattle.std.proofs.Common.{◌≡◌, ℕ, ◌<◌, ◌≤◌, ◌⊎◌, inl, inr, sym, ◌∙◌, arith, true, false, ◌&&◌, List}
use Rattle.std.specs.List.{list_any}
use Rattle.std.proofs.lemmas.Bool.{true≢false, cases_Bool, and_parts, and_from, cases_lt}
use Rattle.packing_terms.specs.declared.Rel.{Rel}
use Rattle.packing_terms.specs.declared.Rel.TheVariants.{Overlap, Before, After}
use Rattle.packing_terms.specs.declared.Exclusion.{Exclusion}
use Rattle.packing_terms.specs.Packing.{PlainInstance, dims, box_count}
use Rattle.packing_terms.specs.Exclusions.{Exclusions, excludes}
use Rattle.packing_terms.specs.Closure.{IsDerived, HasConflict, IsSymmetric, Derives}
use Rattle.packing_terms.proofs.Sets.{excludes_symmetric}
use Rattle.packing_terms.proofs.Members.{any_at, any_from, in_range, range_in}
use Rattle.packing_terms.proofs.Closures.{derives_from, given_derived}
use Rattle.packing_terms.specs.Rounds.{closure, has_empty_mask}
use Rattle.packing_terms.specs.Sums.{below}
use Rattle.packing_terms.specs.Places.{HasNoEmptyMask}
use Rattle.packing_terms.proofs.RoundsLemmas.{closure_is, closure_keeps}

module _ (instance : PlainInstance) where
  -- the closure and its list derive one another
  pub closed_back : (es : List Exclusion) → Derives instance (excludes (closure instance es)) (excludes es)
  closed_back es = derives_from instance (excludes (closure instance es)) (excludes es)
      (λ i u v r k. (closure_is instance es i u v r).0 k)

  pub closed_there : (es : List Exclusion) → Derives instance (excludes es) (excludes (closure instance es))
  closed_there es = derives_from instance (excludes es) (excludes (closure instance es))
      (λ i u v r k. given_derived instance (closure instance es) i u v r (closure_keeps instance es i u v r k))

  pub stays_open : (es : List Exclusion) (i u v : ℕ) (r : Rel) → excludes (closure instance es) i u v r ≡ false
      → ¬ IsDerived instance (excludes es) i u v r
  stays_open es i u v r f d = true≢false (sym ((closure_is instance es i u v r).1 d) ∙ f)

-- the tests on a table
module _ (X : Exclusions) (d n : ℕ) where
  pub all_three : (i u v : ℕ) → i < d → u < v → v < n → X i u v Overlap ≡ true → X i u v Before ≡ true
      → X i u v After ≡ true → has_empty_mask X d n ≡ true
  all_three i u v hi huv hv o b a =
      any_at (λ j. list_any (λ y. list_any (λ x. X j x y Overlap && X j x y Before && X j x y After) (below y))
      (below n)) i (below d)
      (in_range 0 d i (omega arith) (omega arith))
      (any_at (λ y. list_any (λ x. X i x y Overlap && X i x y Before && X i x y After) (below y)) v (below n)
      (in_range 0 n v (omega arith) (omega arith))
      (any_at (λ x. X i x v Overlap && X i x v Before && X i x v After) u (below v)
      (in_range 0 v u (omega arith) (omega arith))
      (and_from _ _ (and_from _ _ o b) a)))

  -- the edge of a conflict
  pub record ConflictAt : Type 0 where
    pub dim : ℕ
    pub u : ℕ
    pub v : ℕ
    pub in_dims : dim < d
    pub rising : u < v
    pub in_boxes : v < n
    pub each : (r : Rel) → X dim u v r ≡ true

  pub conflict_at : has_empty_mask X d n ≡ true → ConflictAt
  conflict_at f =
      let a = any_from (λ i. list_any
      (λ v. list_any (λ u. X i u v Overlap && X i u v Before && X i u v After) (below v)) (below n)) (below d) f in
      let b = any_from (λ v. list_any (λ u. X a.item u v Overlap && X a.item u v Before && X a.item u v After)
      (below v)) (below n) a.passes in
      let c = any_from (λ u. X a.item u b.item Overlap && X a.item u b.item Before && X a.item u b.item After)
      (below b.item) b.passes in
      let p = and_parts _ _ c.passes in
      let q = and_parts _ _ p.0 in
      let hi = range_in 0 d a.item a.is_in in
      let hv = range_in 0 n b.item b.is_in in
      let hu = range_in 0 b.item c.item c.is_in in
      record {
        dim = a.item;
        u = c.item;
        v = b.item;
        in_dims = omega (arith, hi);
        rising = omega (arith, hu);
        in_boxes = omega (arith, hv);
        each = each a.item c.item b.item q.0 q.1 p.1;
      }
    where
      each : (i u v : ℕ) → X i u v Overlap ≡ true → X i u v Before ≡ true → X i u v After ≡ true → (r : Rel)
          → X i u v r ≡ true
      each i u v o b a Overlap = o
      each i u v o b a Before = b
      each i u v o b a After = a

  -- where the test finds no conflict, no mask is empty
  pub no_three : IsSymmetric X → has_empty_mask X d n ≡ false → (i u v : ℕ) → i < d → u < n → v < n → (u ≡ v → ⊥)
      → ((r : Rel) → X i u v r ≡ true) → ⊥
  no_three symmetric f i u v hi hu hv ne each = go (cases_lt u v)
    where
      go : (u < v) ⊎ (v ≤ u) → ⊥
      go (inl l) = true≢false (sym (all_three i u v hi l hv (each Overlap) (each Before) (each After)) ∙ f)
      go (inr l) = true≢false (sym (all_three i v u hi (omega (arith, l, ne)) hu
          (symmetric i u v Overlap (each Overlap))
          (symmetric i u v After (each After)) (symmetric i u v Before (each Before))) ∙ f)

  pub open_one : IsSymmetric X → has_empty_mask X d n ≡ false → (i u v : ℕ) → i < d → u < n → v < n → (u ≡ v → ⊥)
      → (r : Rel) × (X i u v r ≡ false)
  open_one symmetric f i u v hi hu hv ne =
      go (cases_Bool (X i u v Overlap)) (cases_Bool (X i u v Before)) (cases_Bool (X i u v After))
    where
      all : X i u v Overlap ≡ true → X i u v Before ≡ true → X i u v After ≡ true → (r : Rel) → X i u v r ≡ true
      all o b a Overlap = o
      all o b a Before = b
      all o b a After = a

      go : (X i u v Overlap ≡ true) ⊎ (X i u v Overlap ≡ false) → (X i u v Before ≡ true) ⊎ (X i u v Before ≡ false)
          → (X i u v After ≡ true) ⊎ (X i u v After ≡ false) → (r : Rel) × (X i u v r ≡ false)
      go (inr e) _ _ = (Overlap, e)
      go (inl o) (inr e) _ = (Before, e)
      go (inl o) (inl b) (inr e) = (After, e)
      go (inl o) (inl b) (inl a) = absurd (no_three symmetric f i u v hi hu hv ne (all o b a))

module _ (instance : PlainInstance) (es : List Exclusion) where
  -- the test of the closure says whether there is a conflict
  pub calm : has_empty_mask (excludes (closure instance es)) (dims instance) (box_count instance) ≡ false
      → ¬ HasConflict instance (excludes es)
  calm f c = no_three (excludes (closure instance es)) (dims instance) (box_count instance)
      (excludes_symmetric (closure instance es)) f c.dim c.u c.v
      c.edge.dim c.edge.first c.edge.second c.edge.distinct (λ r. (closure_is instance es c.dim c.u c.v r).1 (c.each r))

  pub stormy : has_empty_mask (excludes (closure instance es)) (dims instance) (box_count instance) ≡ true
      → HasConflict instance (excludes es)
  stormy f =
      let c = conflict_at (excludes (closure instance es)) (dims instance) (box_count instance) f in
      let l = c.rising in
      let m = c.in_boxes in
      record {
        dim = c.dim;
        u = c.u;
        v = c.v;
        edge = record {
          dim = c.in_dims;
          first = omega (arith, l, m);
          second = m;
          distinct = (λ e. omega (arith, l, e));
        };
        each = λ r. (closure_is instance es c.dim c.u c.v r).0 (c.each r);
      }

  pub full_masks : has_empty_mask (excludes (closure instance es)) (dims instance) (box_count instance) ≡ false
      → HasNoEmptyMask instance (excludes (closure instance es))
  full_masks f i u v p = open_one (excludes (closure instance es)) (dims instance) (box_count instance)
      (excludes_symmetric (closure instance es)) f i u v
      p.dim p.first p.second p.distinct
