-- The places of a settled node are the greatest ends of the boxes before, whatever the bound on
-- chains is, so they are a packing.
use Rattle.std.proofs.Common.{◌≡◌, ℕ, zero, suc, ◌+◌, ◌*◌, ◌<◌, ◌≤◌, ◌⊎◌, inl, inr, refl, sym, ap, subst, ◌∙◌, arith}
use Rattle.std.proofs.Common.{max, true, false, List, [], ◌∷◌, map, length, get_or, IsTrue}
use Rattle.std.specs.List.{fold, filter}
use Rattle.std.proofs.lemmas.Bool.{true≢false, cases_Bool, and_parts, and_from}
use Rattle.std.proofs.lemmas.List.FromFn.{get_or-range_with_len, get_or-map-range_with_len, length-map-range_with_len}
use Rattle.std.proofs.lemmas.List.FromFn.{length-range_with_len}
use Rattle.std.proofs.lemmas.List.{nil_from_length}
use Rattle.packing_terms.specs.declared.Rel.{Rel}
use Rattle.packing_terms.specs.declared.Rel.TheVariants.{Overlap, Before, After}
use Rattle.packing_terms.specs.Packing.{PlainInstance, IsPacking, HasPositiveSides, dims, box_count, side, place}
use Rattle.packing_terms.specs.Scales.{SidesFit}
use Rattle.packing_terms.specs.Exclusions.{Exclusions, IsEdge, IsSurelyBefore}
use Rattle.packing_terms.specs.Closure.{IsStable, IsSymmetric}
use Rattle.packing_terms.proofs.Members.{IsIn, in_filter, filter_in, in_range}
use Rattle.packing_terms.proofs.InBins.{joined_at}
use Rattle.packing_terms.proofs.Lengths.{filter_short, length_parts}
use Rattle.packing_terms.specs.Rounds.{is_surely_before}
use Rattle.packing_terms.specs.Sums.{below}
use Rattle.packing_terms.specs.Places.{IsOrdered, HasNoEmptyMask, IsGreatestEnd}
use Rattle.packing_terms.proofs.RoundsLemmas.{length_filter_fewer}
use Rattle.packing_terms.proofs.PlacesLemmas.{before_trans, places_pack}
use Rattle.tree_terms.specs.InnerTree.{place_by, settled_places}

-- the greatest of some numbers
module _ (f : ℕ → ℕ) where
  fold_start : (a : ℕ) (xs : List ℕ) → a ≤ fold (λ b u. max b (f u)) a xs
  fold_start a [] = omega arith
  fold_start a (x ∷ xs) = let h = fold_start (max a (f x)) xs in omega (arith, h)

  fold_above : (a : ℕ) (xs : List ℕ) (u : ℕ) → IsIn u xs → f u ≤ fold (λ b v. max b (f v)) a xs
  fold_above a [] u i = absurd i
  fold_above a (x ∷ xs) u (inl e) = let h = fold_start (max a (f x)) xs in let g = ap f e in omega (arith, h, g)
  fold_above a (x ∷ xs) u (inr i) = fold_above (max a (f x)) xs u i

  fold_reached : (a : ℕ) (xs : List ℕ) → (fold (λ b v. max b (f v)) a xs ≡ a)
      ⊎ ((u : ℕ) × IsIn u xs × (fold (λ b v. max b (f v)) a xs ≡ f u))
  fold_reached a [] = inl refl
  fold_reached a (x ∷ xs) = go (fold_reached (max a (f x)) xs) (larger a (f x))
    where
      larger : (m n : ℕ) → (max m n ≡ m) ⊎ (max m n ≡ n)
      larger m n = pick (cases_le m n)
        where
          cases_le : (p q : ℕ) → (p ≤ q) ⊎ (q ≤ p)
          cases_le p q = grind (arith)

          pick : (m ≤ n) ⊎ (n ≤ m) → (max m n ≡ m) ⊎ (max m n ≡ n)
          pick (inl l) = inr (omega arith)
          pick (inr l) = inl (omega arith)

      go : (fold (λ b v. max b (f v)) (max a (f x)) xs ≡ max a (f x))
          ⊎ ((u : ℕ) × IsIn u xs × (fold (λ b v. max b (f v)) (max a (f x)) xs ≡ f u))
          → (max a (f x) ≡ a) ⊎ (max a (f x) ≡ f x)
          → (fold (λ b v. max b (f v)) (max a (f x)) xs ≡ a)
          ⊎ ((u : ℕ) × IsIn u (x ∷ xs) × (fold (λ b v. max b (f v)) (max a (f x)) xs ≡ f u))
      go (inl e) (inl g) = inl (e ∙ g)
      go (inl e) (inr g) = inr (x, inl refl, e ∙ g)
      go (inr (u, i, e)) g = inr (u, inr i, e)

fold_same : (f g : ℕ → ℕ) (xs : List ℕ) → ((u : ℕ) → IsIn u xs → f u ≡ g u) → (a : ℕ)
    → fold (λ b u. max b (f u)) a xs ≡ fold (λ b u. max b (g u)) a xs
fold_same f g [] h a = refl
fold_same f g (x ∷ xs) h a =
    ap (λ m. fold (λ b u. max b (f u)) (max a m) xs) (h x (inl refl))
    ∙ fold_same f g xs (λ u i. h u (inr i)) (max a (g x))

module _ (instance : PlainInstance) (X : Exclusions) (i : ℕ)
    (placed : (u v : ℕ) → IsSurelyBefore X i u v → (u < box_count instance) × (v < box_count instance))
    (trans : (u v x : ℕ) → IsSurelyBefore X i u v → IsSurelyBefore X i v x → IsSurelyBefore X i u x)
    (irreflexive : (v : ℕ) → ¬ IsSurelyBefore X i v v) where
  abbrev before : ℕ → List ℕ
  before v = filter (λ u. is_surely_before X i u v) (below (box_count instance))

  is_before : (u v : ℕ) → is_surely_before X i u v ≡ true → IsSurelyBefore X i u v
  is_before u v h = let p = and_parts _ _ h in (p.0, p.1)

  before_is : (u v : ℕ) → IsSurelyBefore X i u v → is_surely_before X i u v ≡ true
  before_is u v h = and_from _ _ h.0 h.1

  in_before : (u v : ℕ) → IsIn u (before v) → IsSurelyBefore X i u v
  in_before u v h = is_before u v (filter_in (λ w. is_surely_before X i w v) u (below (box_count instance)) h).1

  before_in : (u v : ℕ) → IsSurelyBefore X i u v → IsIn u (before v)
  before_in u v h = in_filter (λ w. is_surely_before X i w v) u (below (box_count instance))
      (let l = (placed u v h).0 in in_range 0 (box_count instance) u (omega arith) (omega (arith, l))) (before_is u v h)

  not_itself : (v : ℕ) → is_surely_before X i v v ≡ false
  not_itself v = go (cases_Bool (is_surely_before X i v v))
    where
      go : (is_surely_before X i v v ≡ true) ⊎ (is_surely_before X i v v ≡ false) → is_surely_before X i v v ≡ false
      go (inl k) = absurd (irreflexive v (is_before v v k))
      go (inr k) = k

  -- a box before has fewer boxes before
  fewer_before : (u v : ℕ) → IsSurelyBefore X i u v → length (before u) < length (before v)
  fewer_before u v h = length_filter_fewer (λ w. is_surely_before X i w v) (λ w. is_surely_before X i w u)
      (below (box_count instance))
      (λ w k. before_is w v (trans w u v (is_before w u k) h)) u
      (let l = (placed u v h).0 in in_range 0 (box_count instance) u (omega arith) (omega (arith, l))) (before_is u v h)
      (not_itself u)

  same_place : (j k v : ℕ) → length (before v) ≤ j → length (before v) ≤ k
      → place_by instance X i j v ≡ place_by instance X i k v
  same_place zero zero v l m = refl
  same_place zero (suc k) v l m = rw (nil_from_length (before v) (omega (arith, l))) refl
  same_place (suc j) zero v l m = rw (nil_from_length (before v) (omega (arith, m))) refl
  same_place (suc j) (suc k) v l m =
      fold_same (λ u. place_by instance X i j u + side instance u i)
      (λ u. place_by instance X i k u + side instance u i) (before v)
      (λ u h. let f = fewer_before u v (in_before u v h) in
      ap (λ x. x + side instance u i) (same_place j k u (omega (arith, f, l)) (omega (arith, f, m)))) 0

  -- the place by as many steps as there are boxes is the greatest end before
  one_more : (v : ℕ) → place_by instance X i (box_count instance) v ≡ place_by instance X i (suc (box_count instance)) v
  one_more v =
      let few = filter_short (λ u. is_surely_before X i u v) (below (box_count instance)) in
      let n = length-range_with_len 0 (box_count instance) in
      same_place (box_count instance) (suc (box_count instance)) v (omega (arith, few, n)) (omega (arith, few, n))

  place_above : (u v : ℕ) → IsSurelyBefore X i u v
      → place_by instance X i (box_count instance) u + side instance u i ≤ place_by instance X i (box_count instance) v
  place_above u v h =
      let k = fold_above (λ w. place_by instance X i (box_count instance) w + side instance w i) 0 (before v) u
      (before_in u v h) in
      let e = one_more v in
      omega (arith, k, e)

  place_reached : (v : ℕ) → (place_by instance X i (box_count instance) v ≡ 0)
      ⊎ ((u : ℕ) × IsSurelyBefore X i u v
      × (place_by instance X i (box_count instance) v ≡ place_by instance X i (box_count instance) u + side
      instance u i))
  place_reached v = go (fold_reached (λ w. place_by instance X i (box_count instance) w + side instance w i) 0
      (before v)) (one_more v)
    where
      go : (place_by instance X i (suc (box_count instance)) v ≡ 0)
          ⊎ ((u : ℕ) × IsIn u (before v)
          × (place_by instance X i (suc (box_count instance)) v
          ≡ place_by instance X i (box_count instance) u + side instance u i))
          → place_by instance X i (box_count instance) v ≡ place_by instance X i (suc (box_count instance)) v
          → (place_by instance X i (box_count instance) v ≡ 0)
          ⊎ ((u : ℕ) × IsSurelyBefore X i u v
          × (place_by instance X i (box_count instance) v ≡ place_by instance X i (box_count instance) u + side
          instance u i))
      go (inl e) f = inl (f ∙ e)
      go (inr (u, h, e)) f = inr (u, in_before u v h, f ∙ e)

-- the coordinate of a box among the places
place_is : (instance : PlainInstance) (X : Exclusions) (v i : ℕ) → v < box_count instance → i < dims instance
    → place instance (settled_places instance X) v i ≡ place_by instance X i (box_count instance) v
place_is instance X v i l m =
    joined_at (λ u. map (λ j. place_by instance X j (box_count instance) u) (below (dims instance))) (dims instance)
    (λ u. length-map-range_with_len (λ j. place_by instance X j (box_count instance) u) 0 (dims instance))
    (below (box_count instance)) v i
    (let n = length-range_with_len 0 (box_count instance) in omega (arith, l, n)) m
    ∙ (get_or-map-range_with_len (λ j. place_by instance X j (box_count instance)
    (get_or (below (box_count instance)) v 0)) 0 (dims instance) i i 0 m (omega arith)
    ∙ ap (λ u. place_by instance X i (box_count instance) u)
    (let e = get_or-range_with_len 0 (box_count instance) v 0 l in omega (arith, e)))

module _ (instance : PlainInstance) (X : Exclusions) (stable : IsStable instance X) (symmetric : IsSymmetric X)
    (full : HasNoEmptyMask instance X)
    (sides : HasPositiveSides instance) (fit : SidesFit instance)
    (placed : (i u v : ℕ) → IsTrue (X i u v Overlap) → IsEdge instance i u v) where
  not_both : (i u v : ℕ) → IsSurelyBefore X i u v → ¬ IsSurelyBefore X i v u
  not_both i u v uv vu = go (full i u v (placed i u v uv.0))
    where
      go : (r : Rel) × (X i u v r ≡ false) → ⊥
      go (Overlap, e) = true≢false (sym uv.0 ∙ e)
      go (After, e) = true≢false (sym uv.1 ∙ e)
      go (Before, e) = true≢false (sym (symmetric i v u After vu.1) ∙ e)

  boxes3 : (i u v x : ℕ) → IsSurelyBefore X i u v → IsSurelyBefore X i v x → IsSurelyBefore X i u x
  boxes3 i u v x uv vx =
      let p = placed i u v uv.0 in
      let q = placed i v x vx.0 in
      before_trans instance X stable symmetric full sides fit i u v x p.dim (
        p.first,
        (p.distinct, ((λ e. not_both i v x vx (subst (λ (y : ℕ). IsSurelyBefore X i y v) e uv)), tt)),
        (p.second, (q.distinct, tt), (q.second, tt, tt)),
      ) uv vx

  never_itself : (i v : ℕ) → ¬ IsSurelyBefore X i v v
  never_itself i v h = (placed i v v h.0).distinct refl

  -- the places of a settled node meet the equation of the greatest end
  pub settled_ends : (v i : ℕ) → v < box_count instance → i < dims instance
      → IsGreatestEnd instance X (settled_places instance X) i v
  settled_ends v i l m = record {
    above = above;
    reached = go (place_reached instance X i in_range' (boxes3 i) (never_itself i) v);
  }
    where
      in_range' : (u w : ℕ) → IsSurelyBefore X i u w → (u < box_count instance) × (w < box_count instance)
      in_range' u w h = let p = placed i u w h.0 in (p.first, p.second)

      above : (u : ℕ) → u < box_count instance → IsSurelyBefore X i u v
          → place instance (settled_places instance X) u i + side instance u i ≤ place instance
          (settled_places instance X) v i
      above u k h =
          let a = place_above instance X i in_range' (boxes3 i) (never_itself i) u v h in
          let e = place_is instance X u i k m in
          let f = place_is instance X v i l m in
          omega (arith, a, e, f)

      go : (place_by instance X i (box_count instance) v ≡ 0)
          ⊎ ((u : ℕ) × IsSurelyBefore X i u v
          × (place_by instance X i (box_count instance) v ≡ place_by instance X i (box_count instance) u + side
          instance u i))
          → (place instance (settled_places instance X) v i ≡ 0)
          ⊎ ((u : ℕ) × (u < box_count instance) × IsSurelyBefore X i u v
          × (place instance (settled_places instance X) v i ≡ place instance (settled_places instance X) u i + side
          instance u i))
      go (inl e) = inl (place_is instance X v i l m ∙ e)
      go (inr (u, h, e)) =
          let k = (placed i u v h.0).first in
          inr (
            u,
            k,
            h,
            place_is instance X v i l m
                ∙ (e ∙ ap (λ x. x + side instance u i) (sym (place_is instance X u i k m))),
          )

  -- so they are a packing
  pub settled_pack : ((u v : ℕ) → u < v → v < box_count instance → IsOrdered instance X u v)
      → IsPacking instance (settled_places instance X)
  settled_pack settled = places_pack instance X stable symmetric full sides fit (settled_places instance X) settled_ends
      count settled
    where
      count : length (settled_places instance X) ≡ box_count instance * dims instance
      count =
          length_parts (λ u. map (λ j. place_by instance X j (box_count instance) u) (below (dims instance)))
          (dims instance)
          (λ u. length-map-range_with_len (λ j. place_by instance X j (box_count instance) u) 0 (dims instance))
          (below (box_count instance))
          ∙ ap (λ n. n * dims instance) (length-range_with_len 0 (box_count instance))
