-- The search of the sides of all boxes finds the first that is longer than the container, and finds
-- none exactly where there is none.
use Rattle.std.proofs.Common.{◌≡◌, ◌≢◌, ℕ, zero, suc, ◌+◌, ◌-◌, ◌<◌, ◌≤◌, ◌⊎◌, ◌↔◌, inl, inr, refl, sym, subst, ◌∙◌}
use Rattle.std.proofs.Common.{arith, Bool, true, false, nat_lt, List, map, Option, Some, None}
use Rattle.std.specs.List.{find, flat_map, range_with_len}
use Rattle.std.proofs.lemmas.Bool.{cases_Bool, cases_eq, lt-ltb, ltb-true}
use Rattle.packing_terms.specs.Packing.{PlainInstance, dims, box_count, container_side, side}
use Rattle.packing_terms.specs.Goals.{HasTooWideBox, HasTooLargeBox}
use Rattle.packing_terms.specs.TooLarge.{IsNotLongerBelow, IsFirstLongerBelow, IsFirstTooLarge, IsFirstTooWide}
use Rattle.packing_terms.proofs.FirstLarge.{first_or_none, large_box, wide_box}
use Rattle.packing_terms.proofs.Found.{find_left, find_right}
use Rattle.packing_terms.specs.Sums.{below}
use Rattle.tree_terms.specs.ClassTree.{first_too_large_box, first_too_wide}

module _ (instance : PlainInstance) where
  abbrev is_large : ℕ × ℕ → Bool
  is_large p = nat_lt (container_side instance p.1) (side instance p.0 p.1)

  not_large : (v i : ℕ) → side instance v i ≤ container_side instance i → is_large (v, i) ≡ false
  not_large v i l = go (cases_Bool (is_large (v, i)))
    where
      go : (is_large (v, i) ≡ true) ⊎ (is_large (v, i) ≡ false) → is_large (v, i) ≡ false
      go (inl k) = absurd (let m = ltb-true (container_side instance i) (side instance v i) k in omega (arith, l, m))
      go (inr k) = k

  -- in one box, from dimension a on
  none_in_row : (v a m : ℕ) → ((i : ℕ) → a ≤ i → i < a + m → side instance v i ≤ container_side instance i)
      → find is_large (map (λ i. (v, i)) (range_with_len a m)) ≡ None
  none_in_row v a zero h = refl
  none_in_row v a (suc m) h = rw (not_large v a (h a (omega arith) (omega arith)))
      (none_in_row v (a + 1) m (λ i x y. h i (omega (arith, x)) (omega (arith, y))))

  first_in_row : (v a m i : ℕ) → a ≤ i → i < a + m
      → ((j : ℕ) → a ≤ j → j < i → side instance v j ≤ container_side instance j)
      → container_side instance i < side instance v i → find is_large (map (λ j. (v, j)) (range_with_len a m))
      ≡ Some (v, i)
  first_in_row v a zero i low high h e = absurd (omega (arith, low, high))
  first_in_row v a (suc m) i low high h e =
      go (cases_eq a i) (λ g. first_in_row v (a + 1) m i (omega (arith, low, g)) (omega (arith, high))
      (λ j x y. h j (omega (arith, x)) y) e)
    where
      go : (a ≡ i) ⊎ (a ≢ i) → (a ≢ i → find is_large (map (λ j. (v, j)) (range_with_len (a + 1) m)) ≡ Some (v, i))
          → find is_large (map (λ j. (v, j)) (range_with_len a (suc m))) ≡ Some (v, i)
      go (inl g) rest = rw g (rw (lt-ltb (container_side instance i) (side instance v i) e) refl)
      go (inr g) rest = rw (not_large v a (h a (omega arith) (omega (arith, low, g)))) (rest g)

  -- in all boxes, from box a on
  abbrev rows : ℕ → ℕ → ℕ → List (ℕ × ℕ)
  rows d a m = flat_map (λ v. map (λ i. (v, i)) (below d)) (range_with_len a m)

  none_in_rows : (d a m : ℕ) → ((v : ℕ) → a ≤ v → v < a + m → IsNotLongerBelow instance d v)
      → find is_large (rows d a m) ≡ None
  none_in_rows d a zero h = refl
  none_in_rows d a (suc m) h =
      find_right is_large (map (λ i. (a, i)) (below d)) (rows d (a + 1) m)
      (none_in_row a 0 d (λ i x y. h a (omega arith) (omega arith) i (omega (arith, y))))
      ∙ none_in_rows d (a + 1) m (λ v x y. h v (omega (arith, x)) (omega (arith, y)))

  first_in_rows : (d a m v i : ℕ) → a ≤ v → v < a + m → IsFirstLongerBelow instance d v i
      → find is_large (rows d a m) ≡ Some (v, i)
  first_in_rows d a zero v i low high h = absurd (omega (arith, low, high))
  first_in_rows d a (suc m) v i low high h =
      go (cases_eq a v) (λ g. first_in_rows d (a + 1) m v i (omega (arith, low, g)) (omega (arith, high)) h)
    where
      go : (a ≡ v) ⊎ (a ≢ v) → (a ≢ v → find is_large (rows d (a + 1) m) ≡ Some (v, i))
          → find is_large (rows d a (suc m)) ≡ Some (v, i)
      go (inl g) rest = rw g (find_left is_large (map (λ j. (v, j)) (below d)) (rows d (v + 1) m) (v, i)
          (first_in_row v 0 d i (omega arith) (let l = h.in_range in omega (arith, l))
          (λ j x y. h.shorter j y) h.large))
      go (inr g) rest = find_right is_large (map (λ j. (a, j)) (below d)) (rows d (a + 1) m)
          (none_in_row a 0 d (λ j x y. h.earlier a (omega (arith, low, g)) j (omega (arith, y)))) ∙ rest g

  abbrev found : ℕ → Option (ℕ × ℕ)
  found d = find is_large (rows d 0 (box_count instance))

  found_first : (d v i : ℕ) → IsFirstLongerBelow instance d v i → found d ≡ Some (v, i)
  found_first d v i h = first_in_rows d 0 (box_count instance) v i (omega arith) (let l = h.there in omega (arith, l)) h

  first_found : (d v i : ℕ) → found d ≡ Some (v, i) → IsFirstLongerBelow instance d v i
  first_found d v i e = go (first_or_none instance d)
    where
      go : ((u : ℕ) → u < box_count instance → IsNotLongerBelow instance d u)
          ⊎ ((u j : ℕ) × IsFirstLongerBelow instance d u j) → IsFirstLongerBelow instance d v i
      go (inl h) = absurd (differ (sym (none_in_rows d 0 (box_count instance) (λ u x y. h u (omega (arith, y)))) ∙ e))
        where
          differ : ◌≡◌ {A = Option (ℕ × ℕ)} None (Some (v, i)) → ⊥
          differ k = cc
      go (inr (u, j, h)) = same (sym (found_first d u j h) ∙ e)
        where
          same : ◌≡◌ {A = Option (ℕ × ℕ)} (Some (u, j)) (Some (v, i)) → IsFirstLongerBelow instance d v i
          same k =
              let p : ◌≡◌ {A = ℕ × ℕ} (u, j) (v, i) = cc in
              subst (λ (q : ℕ × ℕ). IsFirstLongerBelow instance d q.0 q.1) p h

  none_found : (d : ℕ) → found d ≡ None → ((v : ℕ) → v < box_count instance → IsNotLongerBelow instance d v)
  none_found d e = go (first_or_none instance d)
    where
      go : ((u : ℕ) → u < box_count instance → IsNotLongerBelow instance d u)
          ⊎ ((u j : ℕ) × IsFirstLongerBelow instance d u j)
          → ((v : ℕ) → v < box_count instance → IsNotLongerBelow instance d v)
      go (inl h) = h
      go (inr (u, j, h)) = absurd (differ (sym e ∙ found_first d u j h))
        where
          differ : ◌≡◌ {A = Option (ℕ × ℕ)} None (Some (u, j)) → ⊥
          differ k = cc

  pub first_large_is : (v i : ℕ) → first_too_large_box instance ≡ Some (v, i) ↔ IsFirstTooLarge instance v i
  first_large_is v i = (first_found (dims instance) v i, found_first (dims instance) v i)

  pub first_too_wide_is : (v i : ℕ) → first_too_wide instance ≡ Some (v, i) ↔ IsFirstTooWide instance v i
  first_too_wide_is v i = (first_found (dims instance - 1) v i, found_first (dims instance - 1) v i)

  -- and there is no such box exactly where none is found
  pub none_large_is : first_too_large_box instance ≡ None ↔ (¬ HasTooLargeBox instance)
  none_large_is = (
    (λ e h. let s = none_found (dims instance) e h.box_no h.there h.dim h.in_range in let l = h.large in
        omega (arith, s, l)),
    λ none. go (first_too_large_box instance) refl none,
  )
    where
      go : (o : Option (ℕ × ℕ)) → first_too_large_box instance ≡ o → (¬ HasTooLargeBox instance) → o ≡ None
      go None e none = refl
      go (Some p) e none = absurd (none (large_box instance p.0 p.1 (first_found (dims instance) p.0 p.1 e)))

  pub none_too_wide_is : first_too_wide instance ≡ None ↔ (¬ HasTooWideBox instance)
  none_too_wide_is = (
    (λ e h. let n = h.not_last in let s = none_found (dims instance - 1) e h.box_no h.there h.dim (omega (arith, n)) in
        let l = h.large in omega (arith, s, l)),
    λ none. go (first_too_wide instance) refl none,
  )
    where
      go : (o : Option (ℕ × ℕ)) → first_too_wide instance ≡ o → (¬ HasTooWideBox instance) → o ≡ None
      go None e none = refl
      go (Some p) e none = absurd (none (wide_box instance p.0 p.1 (first_found (dims instance - 1) p.0 p.1 e)))

  -- whether some box is too large can be decided
  pub some_large : HasTooLargeBox instance ⊎ (¬ HasTooLargeBox instance)
  some_large = go (first_too_large_box instance) refl
    where
      go : (o : Option (ℕ × ℕ)) → first_too_large_box instance ≡ o → HasTooLargeBox instance
          ⊎ (¬ HasTooLargeBox instance)
      go None e = inr (none_large_is.0 e)
      go (Some p) e = inl (large_box instance p.0 p.1 (first_found (dims instance) p.0 p.1 e))

  pub some_wide : HasTooWideBox instance ⊎ (¬ HasTooWideBox instance)
  some_wide = go (first_too_wide instance) refl
    where
      go : (o : Option (ℕ × ℕ)) → first_too_wide instance ≡ o → HasTooWideBox instance ⊎ (¬ HasTooWideBox instance)
      go None e = inr (none_too_wide_is.0 e)
      go (Some p) e = inl (wide_box instance p.0 p.1 (first_found (dims instance - 1) p.0 p.1 e))
