-- The first of an ordered list that passes a test.
use Rattle.std.proofs.Common.{◌≡◌, ℕ, zero, suc, ◌+◌, ◌<◌, ◌≤◌, ◌⊎◌, inl, inr, refl, sym, ap, subst, ◌∙◌, arith, Bool}
use Rattle.std.proofs.Common.{true, false, cond, List, [], ◌∷◌, ◌++◌, map, Some}
use Rattle.std.specs.List.{find, flat_map, range_with_len}
use Rattle.packing_terms.proofs.Members.{IsIn, append_in, map_in, range_in, flat_map_in}

module _ {X : Type 0} (Earlier : X → X → Type 0) where
  -- no element is earlier than one that stands before it
  abbrev pub IsOrdered : List X → Type 0
  IsOrdered [] = Unit {0}
  IsOrdered (x ∷ xs) = ((y : X) → IsIn y xs → ¬ Earlier y x) × IsOrdered xs

  pub ordered_append : (xs ys : List X) → IsOrdered xs → IsOrdered ys
      → ((x y : X) → IsIn x xs → IsIn y ys → ¬ Earlier y x) → IsOrdered (xs ++ ys)
  ordered_append [] ys h k apart = k
  ordered_append (x ∷ xs) ys h k apart = (
    λ y i. go y (append_in y xs ys i),
    ordered_append xs ys h.1 k (λ z y i j. apart z y (inr i) j),
  )
    where
      go : (y : X) → IsIn y xs ⊎ IsIn y ys → ¬ Earlier y x
      go y (inl i) = h.0 y i
      go y (inr j) = apart x y (inl refl) j

  -- each element that is earlier than the first that passes fails
  pub find_first : (p : X → Bool) (xs : List X) (x y : X) → IsOrdered xs → ¬ Earlier x x → find p xs ≡ Some x
      → IsIn y xs → Earlier y x → p y ≡ false
  find_first p [] x y o irreflexive e i earlier = absurd i
  find_first p (z ∷ zs) x y o irreflexive e i earlier =
      go (p z) refl e i (λ f j. find_first p zs x y o.1 irreflexive f j earlier)
    where
      go : (b : Bool) → p z ≡ b → cond b (Some z) (find p zs) ≡ Some x → (y ≡ z) ⊎ IsIn y zs
          → (find p zs ≡ Some x → IsIn y zs → p y ≡ false) → p y ≡ false
      go true f k (inl s) later =
          let same : z ≡ x = cc (k) in
          absurd (irreflexive (subst (λ w. Earlier w x) (s ∙ same) earlier))
      go true f k (inr j) later =
          let same : z ≡ x = cc (k) in
          absurd (o.0 y j (subst (λ w. Earlier y w) (sym same) earlier))
      go false f k (inl s) later = ap p s ∙ f
      go false f k (inr j) later = later k j

-- ordered pairs, by the first number and then by the second
abbrev pub IsEarlier : ℕ × ℕ → ℕ × ℕ → Type 0
IsEarlier p q = (p.0 < q.0) ⊎ ((p.0 ≡ q.0) × (p.1 < q.1))

pub never_itself : (p : ℕ × ℕ) → ¬ IsEarlier p p
never_itself p (inl h) = absurd (omega (arith, h))
never_itself p (inr h) = let k = h.1 in absurd (omega (arith, k))

row_ordered : (u a n : ℕ) → IsOrdered IsEarlier (map (λ i. (u, i)) (range_with_len a n))
row_ordered u a zero = tt
row_ordered u a (suc n) = (
  λ y i. let m = map_in (λ i. (u, i)) y (range_with_len (a + 1) n) i in
      let r = range_in (a + 1) n m.0 m.1 in
      λ e. later y m.0 m.2 r.0 e,
  row_ordered u (a + 1) n,
)
  where
    later : (y : ℕ × ℕ) (j : ℕ) → y ≡ (u, j) → a + 1 ≤ j → IsEarlier y (u, a) → ⊥
    later y j s h (inl k) = let f : y.0 ≡ u = ap (λ p. p.0) s in absurd (omega (arith, f, k))
    later y j s h (inr k) = let g : y.1 ≡ j = ap (λ p. p.1) s in let l = k.1 in absurd (omega (arith, g, h, l))

-- rows of pairs, by their first number
pub rows_ordered : (starts sizes : ℕ → ℕ) (a n : ℕ)
    → IsOrdered IsEarlier (flat_map (λ u. map (λ i. (u, i)) (range_with_len (starts u) (sizes u))) (range_with_len a n))
rows_ordered starts sizes a zero = tt
rows_ordered starts sizes a (suc n) =
    ordered_append IsEarlier (map (λ i. (a, i)) (range_with_len (starts a) (sizes a)))
    (flat_map (λ u. map (λ i. (u, i)) (range_with_len (starts u) (sizes u))) (range_with_len (a + 1) n))
    (row_ordered a (starts a) (sizes a)) (rows_ordered starts sizes (a + 1) n) apart
  where
    below : (x y : ℕ × ℕ) (i u j : ℕ) → x ≡ (a, i) → y ≡ (u, j) → a + 1 ≤ u → IsEarlier y x → ⊥
    below x y i u j s t h (inl k) =
        let f : x.0 ≡ a = ap (λ p. p.0) s in let g : y.0 ≡ u = ap (λ p. p.0) t in absurd (omega (arith, f, g, h, k))
    below x y i u j s t h (inr k) =
        let f : x.0 ≡ a = ap (λ p. p.0) s in let g : y.0 ≡ u = ap (λ p. p.0) t in let l = k.0 in
        absurd (omega (arith, f, g, h, l))

    apart : (x y : ℕ × ℕ) → IsIn x (map (λ i. (a, i)) (range_with_len (starts a) (sizes a)))
        → IsIn y (flat_map (λ u. map (λ i. (u, i)) (range_with_len (starts u) (sizes u))) (range_with_len (a + 1) n))
        → ¬ IsEarlier y x
    apart x y i j e =
        let m = map_in (λ i. (a, i)) x (range_with_len (starts a) (sizes a)) i in
        let f = flat_map_in (λ u. map (λ i. (u, i)) (range_with_len (starts u) (sizes u))) y
        (range_with_len (a + 1) n) j in
        let g = map_in (λ i. (f.0, i)) y (range_with_len (starts f.0) (sizes f.0)) f.2 in
        let r = range_in (a + 1) n f.0 f.1 in
        below x y m.0 f.0 g.0 m.2 g.2 r.0 e
