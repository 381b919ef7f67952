-- Lists of numbers, one number more, and tests over them.
use Rattle.std.proofs.Common.{◌≡◌, ℕ, ◌+◌, ◌-◌, ◌<◌, ◌≤◌, ◌⊎◌, inl, inr, refl, sym, ap, ◌∙◌, arith, Bool, true, false}
use Rattle.std.proofs.Common.{cond, List, [], ◌∷◌, ◌++◌, length, get_or, map, take, append_assoc, append-nil, Some}
use Rattle.std.proofs.Common.{None}
use Rattle.std.specs.List.{list_any, list_all, filter, range_with_len}
use Rattle.std.proofs.lemmas.Bool.{true≢false, cases_Bool, lt-ltb, le-ltb}
use Rattle.std.proofs.lemmas.List.{take_more}
use Rattle.packing_terms.specs.Sums.{below}
use Rattle.packing_terms.proofs.Members.{any_at, any_from, all_at, all_from, in_range, range_in}
use Rattle.packing_terms.proofs.Ranges.{range_split}
use Rattle.packing_terms.specs.Rank.{in_order}
use Rattle.packing_terms.specs.Facts.{first_two}

-- ---- tests below a number

pub below_all : (t : ℕ → Bool) (d : ℕ) → ((j : ℕ) → j < d → t j ≡ true) → list_all t (below d) ≡ true
below_all t d h = all_from t (below d) (λ j i. (let r = range_in 0 d j i in h j (omega (arith, r))))

pub below_not_all : (t : ℕ → Bool) (d k : ℕ) → k < d → t k ≡ false → list_all t (below d) ≡ false
below_not_all t d k l e = go (cases_Bool (list_all t (below d)))
  where
    go : (list_all t (below d) ≡ true) ⊎ (list_all t (below d) ≡ false) → list_all t (below d) ≡ false
    go (inl f) = absurd (true≢false
        (sym (all_at t k (below d) f (in_range 0 d k (omega arith) (omega (arith, l)))) ∙ e))
    go (inr f) = f

pub below_some : (t : ℕ → Bool) (d k : ℕ) → k < d → t k ≡ true → list_any t (below d) ≡ true
below_some t d k l e = any_at t k (below d) (in_range 0 d k (omega arith) (omega (arith, l))) e

pub below_none : (t : ℕ → Bool) (d : ℕ) → ((j : ℕ) → j < d → t j ≡ false) → list_any t (below d) ≡ false
below_none t d h = go (cases_Bool (list_any t (below d)))
  where
    go : (list_any t (below d) ≡ true) ⊎ (list_any t (below d) ≡ false) → list_any t (below d) ≡ false
    go (inr f) = f
    go (inl f) =
        let a = any_from t (below d) f in
        let r = range_in 0 d a.item a.is_in in
        absurd (true≢false (sym a.passes ∙ h a.item (omega (arith, r))))

-- ---- one number more

pub filter_last : (t : ℕ → Bool) (xs : List ℕ) (x : ℕ) → filter t (xs ++ x ∷ []) ≡ filter t xs ++ cond (t x) (x ∷ []) []
filter_last t [] x = go (t x)
  where
    go : (b : Bool) → cond b (x ∷ []) [] ≡ [] ++ cond b (x ∷ []) []
    go true = refl
    go false = refl
filter_last t (y ∷ ys) x = go (t y) (filter_last t ys x)
  where
    go : (b : Bool) → filter t (ys ++ x ∷ []) ≡ filter t ys ++ cond (t x) (x ∷ []) []
        → cond b (y ∷ filter t (ys ++ x ∷ [])) (filter t (ys ++ x ∷ [])) ≡ cond b (y ∷ filter t ys) (filter t ys)
        ++ cond (t x) (x ∷ []) []
    go true e = ap (λ l. y ∷ l) e
    go false e = e

pub filter_take_on : (t : ℕ → Bool) (xs : List ℕ) (k : ℕ) → k < length xs → t (get_or xs k 0) ≡ true
    → filter t (take (k + 1) xs) ≡ filter t (take k xs) ++ get_or xs k 0 ∷ []
filter_take_on t xs k l e = rw (take_more xs k 0 l, filter_last t (take k xs) (get_or xs k 0), e) refl

pub filter_take_off : (t : ℕ → Bool) (xs : List ℕ) (k : ℕ) → k < length xs → t (get_or xs k 0) ≡ false
    → filter t (take (k + 1) xs) ≡ filter t (take k xs)
filter_take_off t xs k l e = rw (take_more xs k 0 l, filter_last t (take k xs) (get_or xs k 0), e)
    (append-nil (filter t (take k xs)))

-- the numbers from a on up to one more than k
pub range_more : (a k : ℕ) → a ≤ k → range_with_len a (k + 1 - a) ≡ range_with_len a (k - a) ++ k ∷ []
range_more a k l =
    let e : k + 1 - a ≡ (k - a) + 1 = omega (arith, l) in
    let f : a + (k - a) ≡ k = omega (arith, l) in
    ap (range_with_len a) e ∙ (range_split a (k - a) 1 ∙ ap (λ x. range_with_len a (k - a) ++ x ∷ []) f)

pub map_last : {A : Type 0} (f : ℕ → A) (xs : List ℕ) (x : ℕ) → map f (xs ++ x ∷ []) ≡ map f xs ++ f x ∷ []
map_last f [] x = refl
map_last f (y ∷ ys) x = ap (λ l. f y ∷ l) (map_last f ys x)

module _ {A : Type 0} (f : ℕ → A) (t : ℕ → Bool) (front : List A) (a k : ℕ) (l : a ≤ k) where
  pub twins_on : t k ≡ true
      → (front ++ map f (filter t (range_with_len a (k - a)))) ++ f k ∷ [] ≡ front
      ++ map f (filter t (range_with_len a (k + 1 - a)))
  twins_on e =
      rw (
        range_more a k l,
        filter_last t (range_with_len a (k - a)) k,
        e,
        map_last f (filter t (range_with_len a (k - a))) k,
      )
      (append_assoc front (map f (filter t (range_with_len a (k - a)))) (f k ∷ []))

  pub twins_off : t k ≡ false → front ++ map f (filter t (range_with_len a (k - a))) ≡ front
      ++ map f (filter t (range_with_len a (k + 1 - a)))
  twins_off e =
      rw (
        range_more a k l,
        filter_last t (range_with_len a (k - a)) k,
        e,
        append-nil (filter t (range_with_len a (k - a))),
      ) refl

  pub all_on : (front ++ map f (range_with_len a (k - a))) ++ f k ∷ [] ≡ front ++ map f (range_with_len a (k + 1 - a))
  all_on = rw (range_more a k l, map_last f (range_with_len a (k - a)) k)
      (append_assoc front (map f (range_with_len a (k - a))) (f k ∷ []))

  pub twins_pushed : (items new : List A) (x : A) → items ≡ front ++ map f (filter t (range_with_len a (k - a)))
      → x ≡ f k → new ≡ items ++ x ∷ [] → t k ≡ true
      → new ≡ front ++ map f (filter t (range_with_len a (k + 1 - a)))
  twins_pushed items new x h e g y = g ∙ (rw (h, e) (twins_on y))

  pub twins_kept : (items : List A) → items ≡ front ++ map f (filter t (range_with_len a (k - a))) → t k ≡ false
      → items ≡ front ++ map f (filter t (range_with_len a (k + 1 - a)))
  twins_kept items h y = h ∙ twins_off y

  pub all_pushed : (items new : List A) (x : A) → items ≡ front ++ map f (range_with_len a (k - a)) → x ≡ f k
      → new ≡ items ++ x ∷ []
      → new ≡ front ++ map f (range_with_len a (k + 1 - a))
  all_pushed items new x h e g = g ∙ (rw (h, e) all_on)

-- ---- the first two

pub first_two_none : (xs : List ℕ) → length xs < 2 → first_two xs ≡ None
first_two_none [] l = refl
first_two_none (x ∷ []) l = refl
first_two_none (x ∷ y ∷ xs) l = absurd (omega (arith, l))

pub first_two_some : (xs : List ℕ) → 2 ≤ length xs → first_two xs ≡ Some (in_order (get_or xs 0 0) (get_or xs 1 0))
first_two_some [] l = absurd (omega (arith, l))
first_two_some (x ∷ []) l = absurd (omega (arith, l))
first_two_some (x ∷ y ∷ xs) l = refl

pub rising_two : (u v : ℕ) → u < v → in_order u v ≡ (u, v)
rising_two u v l = rw (lt-ltb u v l) refl

pub falling_two : (u v : ℕ) → v ≤ u → in_order u v ≡ (v, u)
falling_two u v l = rw (le-ltb u v l) refl
