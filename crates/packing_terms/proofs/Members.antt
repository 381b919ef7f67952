-- What is in a list, and tests over its elements.
use Rattle.std.proofs.Common.{◌≡◌, ℕ, zero, suc, ◌+◌, ◌<◌, ◌≤◌, ◌⊎◌, inl, inr, refl, sym, ap, subst, ◌∙◌, arith, Bool}
use Rattle.std.proofs.Common.{true, false, cond, List, [], ◌∷◌, ◌++◌, map, length, get_or}
use Rattle.std.specs.List.{list_any, list_all, filter, flat_map, range_with_len}
use Rattle.std.proofs.lemmas.Bool.{true≢false, and_parts, or_cases, and_from, cases_eq}
use Rattle.packing_terms.proofs.Sets.{or_true}

-- x is in the list
abbrev pub IsIn : {X : Type 0} → X → List X → Type 0
IsIn x [] = ⊥
IsIn x (y ∷ ys) = (x ≡ y) ⊎ IsIn x ys

pub any_at : {X : Type 0} (p : X → Bool) (x : X) (xs : List X) → IsIn x xs → p x ≡ true → list_any p xs ≡ true
any_at p x [] i h = absurd i
any_at p x (y ∷ ys) (inl e) h = or_true _ _ (inl (ap p (sym e) ∙ h))
any_at p x (y ∷ ys) (inr i) h = or_true _ _ (inr (any_at p x ys i h))

-- an element that passes
pub record Passes {X : Type 0} (p : X → Bool) (xs : List X) : Type 0 where
  pub item : X
  pub is_in : IsIn item xs
  pub passes : p item ≡ true

pub passes_later : {X : Type 0} (p : X → Bool) (y : X) (ys : List X) → Passes p ys → Passes p (y ∷ ys)
passes_later p y ys h = record { item = h.item; is_in = inr h.is_in; passes = h.passes }

pub any_from : {X : Type 0} (p : X → Bool) (xs : List X) → list_any p xs ≡ true → Passes p xs
any_from p [] h = absurd (true≢false (sym h))
any_from p (y ∷ ys) h = go (or_cases _ _ h) (any_from p ys)
  where
    go : (p y ≡ true) ⊎ (list_any p ys ≡ true) → (list_any p ys ≡ true → Passes p ys) → Passes p (y ∷ ys)
    go (inl e) rest = record { item = y; is_in = inl refl; passes = e }
    go (inr e) rest = passes_later p y ys (rest e)

pub all_at : {X : Type 0} (p : X → Bool) (x : X) (xs : List X) → list_all p xs ≡ true → IsIn x xs → p x ≡ true
all_at p x [] h i = absurd i
all_at p x (y ∷ ys) h (inl e) = ap p e ∙ (and_parts _ _ h).0
all_at p x (y ∷ ys) h (inr i) = all_at p x ys (and_parts _ _ h).1 i

pub all_from : {X : Type 0} (p : X → Bool) (xs : List X) → ((x : X) → IsIn x xs → p x ≡ true) → list_all p xs ≡ true
all_from p [] h = refl
all_from p (y ∷ ys) h = and_from _ _ (h y (inl refl)) (all_from p ys (λ x i. h x (inr i)))

pub in_append : {X : Type 0} (x : X) (xs ys : List X) → IsIn x xs ⊎ IsIn x ys → IsIn x (xs ++ ys)
in_append x [] ys (inl i) = absurd i
in_append x [] ys (inr i) = i
in_append x (y ∷ xs) ys (inl (inl e)) = inl e
in_append x (y ∷ xs) ys (inl (inr i)) = inr (in_append x xs ys (inl i))
in_append x (y ∷ xs) ys (inr i) = inr (in_append x xs ys (inr i))

pub append_in : {X : Type 0} (x : X) (xs ys : List X) → IsIn x (xs ++ ys) → IsIn x xs ⊎ IsIn x ys
append_in x [] ys i = inr i
append_in x (y ∷ xs) ys (inl e) = inl (inl e)
append_in x (y ∷ xs) ys (inr i) = go (append_in x xs ys i)
  where
    go : IsIn x xs ⊎ IsIn x ys → (x ≡ y ⊎ IsIn x xs) ⊎ IsIn x ys
    go (inl j) = inl (inr j)
    go (inr j) = inr j

pub in_map : {X Y : Type 0} (f : X → Y) (x : X) (xs : List X) → IsIn x xs → IsIn (f x) (map f xs)
in_map f x [] i = absurd i
in_map f x (y ∷ ys) (inl e) = inl (ap f e)
in_map f x (y ∷ ys) (inr i) = inr (in_map f x ys i)

pub map_in : {X Y : Type 0} (f : X → Y) (z : Y) (xs : List X) → IsIn z (map f xs) → (x : X) × IsIn x xs × (z ≡ f x)
map_in f z [] i = absurd i
map_in f z (y ∷ ys) (inl e) = (y, inl refl, e)
map_in f z (y ∷ ys) (inr i) = let h = map_in f z ys i in (h.0, inr h.1, h.2)

pub in_flat_map : {X Y : Type 0} (f : X → List Y) (x : X) (z : Y) (xs : List X) → IsIn x xs → IsIn z (f x)
    → IsIn z (flat_map f xs)
in_flat_map f x z [] i j = absurd i
in_flat_map f x z (y ∷ ys) (inl e) j = in_append z (f y) (flat_map f ys) (inl (subst (λ w. IsIn z (f w)) e j))
in_flat_map f x z (y ∷ ys) (inr i) j = in_append z (f y) (flat_map f ys) (inr (in_flat_map f x z ys i j))

pub flat_map_in : {X Y : Type 0} (f : X → List Y) (z : Y) (xs : List X) → IsIn z (flat_map f xs)
    → (x : X) × IsIn x xs × IsIn z (f x)
flat_map_in f z [] i = absurd i
flat_map_in {X = X} f z (y ∷ ys) i = go (append_in z (f y) (flat_map f ys) i) (flat_map_in f z ys)
  where
    go : IsIn z (f y) ⊎ IsIn z (flat_map f ys) → (IsIn z (flat_map f ys) → (x : X) × IsIn x ys × IsIn z (f x))
        → (x : X) × IsIn x (y ∷ ys) × IsIn z (f x)
    go (inl j) rest = (y, inl refl, j)
    go (inr j) rest = let h = rest j in (h.0, inr h.1, h.2)

pub in_filter : {X : Type 0} (p : X → Bool) (x : X) (xs : List X) → IsIn x xs → p x ≡ true → IsIn x (filter p xs)
in_filter p x [] i h = absurd i
in_filter p x (y ∷ ys) (inl e) h = rw (ap p (sym e) ∙ h) (inl e)
in_filter p x (y ∷ ys) (inr i) h = go (p y) (in_filter p x ys i h)
  where
    go : (b : Bool) → IsIn x (filter p ys) → IsIn x (cond b (y ∷ filter p ys) (filter p ys))
    go true j = inr j
    go false j = j

pub filter_in : {X : Type 0} (p : X → Bool) (x : X) (xs : List X) → IsIn x (filter p xs) → IsIn x xs × (p x ≡ true)
filter_in p x [] i = absurd i
filter_in p x (y ∷ ys) i = go (p y) refl i (filter_in p x ys)
  where
    go : (b : Bool) → p y ≡ b → IsIn x (cond b (y ∷ filter p ys) (filter p ys))
        → (IsIn x (filter p ys) → IsIn x ys × (p x ≡ true))
        → IsIn x (y ∷ ys) × (p x ≡ true)
    go true e (inl f) rest = (inl f, ap p f ∙ e)
    go true e (inr j) rest = let h = rest j in (inr h.0, h.1)
    go false e j rest = let h = rest j in (inr h.0, h.1)

pub in_range : (a n x : ℕ) → a ≤ x → x < a + n → IsIn x (range_with_len a n)
in_range a zero x h l = absurd (omega arith)
in_range a (suc n) x h l = go (cases_eq x a) (λ ne. in_range (a + 1) n x (omega arith) (omega arith))
  where
    go : (x ≡ a) ⊎ (x ≡ a → ⊥) → ((x ≡ a → ⊥) → IsIn x (range_with_len (a + 1) n)) → IsIn x (range_with_len a (suc n))
    go (inl e) rest = inl e
    go (inr ne) rest = inr (rest ne)

pub range_in : (a n x : ℕ) → IsIn x (range_with_len a n) → (a ≤ x) × (x < a + n)
range_in a zero x i = absurd i
range_in a (suc n) x (inl e) = (omega arith, omega arith)
range_in a (suc n) x (inr i) = let h = range_in (a + 1) n x i in (omega arith, omega arith)

-- a member has an index, and what is at an index is a member
pub at_index : {X : Type 0} (d x : X) (xs : List X) → IsIn x xs → (k : ℕ) × (k < length xs) × (get_or xs k d ≡ x)
at_index d x [] i = absurd i
at_index d x (y ∷ ys) (inl e) = (0, omega arith, sym e)
at_index d x (y ∷ ys) (inr i) = let r = at_index d x ys i in let l = r.1 in (suc r.0, omega (arith, l), r.2)

pub index_in : {X : Type 0} (d : X) (xs : List X) (k : ℕ) → k < length xs → IsIn (get_or xs k d) xs
index_in d [] k l = absurd (omega (arith, l))
index_in d (y ∷ ys) zero l = inl refl
index_in d (y ∷ ys) (suc k) l = inr (index_in d ys k (omega (arith, l)))
