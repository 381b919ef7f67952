-- Distinct lists, and numbers that are put into one.
use Rattle.std.proofs.Common.{◌≡◌, ℕ, zero, suc, ◌+◌, ◌<◌, ◌≤◌, refl, arith, List, [], ◌∷◌, ◌++◌, length}
use Rattle.work_share.specs.Kept.{IsNotIn, AreDistinct, AreBelow}

-- a given number of numbers, from `n` on
abbrev pub numbers_from : ℕ → ℕ → List ℕ
numbers_from n zero = []
numbers_from n (suc more) = n ∷ numbers_from (suc n) more

pub not_in_append : {A : Type 0} (x : A) (xs ys : List A) → IsNotIn x xs → IsNotIn x ys → IsNotIn x (xs ++ ys)
not_in_append x [] ys a b = b
not_in_append x (y ∷ xs) ys a b = (a.0, not_in_append x xs ys a.1 b)

pub not_in_left : {A : Type 0} (x : A) (xs ys : List A) → IsNotIn x (xs ++ ys) → IsNotIn x xs
not_in_left x [] ys a = tt
not_in_left x (y ∷ xs) ys a = (a.0, not_in_left x xs ys a.1)

pub not_in_right : {A : Type 0} (x : A) (xs ys : List A) → IsNotIn x (xs ++ ys) → IsNotIn x ys
not_in_right x [] ys a = a
not_in_right x (y ∷ xs) ys a = not_in_right x xs ys a.1

pub below_left : (n : ℕ) (xs ys : List ℕ) → AreBelow n (xs ++ ys) → AreBelow n xs
below_left n [] ys a = tt
below_left n (x ∷ xs) ys a = (a.0, below_left n xs ys a.1)

pub below_right : (n : ℕ) (xs ys : List ℕ) → AreBelow n (xs ++ ys) → AreBelow n ys
below_right n [] ys a = a
below_right n (x ∷ xs) ys a = below_right n xs ys a.1

pub below_append : (n : ℕ) (xs ys : List ℕ) → AreBelow n xs → AreBelow n ys → AreBelow n (xs ++ ys)
below_append n [] ys a b = b
below_append n (x ∷ xs) ys a b = (a.0, below_append n xs ys a.1 b)

pub below_more : (m n : ℕ) (xs : List ℕ) → m ≤ n → AreBelow m xs → AreBelow n xs
below_more m n [] l a = tt
below_more m n (x ∷ xs) l a = (omega (arith, l, a.0), below_more m n xs l a.1)

pub not_in_below : (n x : ℕ) (xs : List ℕ) → AreBelow n xs → n ≤ x → IsNotIn x xs
not_in_below n x [] a l = tt
not_in_below n x (y ∷ xs) a l = ((λ e. absurd (omega (arith, e, l, a.0))), not_in_below n x xs a.1 l)

pub numbers_below : (n c m : ℕ) → n + c ≤ m → AreBelow m (numbers_from n c)
numbers_below n zero m l = tt
numbers_below n (suc c) m l = (omega (arith, l), numbers_below (suc n) c m (omega (arith, l)))

pub not_in_numbers : (x n c : ℕ) → x < n → IsNotIn x (numbers_from n c)
not_in_numbers x n zero l = tt
not_in_numbers x n (suc c) l = ((λ e. absurd (omega (arith, e, l))), not_in_numbers x (suc n) c (omega (arith, l)))

pub length_numbers : (n c : ℕ) → length (numbers_from n c) ≡ c
length_numbers n zero = refl
length_numbers n (suc c) = let e = length_numbers (suc n) c in omega (arith, e)

-- fresh numbers in front of older ones
pub fresh_distinct : (n c : ℕ) (ys : List ℕ) → AreBelow n ys → AreDistinct ys → AreDistinct (numbers_from n c ++ ys)
fresh_distinct n zero ys a d = d
fresh_distinct n (suc c) ys a d = (
  not_in_append n (numbers_from (suc n) c) ys (not_in_numbers n (suc n) c (omega arith))
      (not_in_below n n ys a (omega arith)),
  fresh_distinct (suc n) c ys (below_more n (suc n) ys (omega arith) a) d,
)

-- fresh numbers between older ones
pub inserted_distinct : (n c : ℕ) (xs ys : List ℕ) → AreBelow n (xs ++ ys) → AreDistinct (xs ++ ys)
    → AreDistinct (xs ++ (numbers_from n c ++ ys))
inserted_distinct n c [] ys a d = fresh_distinct n c ys a d
inserted_distinct n c (x ∷ xs) ys a d = (
  not_in_append x xs (numbers_from n c ++ ys) (not_in_left x xs ys d.0)
      (not_in_append x (numbers_from n c) ys (not_in_numbers x n c a.0) (not_in_right x xs ys d.0)),
  inserted_distinct n c xs ys a.1 d.1,
)

pub inserted_below : (n c : ℕ) (xs ys : List ℕ) → AreBelow n (xs ++ ys)
    → AreBelow (n + c) (xs ++ (numbers_from n c ++ ys))
inserted_below n c xs ys a =
    let more = below_more n (n + c) (xs ++ ys) (omega arith) a in
    below_append (n + c) xs (numbers_from n c ++ ys) (below_left (n + c) xs ys more)
    (below_append (n + c) (numbers_from n c) ys (numbers_below n c (n + c) (omega arith))
    (below_right (n + c) xs ys more))
