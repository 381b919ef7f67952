-- Ranges of numbers: cut in two, with one number more, and their first numbers.
use Rattle.std.proofs.Common.{◌≡◌, ℕ, zero, suc, ◌+◌, ◌≤◌, ap, ap₂, ◌∙◌, refl, arith, List, [], ◌∷◌, ◌++◌, take}
use Rattle.std.proofs.Common.{append-nil}
use Rattle.std.specs.List.{range_with_len, flat_map}
use Rattle.std.proofs.lemmas.Grind.{flat_map-append}

pub range_split : (a m n : ℕ) → range_with_len a (m + n) ≡ range_with_len a m ++ range_with_len (a + m) n
range_split a zero n = ap₂ range_with_len (let e : a ≡ a + 0 = omega arith in e) (let e : 0 + n ≡ n = omega arith in e)
range_split a (suc m) n =
    ap (range_with_len a) (let e : suc m + n ≡ suc (m + n) = omega arith in e)
    ∙ ap (λ l. a ∷ l) (range_split (a + 1) m n ∙ ap (λ x. range_with_len (a + 1) m ++ range_with_len x n)
    (let e : a + 1 + m ≡ a + suc m = omega arith in e))

-- one number more
pub numbers_more : (n : ℕ) → range_with_len 0 (n + 1) ≡ range_with_len 0 n ++ n ∷ []
numbers_more n = let e : 0 + n ≡ n = omega arith in range_split 0 n 1 ∙ ap (λ k. range_with_len 0 n ++ k ∷ []) e

pub flat_map_last_below : {A : Type 0} (f : ℕ → List A) (n : ℕ)
    → flat_map f (range_with_len 0 (n + 1)) ≡ flat_map f (range_with_len 0 n) ++ f n
flat_map_last_below f n =
    ap (flat_map f) (numbers_more n)
    ∙ (flat_map-append f (range_with_len 0 n) (n ∷ [])
    ∙ ap (λ l. flat_map f (range_with_len 0 n) ++ l) (append-nil (f n)))

-- the first numbers of a range
pub range_front : (a n k : ℕ) → k ≤ n → take k (range_with_len a n) ≡ range_with_len a k
range_front a n zero h = refl
range_front a zero (suc k) h = absurd (omega (arith, h))
range_front a (suc n) (suc k) h = ap (λ (l : List ℕ). a ∷ l) (range_front (a + 1) n k (omega (arith, h)))
