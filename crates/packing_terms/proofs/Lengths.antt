-- Lengths of filtered lists, and of lists of equal parts.
use Rattle.std.proofs.Common.{◌≡◌, ℕ, suc, ◌+◌, ◌*◌, ◌≤◌, arith, Bool, true, false, cond, List, [], ◌∷◌, length}
use Rattle.std.specs.List.{filter, flat_map}
use Rattle.std.proofs.lemmas.List.{length-append}

pub filter_short : {X : Type 0} (p : X → Bool) (xs : List X) → length (filter p xs) ≤ length xs
filter_short p [] = omega arith
filter_short p (x ∷ xs) = go (p x) (filter_short p xs)
  where
    go : (b : Bool) → length (filter p xs) ≤ length xs
        → length (cond b (x ∷ filter p xs) (filter p xs)) ≤ suc (length xs)
    go true h = omega (arith, h)
    go false h = omega (arith, h)

-- the length, where each part has `k` elements
pub length_parts : {X Y : Type 0} (f : X → List Y) (k : ℕ) → ((x : X) → length (f x) ≡ k) → (xs : List X)
    → length (flat_map f xs) ≡ length xs * k
length_parts f k h [] = omega arith
length_parts f k h (x ∷ xs) =
    let e = length_parts f k h xs in
    let a = length-append (f x) (flat_map f xs) in
    let b = h x in
    let d : suc (length xs) * k ≡ k + length xs * k = grind arith in
    omega (arith, e, a, b, d)
