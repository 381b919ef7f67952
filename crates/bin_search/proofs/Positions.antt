-- The first position of a list that passes a test.
use Rattle.std.proofs.Common.{◌≡◌, ◌+◌, ltb, cond, refl, ap, arith, List, [], ◌∷◌, map, length, Some, None, Bool, true}
use Rattle.std.proofs.Common.{false, not}
use Rattle.std.specs.List.{position_or_len, position}
use Rattle.std.specs.Option.{unwrap_or}
use Rattle.std.proofs.lemmas.Bool.{ltb-false}
use Rattle.std.proofs.lemmas.List.Sums.{prefix_len-le-length}

pub position_or_length : {X : Type 0} (p : X → Bool) (xs : List X)
    → unwrap_or (position p xs) (length xs) ≡ position_or_len p xs
position_or_length p xs = go (ltb (position_or_len p xs) (length xs)) refl
  where
    go : (b : Bool) → ltb (position_or_len p xs) (length xs) ≡ b
        → unwrap_or (cond b (Some (position_or_len p xs)) None) (length xs) ≡ position_or_len p xs
    go true e = refl
    go false e = omega (arith, ltb-false (position_or_len p xs) (length xs) e, prefix_len-le-length (λ x. not (p x)) xs)

pub position_or_len-map : {X Y : Type 0} (p : Y → Bool) (f : X → Y) (xs : List X)
    → position_or_len (λ x. p (f x)) xs ≡ position_or_len p (map f xs)
position_or_len-map p f [] = refl
position_or_len-map p f (x ∷ xs) = ap (λ n. cond (not (p (f x))) (1 + n) 0) (position_or_len-map p f xs)
