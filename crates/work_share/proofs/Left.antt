-- Paths that lead to the left of others.
use Rattle.std.proofs.Common.{◌≡◌, ℕ, ◌<◌, refl, sym, arith, List, [], ◌∷◌, ◌++◌, true, false, eqb, ltb, if◌then◌else◌}
use Rattle.std.proofs.lemmas.Bool.{true≢false, eqb-false, eq-eqb, ne_eqb, lt-ltb}
use Rattle.work_share.specs.Kept.{leads_left, IsLeftOf, AreFromLeft}

-- what is left of a path is left of all below it
pub left_of_longer : (p q rest : List ℕ) → leads_left p q ≡ true → leads_left p (q ++ rest) ≡ true
left_of_longer [] q rest h = absurd (true≢false (sym h))
left_of_longer (i ∷ p) [] rest h = absurd (true≢false (sym h))
left_of_longer (i ∷ p) (j ∷ q) rest h =
    elim (eqb i j) as (λ b. (if b then leads_left p q else ltb i j) ≡ true
    → (if b then leads_left p (q ++ rest) else ltb i j) ≡ true) [
      | true ↦ λ f. left_of_longer p q rest f
      | false ↦ λ f. f
    ] h

pub longer_is_left : (p q rest : List ℕ) → leads_left p q ≡ true → leads_left (p ++ rest) q ≡ true
longer_is_left [] q rest h = absurd (true≢false (sym h))
longer_is_left (i ∷ p) [] rest h = absurd (true≢false (sym h))
longer_is_left (i ∷ p) (j ∷ q) rest h =
    elim (eqb i j) as (λ b. (if b then leads_left p q else ltb i j) ≡ true
    → (if b then leads_left (p ++ rest) q else ltb i j) ≡ true) [
      | true ↦ λ f. longer_is_left p q rest f
      | false ↦ λ f. f
    ] h

-- a child is left of a later one
pub child_is_left : (p : List ℕ) (i j : ℕ) → i < j → leads_left (p ++ i ∷ []) (p ++ j ∷ []) ≡ true
child_is_left [] i j l = rw (ne_eqb i j (λ e. absurd (omega (arith, e, l))), lt-ltb i j l) refl
child_is_left (k ∷ p) i j l = rw (eq-eqb k k refl) (child_is_left p i j l)

head_is : (x y : ℕ) (xs ys : List ℕ) → x ∷ xs ≡ y ∷ ys → x ≡ y
head_is x y xs ys e = cc

tail_is : (x y : ℕ) (xs ys : List ℕ) → x ∷ xs ≡ y ∷ ys → xs ≡ ys
tail_is x y xs ys e = cc

-- neither of the two is a prefix of the other
pub left_is_no_prefix : (p q rest : List ℕ) → leads_left p q ≡ true → q ≡ p ++ rest → ⊥
left_is_no_prefix [] q rest h e = true≢false (sym h)
left_is_no_prefix (i ∷ p) [] rest h e = true≢false (sym h)
left_is_no_prefix (i ∷ p) (j ∷ q) rest h e =
    elim (eqb i j) as (λ b. eqb i j ≡ b → (if b then leads_left p q else ltb i j) ≡ true → ⊥) [
      | true ↦ λ _ f. left_is_no_prefix p q rest f (tail_is j i q (p ++ rest) e)
      | false ↦ λ k _. eqb-false i j k (sym (head_is j i q (p ++ rest) e))
    ] refl h

pub right_is_no_prefix : (p q rest : List ℕ) → leads_left p q ≡ true → p ≡ q ++ rest → ⊥
right_is_no_prefix [] q rest h e = true≢false (sym h)
right_is_no_prefix (i ∷ p) [] rest h e = true≢false (sym h)
right_is_no_prefix (i ∷ p) (j ∷ q) rest h e =
    elim (eqb i j) as (λ b. eqb i j ≡ b → (if b then leads_left p q else ltb i j) ≡ true → ⊥) [
      | true ↦ λ _ f. right_is_no_prefix p q rest f (tail_is i j p (q ++ rest) e)
      | false ↦ λ k _. eqb-false i j k (head_is i j p (q ++ rest) e)
    ] refl h

-- each of these leads to the left of each of those
abbrev pub AreAllLeftOf : List (List ℕ) → List (List ℕ) → Type 0
AreAllLeftOf [] qs = Unit {0}
AreAllLeftOf (p ∷ ps) qs = IsLeftOf p qs × AreAllLeftOf ps qs

pub left_append : (p : List ℕ) (qs rs : List (List ℕ)) → IsLeftOf p qs → IsLeftOf p rs → IsLeftOf p (qs ++ rs)
left_append p [] rs a b = b
left_append p (q ∷ qs) rs a b = (a.0, left_append p qs rs a.1 b)

pub left_first : (p : List ℕ) (qs rs : List (List ℕ)) → IsLeftOf p (qs ++ rs) → IsLeftOf p qs
left_first p [] rs a = tt
left_first p (q ∷ qs) rs a = (a.0, left_first p qs rs a.1)

pub left_rest : (p : List ℕ) (qs rs : List (List ℕ)) → IsLeftOf p (qs ++ rs) → IsLeftOf p rs
left_rest p [] rs a = a
left_rest p (q ∷ qs) rs a = left_rest p qs rs a.1

pub from_left_append : (ps qs : List (List ℕ)) → AreFromLeft ps → AreFromLeft qs → AreAllLeftOf ps qs
    → AreFromLeft (ps ++ qs)
from_left_append [] qs a b c = b
from_left_append (p ∷ ps) qs a b c = (left_append p ps qs a.0 c.0, from_left_append ps qs a.1 b c.1)

pub from_left_first : (ps qs : List (List ℕ)) → AreFromLeft (ps ++ qs) → AreFromLeft ps
from_left_first [] qs a = tt
from_left_first (p ∷ ps) qs a = (left_first p ps qs a.0, from_left_first ps qs a.1)

pub from_left_rest : (ps qs : List (List ℕ)) → AreFromLeft (ps ++ qs) → AreFromLeft qs
from_left_rest [] qs a = a
from_left_rest (p ∷ ps) qs a = from_left_rest ps qs a.1

pub from_left_apart : (ps qs : List (List ℕ)) → AreFromLeft (ps ++ qs) → AreAllLeftOf ps qs
from_left_apart [] qs a = tt
from_left_apart (p ∷ ps) qs a = (left_rest p ps qs a.0, from_left_apart ps qs a.1)
