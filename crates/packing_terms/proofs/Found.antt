-- What a search of a list finds, and what isn't found.
use Rattle.std.proofs.Common.{◌≡◌, ◌⊎◌, inl, inr, refl, sym, ap, ◌∙◌, Bool, true, false, cond, List, [], ◌∷◌, ◌++◌}
use Rattle.std.proofs.Common.{Some, None}
use Rattle.std.specs.List.{list_any, find}
use Rattle.std.proofs.lemmas.List.Folds.{find-append}
use Rattle.std.proofs.lemmas.Bool.{true≢false, cases_Bool}
use Rattle.packing_terms.proofs.Members.{IsIn, any_at}

pub find_some : {X : Type 0} (p : X → Bool) (xs : List X) (x : X) → find p xs ≡ Some x → IsIn x xs × (p x ≡ true)
find_some p [] x e = absurd (cc)
find_some p (y ∷ ys) x e = go (p y) refl e (find_some p ys x)
  where
    go : (b : Bool) → p y ≡ b → cond b (Some y) (find p ys) ≡ Some x → (find p ys ≡ Some x → IsIn x ys × (p x ≡ true))
        → IsIn x (y ∷ ys) × (p x ≡ true)
    go true f k rest = let s : y ≡ x = cc in (inl (sym s), ap p (sym s) ∙ f)
    go false f k rest = let h = rest k in (inr h.0, h.1)

pub find_none : {X : Type 0} (p : X → Bool) (xs : List X) → find p xs ≡ None → (x : X) → IsIn x xs → p x ≡ false
find_none p [] e x i = absurd i
find_none p (y ∷ ys) e x i = go (p y) refl e (find_none p ys) i
  where
    go : (b : Bool) → p y ≡ b → cond b (Some y) (find p ys) ≡ None
        → (find p ys ≡ None → (z : _) → IsIn z ys → p z ≡ false) → IsIn x (y ∷ ys) → p x ≡ false
    go true f k rest j = absurd (cc)
    go false f k rest (inl s) = ap p s ∙ f
    go false f k rest (inr j) = rest k x j

-- a search of two lists
pub find_left : {X : Type 0} (p : X → Bool) (xs ys : List X) (x : X) → find p xs ≡ Some x → find p (xs ++ ys) ≡ Some x
find_left p xs ys x e = rw e at (find-append p xs ys)

pub find_right : {X : Type 0} (p : X → Bool) (xs ys : List X) → find p xs ≡ None → find p (xs ++ ys) ≡ find p ys
find_right p xs ys e = rw e at (find-append p xs ys)

pub any_false : {X : Type 0} (p : X → Bool) (x : X) (xs : List X) → list_any p xs ≡ false → IsIn x xs → p x ≡ false
any_false p x xs f i = go (cases_Bool (p x))
  where
    go : (p x ≡ true) ⊎ (p x ≡ false) → p x ≡ false
    go (inl k) = absurd (true≢false (sym (any_at p x xs i k) ∙ f))
    go (inr k) = k
