-- A set with one box more.
use Rattle.std.proofs.Common.{◌≡◌, ℕ, ◌<◌, ap, sym, ◌∙◌, Bool, true, false, ◌||◌, eqb, ltb, List, [], ◌∷◌}
use Rattle.std.proofs.Common.{Result, Ok, Err}
use Rattle.std.specs.Prelude.{if◌then◌else◌, OnErr}
use Rattle.std.specs.List.{All}
use Rattle.std.proofs.Math.Bool.{or_assoc, or_comm, or-false}
use Rattle.std.proofs.lemmas.List.Elements.{All-nil, All-cons, All-head, All-tail}
use Rattle.packing_terms.specs.OuterRefutation.{insert_box}
use Rattle.set_search.specs.Memories.{has_box}

-- its boxes are those of the set and that one
pub has_insert : (v : ℕ) (us : List ℕ) (x : ℕ) → has_box (insert_box v us) x ≡ has_box us x || eqb x v
has_insert v [] x = or-false (eqb x v)
has_insert v (u ∷ us) x = go (ltb v u) (has_insert v us x)
  where
    go : (b : Bool) → has_box (insert_box v us) x ≡ has_box us x || eqb x v
        → has_box (if b then v ∷ u ∷ us else u ∷ insert_box v us) x ≡ (eqb x u || has_box us x) || eqb x v
    go true h = or_comm (eqb x v) (eqb x u || has_box us x)
    go false h = ap (λ b. eqb x u || b) h ∙ sym (or_assoc (eqb x u) (has_box us x) (eqb x v))

-- where all of them are below a number, so are those of the set and that one
pub below_inserted : (n v : ℕ) (us : List ℕ) → All (λ u. u < n) (insert_box v us) → All (λ u. u < n) us × (v < n)
below_inserted n v [] h = (All-nil (λ (u : ℕ). u < n), All-head (λ (u : ℕ). u < n) v [] h)
below_inserted n v (u ∷ us) h = go (ltb v u) h (below_inserted n v us)
  where
    go : (b : Bool) → All (λ x. x < n) (if b then v ∷ u ∷ us else u ∷ insert_box v us)
        → (All (λ x. x < n) (insert_box v us) → All (λ x. x < n) us × (v < n)) → All (λ x. x < n) (u ∷ us) × (v < n)
    go true h more = (All-tail (λ (x : ℕ). x < n) v (u ∷ us) h, All-head (λ (x : ℕ). x < n) v (u ∷ us) h)
    go false h more =
        let m = more (All-tail (λ (x : ℕ). x < n) u (insert_box v us) h) in
        (All-cons (λ (x : ℕ). x < n) u us (All-head (λ (x : ℕ). x < n) u (insert_box v us) h) m.0, m.1)

-- what holds holds after an error
pub on_err : {A E : Type 0} (P : Type 0) (r : Result A E) → P → OnErr r P
on_err P (Ok x) h = tt
on_err P (Err e) h = h
