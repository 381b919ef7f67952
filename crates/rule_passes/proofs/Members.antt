-- Passes over the members of a row, one after another.
use Rattle.std.proofs.Common.{◌≡◌, ℕ, ◌⊎◌, inl, inr, refl, sym, subst, ◌∙◌, Bool, true, false, not, eqb, ◌&&◌, List}
use Rattle.std.proofs.lemmas.Bool.{true≢false, cases_Bool, cases_eq, eqb-true}
use Rattle.packing_terms.specs.declared.Exclusion.{Exclusion}
use Rattle.packing_terms.specs.Packing.{PlainInstance}
use Rattle.edge_state.specs.Edges.{PlainEdges}
use Rattle.edge_state.specs.Passes.{IsPass}
use Rattle.edge_state.proofs.Passes.{IsKept, pass_as, pass_none, pass_then}

-- a member that isn't left was none before, unless it was taken out
pub off_left : (before left : ℕ → Bool) (x : ℕ) → ((y : ℕ) → left y ≡ before y && not (eqb y x)) → (y : ℕ) → (y ≡ x → ⊥)
    → left y ≡ false → before y ≡ false
off_left before left x less y ne off = go (before y) (eqb y x) (sym (less y) ∙ off) (apart (cases_Bool (eqb y x)))
  where
    apart : (eqb y x ≡ true) ⊎ (eqb y x ≡ false) → eqb y x ≡ false
    apart (inl is) = absurd (ne (eqb-true y x is))
    apart (inr is) = is

    go : (a b : Bool) → (a && not b) ≡ false → b ≡ false → a ≡ false
    go false b h e = refl
    go true false h e = absurd (true≢false h)
    go true true h e = absurd (true≢false e)

-- none is done at first
pub members_start : (instance : PlainInstance) (s : PlainEdges) (row : ℕ → Bool) (P : ℕ → List Exclusion → Type 0)
    → IsPass instance s s (λ es. (x : ℕ) → row x ≡ true → row x ≡ false → P x es)
members_start instance s row P =
    pass_none instance s (λ es. (x : ℕ) → row x ≡ true → row x ≡ false → P x es)
    (λ x on off. absurd (true≢false (sym on ∙ off)))

-- one more is done
pub members_next : (instance : PlainInstance) (a b c : PlainEdges) (row rest left : ℕ → Bool) (x : ℕ)
    (P : ℕ → List Exclusion → Type 0) → ((y : ℕ) → IsKept (P y))
    → ((y : ℕ) → left y ≡ rest y && not (eqb y x))
    → IsPass instance a b (λ es. (y : ℕ) → row y ≡ true → rest y ≡ false → P y es) → IsPass instance b c (P x)
    → IsPass instance a c (λ es. (y : ℕ) → row y ≡ true → left y ≡ false → P y es)
members_next instance a b c row rest left x P kept less h here =
    pass_as instance a c (λ es. ((y : ℕ) → row y ≡ true → rest y ≡ false → P y es) × P x es)
    (λ es. (y : ℕ) → row y ≡ true → left y ≡ false → P y es)
    (λ es p y on off. go es p y on off (cases_eq y x))
    (pass_then instance a b c (λ es. (y : ℕ) → row y ≡ true → rest y ≡ false → P y es) (P x)
    (λ es fs more f y on off. kept y es fs more (f y on off)) h here)
  where
    go : (es : List Exclusion) → ((y : ℕ) → row y ≡ true → rest y ≡ false → P y es) × P x es → (y : ℕ) → row y ≡ true
        → left y ≡ false → (y ≡ x) ⊎ (y ≡ x → ⊥) → P y es
    go es p y on off (inl e) = subst (λ (z : ℕ). P z es) (sym e) p.1
    go es p y on off (inr ne) = p.0 y on (off_left rest left x less y ne off)
