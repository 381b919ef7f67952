-- The boxes of a row that are heavier than a bound, and those that a box can't be before.
use Rattle.std.proofs.Common.{◌≡◌, ℕ, ◌+◌, ◌-◌, ◌<◌, ◌≤◌, ◌⊎◌, inl, inr, refl, sym, ◌∙◌, arith, Bool, true, false, not}
use Rattle.std.proofs.Common.{◌&&◌, ◌||◌, eqb, ltb}
use Rattle.std.proofs.lemmas.Bool.{eqb-true, ltb-true, lt-ltb, cases_Bool, cases_lt}

pub not_below : (a b : ℕ) → b ≤ a → ltb a b ≡ false
not_below a b l = go (cases_Bool (ltb a b))
  where
    go : (ltb a b ≡ true) ⊎ (ltb a b ≡ false) → ltb a b ≡ false
    go (inl h) = let k = ltb-true a b h in absurd (omega (arith, k, l))
    go (inr h) = h

take_at : (h r t e : Bool) → (e ≡ true → (r ≡ true) × (t ≡ true)) → (h || e) || ((r && not e) && t) ≡ h || (r && t)
take_at true r t e k = refl
take_at false r t true k = rw ((k refl).0, (k refl).1) refl
take_at false false t false k = refl
take_at false true t false k = refl

-- one box less is left, which is heavy
pub heavier_take : (row heavy more rest left test : ℕ → Bool) (x : ℕ) → ((v : ℕ) → left v ≡ rest v && not (eqb v x))
    → ((v : ℕ) → more v ≡ heavy v || eqb v x) → rest x ≡ true → test x ≡ true
    → ((v : ℕ) → heavy v || (rest v && test v) ≡ row v && test v) → (v : ℕ)
    → more v || (left v && test v) ≡ row v && test v
heavier_take row heavy more rest left test x less grown on heavy_too told v =
    rw (less v, grown v) (take_at (heavy v) (rest v) (test v) (eqb v x)
    (λ e. (let same : v ≡ x = eqb-true v x e in (rw same on, rw same heavy_too))) ∙ told v)

-- a box is heavier than what is left of a limit exactly where the two are beyond the limit
pub left_of : (limit head tail most : ℕ) → head ≤ limit → most ≡ limit - head
    → ltb most tail ≡ ltb limit (head + tail)
left_of limit head tail most small is = go (cases_lt most tail)
  where
    go : (most < tail) ⊎ (tail ≤ most) → ltb most tail ≡ ltb limit (head + tail)
    go (inl l) = lt-ltb most tail l ∙ sym (lt-ltb limit (head + tail) (omega (arith, l, is, small)))
    go (inr l) = not_below most tail l ∙ sym (not_below limit (head + tail) (omega (arith, l, is, small)))
