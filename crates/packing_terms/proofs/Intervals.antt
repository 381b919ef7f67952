-- The three relations of two projections.
use Rattle.std.proofs.Common.{◌≡◌, ℕ, ◌+◌, ◌<◌, ◌≤◌, ◌⊎◌, inl, inr, refl, true, arith}
use Rattle.packing_terms.specs.declared.Rel.{Rel}
use Rattle.packing_terms.specs.declared.Rel.TheVariants.{Overlap, Before, After}
use Rattle.packing_terms.specs.Relations.{AreRelated, allows}
use Rattle.std.proofs.lemmas.Bool.{cases_lt}

-- some relation holds
pub some_relation : (p w q x : ℕ) → (r : Rel) × AreRelated p w q x r
some_relation p w q x = go (cases_lt q (p + w)) (cases_lt p (q + x))
  where
    go : (q < p + w) ⊎ (p + w ≤ q) → (p < q + x) ⊎ (q + x ≤ p) → (r : Rel) × AreRelated p w q x r
    go (inr e) _ = (Before, e)
    go (inl s) (inr e) = (After, e)
    go (inl s) (inl e) = (Overlap, (e, s))

-- what holds of u, x is allowed by what holds of u, v and of v, x
pub composes : (p w q x s y : ℕ) → 1 ≤ w → 1 ≤ x → 1 ≤ y → (a b r : Rel)
    → AreRelated p w q x a → AreRelated q x s y b → AreRelated p w s y r → allows a b r ≡ true
composes p w q x s y _ _ _ Before Before Before h k l = refl
composes p w q x s y hw hx hy Before Before Overlap h k l = absurd (omega arith)
composes p w q x s y hw hx hy Before Before After h k l = absurd (omega arith)
composes p w q x s y hw hx hy Before Overlap After h k l = absurd (omega arith)
composes p w q x s y hw hx hy Before Overlap Before h k l = refl
composes p w q x s y hw hx hy Before Overlap Overlap h k l = refl
composes p w q x s y hw hx hy Before After r h k l = refl
composes p w q x s y hw hx hy Overlap Before After h k l = absurd (omega arith)
composes p w q x s y hw hx hy Overlap Before Before h k l = refl
composes p w q x s y hw hx hy Overlap Before Overlap h k l = refl
composes p w q x s y hw hx hy Overlap Overlap r h k l = refl
composes p w q x s y hw hx hy Overlap After Before h k l = absurd (omega arith)
composes p w q x s y hw hx hy Overlap After After h k l = refl
composes p w q x s y hw hx hy Overlap After Overlap h k l = refl
composes p w q x s y hw hx hy After Before r h k l = refl
composes p w q x s y hw hx hy After Overlap Before h k l = absurd (omega arith)
composes p w q x s y hw hx hy After Overlap After h k l = refl
composes p w q x s y hw hx hy After Overlap Overlap h k l = refl
composes p w q x s y hw hx hy After After After h k l = refl
composes p w q x s y hw hx hy After After Before h k l = absurd (omega arith)
composes p w q x s y hw hx hy After After Overlap h k l = absurd (omega arith)

-- projections that don't overlap lie before or after
pub apart_relation : (p w q x : ℕ) → (AreRelated p w q x Overlap → ⊥) → AreRelated p w q x Before
    ⊎ AreRelated p w q x After
apart_relation p w q x none = go (some_relation p w q x)
  where
    go : (r : Rel) × AreRelated p w q x r → AreRelated p w q x Before ⊎ AreRelated p w q x After
    go (Before, h) = inl h
    go (After, h) = inr h
    go (Overlap, h) = absurd (none h)
