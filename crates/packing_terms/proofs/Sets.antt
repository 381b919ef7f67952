-- The set of a list of exclusions.
use Rattle.std.proofs.Common.{◌≡◌, ℕ, ◌⊎◌, inl, inr, refl, sym, subst, Bool, true, false, ◌||◌, List, [], ◌∷◌, ◌++◌}
use Rattle.std.specs.Prelude.{IsTrue}
use Rattle.std.proofs.lemmas.Bool.{true≢false, and_parts, or_cases, or_left, and_from, eqb-true, eq-eqb}
use Rattle.packing_terms.specs.declared.Rel.{Rel}
use Rattle.packing_terms.specs.declared.Rel.TheVariants.{Overlap, Before, After}
use Rattle.packing_terms.specs.declared.Exclusion.{Exclusion}
use Rattle.packing_terms.specs.Relations.{mirror}
use Rattle.packing_terms.specs.Exclusions.{is_same_rel, is_at, is_of, excludes}
use Rattle.packing_terms.specs.Closure.{IsSubset, IsSymmetric}

pub same_rel : (a b : Rel) → is_same_rel a b ≡ true → a ≡ b
same_rel Overlap Overlap h = refl
same_rel Before Before h = refl
same_rel After After h = refl
same_rel Overlap Before h = absurd (true≢false (sym h))
same_rel Overlap After h = absurd (true≢false (sym h))
same_rel Before Overlap h = absurd (true≢false (sym h))
same_rel Before After h = absurd (true≢false (sym h))
same_rel After Overlap h = absurd (true≢false (sym h))
same_rel After Before h = absurd (true≢false (sym h))

pub is_same_rel_refl : (a : Rel) → is_same_rel a a ≡ true
is_same_rel_refl Overlap = refl
is_same_rel_refl Before = refl
is_same_rel_refl After = refl

pub mirror_twice : (r : Rel) → mirror (mirror r) ≡ r
mirror_twice Overlap = refl
mirror_twice Before = refl
mirror_twice After = refl

-- a fact at the exclusion's own edge holds at each edge that it is at
pub at_own : (P : ℕ → ℕ → ℕ → Rel → Type 0) (e : Exclusion) (i u v : ℕ) (r : Rel) → is_at e i u v r ≡ true
    → P e.dim e.u e.v e.rel → P i u v r
at_own P e i u v r h p =
    let p1 = and_parts _ _ h in
    let p2 = and_parts _ _ p1.0 in
    let p3 = and_parts _ _ p2.0 in
    let q1 = subst (λ (x : ℕ). P x e.u e.v e.rel) (eqb-true _ _ p3.0) p in
    let q2 = subst (λ (x : ℕ). P i x e.v e.rel) (eqb-true _ _ p3.1) q1 in
    let q3 = subst (λ (x : ℕ). P i u x e.rel) (eqb-true _ _ p2.1) q2 in
    subst (λ (x : Rel). P i u v x) (same_rel _ _ p1.1) q3

pub is_at_own : (e : Exclusion) → is_at e e.dim e.u e.v e.rel ≡ true
is_at_own e = and_from _ _ (and_from _ _ (and_from _ _ (eq-eqb e.dim e.dim refl) (eq-eqb e.u e.u refl))
    (eq-eqb e.v e.v refl)) (is_same_rel_refl e.rel)

-- The same of a fact that holds of mirrors too.
pub of_own : (P : ℕ → ℕ → ℕ → Rel → Type 0) → ((i u v : ℕ) (r : Rel) → P i u v r → P i v u (mirror r))
    → (e : Exclusion) (i u v : ℕ) (r : Rel) → is_of e i u v r ≡ true → P e.dim e.u e.v e.rel → P i u v r
of_own P mirrored e i u v r h p = go (or_cases _ _ h)
  where
    go : (is_at e i u v r ≡ true) ⊎ (is_at e i v u (mirror r) ≡ true) → P i u v r
    go (inl k) = at_own P e i u v r k p
    go (inr k) =
        let q = mirrored i v u (mirror r) (at_own P e i v u (mirror r) k p) in
        subst (λ (x : Rel). P i u v x) (mirror_twice r) q

-- tests that imply each other are the same
pub same_bool : (a b : Bool) → (a ≡ true → b ≡ true) → (b ≡ true → a ≡ true) → a ≡ b
same_bool true b f g = sym (f refl)
same_bool false true f g = g refl
same_bool false false f g = refl

pub or_true : (x y : Bool) → (x ≡ true) ⊎ (y ≡ true) → (x || y) ≡ true
or_true true y h = refl
or_true false y (inl h) = absurd (true≢false (sym h))
or_true false y (inr h) = h

-- an exclusion is in the set of a list that begins with it
pub excludes_first : (e : Exclusion) (es : List Exclusion) → excludes (e ∷ es) e.dim e.u e.v e.rel ≡ true
excludes_first e es = or_true _ _ (inl (or_left _ _ (is_at_own e)))

pub excludes_rest : (e : Exclusion) (es : List Exclusion) → IsSubset (excludes es) (excludes (e ∷ es))
excludes_rest e es i u v r h = or_true _ _ (inr h)

pub is_of_mirror : (e : Exclusion) (i u v : ℕ) (r : Rel) → is_of e i u v r ≡ true → is_of e i v u (mirror r) ≡ true
is_of_mirror e i u v r h = go (or_cases _ _ h)
  where
    go : (is_at e i u v r ≡ true) ⊎ (is_at e i v u (mirror r) ≡ true) → is_of e i v u (mirror r) ≡ true
    go (inl k) = or_true _ _ (inr (subst (λ (x : Rel). is_at e i u v x ≡ true) (sym (mirror_twice r)) k))
    go (inr k) = or_true _ _ (inl k)

pub excludes_symmetric : (es : List Exclusion) → IsSymmetric (excludes es)
excludes_symmetric [] i u v r h = absurd (true≢false (sym h))
excludes_symmetric (e ∷ es) i u v r h = go (or_cases _ _ h) (excludes_symmetric es i u v r)
  where
    go : (is_of e i u v r ≡ true) ⊎ (excludes es i u v r ≡ true)
        → (excludes es i u v r ≡ true → excludes es i v u (mirror r) ≡ true) → excludes (e ∷ es) i v u (mirror r) ≡ true
    go (inl k) rest = or_true _ _ (inl (is_of_mirror e i u v r k))
    go (inr k) rest = or_true _ _ (inr (rest k))

pub excludes_left : (es fs : List Exclusion) → IsSubset (excludes es) (excludes (es ++ fs))
excludes_left [] fs i u v r h = absurd (true≢false (sym h))
excludes_left (e ∷ es) fs i u v r h = go (or_cases _ _ h) (excludes_left es fs i u v r)
  where
    go : (is_of e i u v r ≡ true) ⊎ (excludes es i u v r ≡ true)
        → (excludes es i u v r ≡ true → excludes (es ++ fs) i u v r ≡ true) → excludes (e ∷ (es ++ fs)) i u v r ≡ true
    go (inl k) rest = or_true _ _ (inl k)
    go (inr k) rest = or_true _ _ (inr (rest k))

pub excludes_right : (es fs : List Exclusion) → IsSubset (excludes fs) (excludes (es ++ fs))
excludes_right [] fs i u v r h = h
excludes_right (e ∷ es) fs i u v r h = or_true _ _ (inr (excludes_right es fs i u v r h))

-- a set that has the first exclusion and those of the rest has those of the list
pub own_first : (X : List Exclusion) (d : Exclusion) (ds : List Exclusion) → IsTrue (excludes X d.dim d.u d.v d.rel)
    → IsSubset (excludes ds) (excludes X) → IsSubset (excludes (d ∷ ds)) (excludes X)
own_first X d ds own rest i u v r h = pick (or_cases _ _ h)
  where
    pick : (is_of d i u v r ≡ true) ⊎ (excludes ds i u v r ≡ true) → IsTrue (excludes X i u v r)
    pick (inl k) = of_own (λ j a b s. IsTrue (excludes X j a b s)) (excludes_symmetric X) d i u v r k own
    pick (inr k) = rest i u v r k
