-- In a packing the boxes of a family are disjoint intervals, so they are together at most as long
-- as the container.
use Rattle.std.proofs.Common.{ℕ, pred, ◌+◌, ◌≤◌, inl, inr, refl, sym, subst, arith, List, [], ◌∷◌, ◌++◌}
use Rattle.std.proofs.Common.{append_assoc, append-nil}
use Rattle.std.specs.List.{AllByRecursion}
use Rattle.packing_terms.specs.declared.Rel.{Rel}
use Rattle.packing_terms.specs.declared.Rel.TheVariants.{Overlap, Before, After}
use Rattle.packing_terms.specs.declared.Exclusion.{Exclusion}
use Rattle.packing_terms.specs.Packing.{PlainInstance, IsPacking, HasPositiveSides, dims, container_side, side, place}
use Rattle.packing_terms.specs.Relations.{Holds}
use Rattle.packing_terms.specs.Exclusions.{Respects, excludes}
use Rattle.packing_terms.proofs.Members.{IsIn, in_append}
use Rattle.packing_terms.proofs.Boxes.{each_in}
use Rattle.packing_terms.proofs.Derivations.{derived_sound}
use Rattle.packing_terms.proofs.Intervals.{some_relation}
use Rattle.packing_terms.proofs.Working.{working}
use Rattle.verdict_terms.specs.Families.{AreBeside, AreAside, IsBoxNo, IsFamily, family_length}
use Rattle.verdict_terms.proofs.Windows.{AreClear, AreSpread, spread_fits}

-- what joins in two parts joins whole
pub aside_append : (instance : PlainInstance) (es : List Exclusion) (i : ℕ) (ws us vs : List ℕ)
    → AreAside instance es i ws us → AreAside instance es i (ws ++ us) vs → AreAside instance es i ws (us ++ vs)
aside_append instance es i ws [] vs h k = subst (λ l. AreAside instance es i l vs) (append-nil ws) k
aside_append instance es i ws (u ∷ us) vs h k = (
  h.0,
  aside_append instance es i (ws ++ u ∷ []) us vs h.1
      (subst (λ l. AreAside instance es i l vs) (sym (append_assoc ws (u ∷ []) us)) k),
)

-- what holds of all boxes of two lists
pub all_append : (P : ℕ → Type 0) (us vs : List ℕ) → AllByRecursion P us → AllByRecursion P vs
    → AllByRecursion P (us ++ vs)
all_append P [] vs h k = k
all_append P (u ∷ us) vs h k = (h.0, all_append P us vs h.1 k)

module _ (instance : PlainInstance) (places : List ℕ) (es : List Exclusion) (i : ℕ)
    (sides : HasPositiveSides instance) (packing : IsPacking instance places)
    (respects : Respects instance places (excludes es)) where
  abbrev start : ℕ → ℕ
  start v = place instance places (pred v) (pred i)

  abbrev len : ℕ → ℕ
  len v = side instance (pred v) (pred i)

  clear : (u v : ℕ) → AreBeside instance es i u v → AreClear start len u v
  clear u v h = go (some_relation _ _ _ _)
    where
      go : (r : Rel) × Holds instance places (pred i) (pred u) (pred v) r → AreClear start len u v
      go (Overlap, k) =
          absurd (derived_sound instance places (excludes es) sides packing respects (pred i) (pred u) (pred v) Overlap
          h.1 k)
      go (Before, k) = inl k
      go (After, k) = inr k

  -- a box is clear of all that join behind it
  clear_of : (us vs : List ℕ) → AreAside instance es i us vs → (u : ℕ) → IsIn u us
      → AllByRecursion (λ v. AreClear start len u v) vs
  clear_of us [] h u k = tt
  clear_of us (v ∷ vs) h u k = (
    clear u v (each_in (λ w. AreBeside instance es i w v) us h.0 u k),
    clear_of (us ++ v ∷ []) vs h.1 u (in_append u us (v ∷ []) (inl k)),
  )

  spread : (us vs : List ℕ) → AreAside instance es i us vs → AreSpread start len vs
  spread us [] h = tt
  spread us (v ∷ vs) h = (
    clear_of (us ++ v ∷ []) vs h.1 v (in_append v us (v ∷ []) (inr (inl refl))),
    spread (us ++ v ∷ []) vs h.1,
  )

  all_inside : 1 ≤ i → i ≤ dims instance → (vs : List ℕ) → AllByRecursion (λ v. IsBoxNo instance v) vs
      → AllByRecursion (λ v. start v + len v ≤ container_side instance (pred i)) vs
  all_inside from to [] h = tt
  all_inside from to (v ∷ vs) h = (
    (let there = h.0 in
        (working instance places packing).inside (pred v) (pred i) (omega (arith, there)) (omega (arith, from, to))),
    all_inside from to vs h.1,
  )

  pub family_fits : (vs : List ℕ) → IsFamily instance es i vs
      → family_length instance i vs ≤ container_side instance (pred i)
  family_fits vs f =
      spread_fits start len (container_side instance (pred i)) vs (all_inside f.dim_from f.dim_to vs f.boxes)
      (spread [] vs f.aside)
