-- Boxes join a family one after another exactly where every two of them are beside each other.
use Rattle.std.proofs.Common.{ℕ, zero, suc, ◌<◌, ◌⊎◌, inl, inr, refl, sym, subst, arith, List, [], ◌∷◌, ◌++◌, length}
use Rattle.std.proofs.Common.{slice_index}
use Rattle.packing_terms.specs.declared.Exclusion.{Exclusion}
use Rattle.packing_terms.specs.Packing.{PlainInstance}
use Rattle.packing_terms.proofs.Members.{IsIn, in_append, append_in}
use Rattle.packing_terms.proofs.Boxes.{each_in, each_from}
use Rattle.verdict_terms.specs.Families.{AreBeside, AreAside}

module _ (instance : PlainInstance) (es : List Exclusion) (i : ℕ) where
  -- every box of a list is beside each that joins behind it
  abbrev AreBehind : List ℕ → List ℕ → Type 0
  AreBehind us vs = (u k : ℕ) → IsIn u us → k < length vs → AreBeside instance es i u (slice_index vs k)

  abbrev AreBesideAll : List ℕ → Type 0
  AreBesideAll vs = (j k : ℕ) → j < k → k < length vs
      → AreBeside instance es i (slice_index vs j) (slice_index vs k)

  behind : (us vs : List ℕ) → AreAside instance es i us vs → AreBehind us vs
  behind us [] h u k m l = absurd (omega (arith, l))
  behind us (v ∷ vs) h u zero m l = each_in (λ w. AreBeside instance es i w v) us h.0 u m
  behind us (v ∷ vs) h u (suc k) m l =
      behind (us ++ v ∷ []) vs h.1 u k (in_append u us (v ∷ []) (inl m)) (omega (arith, l))

  all_beside : (us vs : List ℕ) → AreAside instance es i us vs → AreBesideAll vs
  all_beside us [] h j k l m = absurd (omega (arith, m))
  all_beside us (v ∷ vs) h j zero l m = absurd (omega (arith, l))
  all_beside us (v ∷ vs) h zero (suc k) l m =
      behind (us ++ v ∷ []) vs h.1 v k (in_append v us (v ∷ []) (inr (inl refl))) (omega (arith, m))
  all_beside us (v ∷ vs) h (suc j) (suc k) l m =
      all_beside (us ++ v ∷ []) vs h.1 j k (omega (arith, l)) (omega (arith, m))

  all_aside : (us vs : List ℕ) → AreBehind us vs → AreBesideAll vs → AreAside instance es i us vs
  all_aside us [] first both = tt
  all_aside us (v ∷ vs) first both = (
    each_from (λ u. AreBeside instance es i u v) us (λ u m. first u zero m (omega arith)),
    all_aside (us ++ v ∷ []) vs later (λ j k l m. both (suc j) (suc k) (omega (arith, l)) (omega (arith, m))),
  )
    where
      by_part : (u k : ℕ) → IsIn u us ⊎ IsIn u (v ∷ []) → k < length vs → AreBeside instance es i u (slice_index vs k)
      by_part u k (inl m) l = first u (suc k) m (omega (arith, l))
      by_part u k (inr (inl e)) l =
          subst (λ w. AreBeside instance es i w (slice_index vs k)) (sym e)
          (both zero (suc k) (omega arith) (omega (arith, l)))
      by_part u k (inr (inr m)) l = absurd m

      later : AreBehind (us ++ v ∷ []) vs
      later u k m l = by_part u k (append_in u us (v ∷ []) m) l

  pub aside_pairs : (vs : List ℕ) → AreAside instance es i [] vs → AreBesideAll vs
  aside_pairs vs h = all_beside [] vs h

  pub pairs_aside : (vs : List ℕ) → AreBesideAll vs → AreAside instance es i [] vs
  pairs_aside vs h = all_aside [] vs (λ u k m l. absurd m) h
