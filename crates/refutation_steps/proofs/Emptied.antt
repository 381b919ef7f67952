-- Whether a mask is empty.
use Rattle.std.proofs.Common.{◌≡◌, ◌<◌, ◌+◌, ◌≤◌, ℕ, ◌⊎◌, inl, inr, refl, sym, ◌∙◌, subst, arith, Bool, true, false}
use Rattle.std.proofs.Common.{not, List}
use Rattle.std.proofs.lemmas.Bool.{true≢false, cases_lt}
use Rattle.packing_terms.specs.declared.Rel.TheVariants.{Overlap, Before, After}
use Rattle.packing_terms.specs.declared.Exclusion.{Exclusion}
use Rattle.packing_terms.specs.Packing.{PlainInstance, dims, box_count}
use Rattle.packing_terms.specs.Relations.{mirror}
use Rattle.packing_terms.specs.Exclusions.{Exclusions, excludes}
use Rattle.packing_terms.specs.Places.{HasNoEmptyMask}
use Rattle.packing_terms.proofs.Steps.{open_mirrored}
use Rattle.refutation_steps.specs.Empties.{IsLeft, IsEmptyAt}

pub left_there : (has m x : Bool) → has ≡ m → m ≡ not x → has ≡ true → x ≡ false
left_there has m false e f h = refl
left_there has m true e f h = absurd (true≢false (sym h ∙ (e ∙ f)))

pub gone_there : (has m x : Bool) → has ≡ m → m ≡ not x → has ≡ false → x ≡ true
gone_there has m true e f h = refl
gone_there has m false e f h = absurd (true≢false (sym (e ∙ f) ∙ h))

pub emptied : (X : Exclusions) (i u v : ℕ) (h1 m1 h2 m2 h3 m3 : Bool) → h1 ≡ m1 → m1 ≡ not (X i u v Overlap)
    → h1 ≡ false → h2 ≡ m2 → m2 ≡ not (X i u v Before) → h2 ≡ false
    → h3 ≡ m3 → m3 ≡ not (X i u v After) → h3 ≡ false → IsEmptyAt X i u v
emptied X i u v h1 m1 h2 m2 h3 m3 a b c d e f g h k Overlap = gone_there h1 m1 (X i u v Overlap) a b c
emptied X i u v h1 m1 h2 m2 h3 m3 a b c d e f g h k Before = gone_there h2 m2 (X i u v Before) d e f
emptied X i u v h1 m1 h2 m2 h3 m3 a b c d e f g h k After = gone_there h3 m3 (X i u v After) g h k

-- what holds below a number, and of it, holds below the next
pub below_next : (P : ℕ → Type 0) (n : ℕ) → ((k : ℕ) → k < n → P k) → P n → (k : ℕ) → k < n + 1 → P k
below_next P n h p k l = go (cases_lt k n)
  where
    go : (k < n) ⊎ (n ≤ k) → P k
    go (inl m) = h k m
    go (inr m) = let e : k ≡ n = omega (arith, l, m) in subst (λ (j : ℕ). P j) (sym e) p

-- no mask is empty, where none is that is read from its lower box
pub none_empty : (instance : PlainInstance) (es : List Exclusion)
    → ((i : ℕ) → i < dims instance → (v : ℕ) → v < box_count instance → (u : ℕ) → u < v → IsLeft (excludes es) i u v)
    → HasNoEmptyMask instance (excludes es)
none_empty instance es h i u v edge = go (cases_lt u v)
  where
    turned : IsLeft (excludes es) i v u → IsLeft (excludes es) i u v
    turned l = (mirror l.0, open_mirrored es i v u l.0 l.1)

    go : (u < v) ⊎ (v ≤ u) → IsLeft (excludes es) i u v
    go (inl l) = h i edge.dim v edge.second u l
    go (inr l) = let ne = edge.distinct in turned (h i edge.dim u edge.first v (omega (arith, l, ne)))
