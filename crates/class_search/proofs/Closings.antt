-- Exclusions one after another, and the set of a closed state.
use Rattle.std.proofs.Common.{◌≡◌, ℕ, ◌⊎◌, inl, inr, refl, ap, ◌∙◌, true, ◌||◌, List, [], ◌∷◌, ◌++◌}
use Rattle.std.proofs.lemmas.Bool.{or_cases}
use Rattle.packing_terms.specs.declared.Rel.{Rel}
use Rattle.packing_terms.specs.declared.Exclusion.{Exclusion}
use Rattle.packing_terms.specs.Packing.{PlainInstance}
use Rattle.packing_terms.specs.Exclusions.{Exclusions, is_of, excludes}
use Rattle.packing_terms.proofs.Sets.{or_true, of_own, excludes_symmetric}
use Rattle.packing_terms.specs.Rounds.{closure}
use Rattle.packing_terms.specs.Steps.{with_exclusion}
use Rattle.packing_terms.proofs.Applied.{with_cases, with_keeps, with_own}
use Rattle.packing_terms.proofs.RoundsLemmas.{closure_is}
use Rattle.rule_closure.specs.Closes.{IsClosure}
use Rattle.tree_terms.proofs.NodeSteps.{same_sets}
use Rattle.class_search.specs.Splits.{with_all}

with_set : (es : List Exclusion) (e : Exclusion) → excludes (with_exclusion es e) ≡ excludes (e ∷ es)
with_set es e = same_sets (with_exclusion es e) (e ∷ es) (λ i u v r h. there i u v r (with_cases es e i u v r h))
    (λ i u v r h. back i u v r (or_cases _ _ h))
  where
    there : (i u v : ℕ) (r : Rel) → (excludes es i u v r ≡ true) ⊎ (is_of e i u v r ≡ true)
        → excludes (e ∷ es) i u v r ≡ true
    there i u v r (inl k) = or_true _ _ (inr k)
    there i u v r (inr k) = or_true _ _ (inl k)

    back : (i u v : ℕ) (r : Rel) → (is_of e i u v r ≡ true) ⊎ (excludes es i u v r ≡ true)
        → excludes (with_exclusion es e) i u v r ≡ true
    back i u v r (inl k) = of_own (λ j a b s. excludes (with_exclusion es e) j a b s ≡ true)
        (excludes_symmetric (with_exclusion es e)) e i u v r k (with_own es e)
    back i u v r (inr k) = with_keeps es e i u v r k

-- exclusions one after another are those of both lists
pub with_sets : (add es : List Exclusion) → excludes (with_all add es) ≡ excludes (add ++ es)
with_sets [] es = refl
with_sets (e ∷ add) es = with_set (with_all add es) e
    ∙ ap {B = Exclusions} (λ (X : Exclusions) (i u v : ℕ) (r : Rel). is_of e i u v r || X i u v r) (with_sets add es)

-- a state that was closed without conflict has the set of the closure
pub closed_set : (instance : PlainInstance) (es fs : List Exclusion) → IsClosure instance es fs
    → excludes (closure instance es) ≡ excludes fs
closed_set instance es fs closed =
    same_sets (closure instance es) fs (λ i u v r h. (closed.exact i u v r).1 ((closure_is instance es i u v r).0 h))
    (λ i u v r h. (closure_is instance es i u v r).1 ((closed.exact i u v r).0 h))
