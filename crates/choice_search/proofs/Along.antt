-- The boxes that are in along a path, step by step.
use Rattle.std.proofs.Common.{◌≡◌, ◌≢◌, ℕ, zero, suc, ◌+◌, ◌<◌, refl, sym, ap, ap₂, ◌∙◌, List, ◌∷◌, length, drop}
use Rattle.std.proofs.Common.{get_or}
use Rattle.packing_terms.specs.OuterRefutation.{insert_box}
use Rattle.choice_search.specs.Paths.{taken_along}
use Rattle.set_search.proofs.Reaching.{next_box}

module _ (taken order path whole : List ℕ) (k : ℕ) (l : k < length path) (m : k < length order)
    (h : whole ≡ taken_along taken (drop k order) (drop k path)) where
  steps : whole ≡ taken_along taken (get_or order k 0 ∷ drop (k + 1) order) (get_or path k 0 ∷ drop (k + 1) path)
  steps = h ∙ ap₂ (λ us ks. taken_along taken us ks) (next_box order k m) (next_box path k l)

  -- a step into a first child, and into a second one
  pub step_in : get_or path k 0 ≡ 0 → (more : List ℕ) → more ≡ insert_box (get_or order k 0) taken
      → whole ≡ taken_along more (drop (k + 1) order) (drop (k + 1) path)
  step_in e more f =
      steps ∙ (ap (λ j. taken_along taken (get_or order k 0 ∷ drop (k + 1) order) (j ∷ drop (k + 1) path)) e
      ∙ ap (λ us. taken_along us (drop (k + 1) order) (drop (k + 1) path)) (sym f))

  pub step_out : get_or path k 0 ≢ 0 → (same : List ℕ) → same ≡ taken
      → whole ≡ taken_along same (drop (k + 1) order) (drop (k + 1) path)
  step_out e same f = (steps ∙ go (get_or path k 0) e)
      ∙ ap (λ us. taken_along us (drop (k + 1) order) (drop (k + 1) path)) (sym f)
    where
      go : (j : ℕ) → j ≢ 0 → taken_along taken (get_or order k 0 ∷ drop (k + 1) order) (j ∷ drop (k + 1) path)
          ≡ taken_along taken (drop (k + 1) order) (drop (k + 1) path)
      go zero n = absurd (n refl)
      go (suc j) n = refl
