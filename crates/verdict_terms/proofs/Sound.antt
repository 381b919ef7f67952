-- No packing respects exclusions under which an instance is explained not to fit.
use Rattle.std.proofs.Common.{◌≡◌, ℕ, pred, ◌≤◌, ◌⊎◌, inl, inr, sym, subst, arith, true, List, []}
use Rattle.std.proofs.lemmas.Bool.{true≢false}
use Rattle.packing_terms.specs.declared.Rel.{Rel}
use Rattle.packing_terms.specs.declared.Rel.TheVariants.{Overlap, Before, After}
use Rattle.packing_terms.specs.declared.Exclusion.{Exclusion}
use Rattle.packing_terms.specs.Packing.{PlainInstance, IsPacking, HasPositiveSides, Fits, side}
use Rattle.packing_terms.specs.Relations.{Holds, mirror}
use Rattle.packing_terms.specs.Exclusions.{Respects, excludes, is_of}
use Rattle.packing_terms.specs.ExcessLaw.{ExcessLaw}
use Rattle.packing_terms.specs.Refutation.{exclusion_in_text}
use Rattle.packing_terms.proofs.Sets.{of_own, mirror_twice}
use Rattle.packing_terms.proofs.Derivations.{holds_mirrored}
use Rattle.packing_terms.proofs.Intervals.{some_relation}
use Rattle.packing_terms.proofs.Working.{working, side_least}
use Rattle.packing_terms.specs.Steps.{with_exclusion}
use Rattle.packing_terms.proofs.Applied.{with_cases}
use Rattle.packing_terms.proofs.AppliedSound.{applied_sound}
use Rattle.verdict_terms.specs.Steps.{PlainStep}
use Rattle.verdict_terms.specs.Explaining.{Explains, by_clash, by_side, by_scales, by_step, by_apart, by_order}
use Rattle.verdict_terms.specs.Explaining.{MayOrder, with_text, after_rule}
use Rattle.verdict_terms.specs.ExplainedJudging.{is_change}
use Rattle.verdict_terms.proofs.Leaves.{applied}

-- one more exclusion is respected where its relation doesn't hold
respects_with : (instance : PlainInstance) (places : List ℕ) (es : List Exclusion) (e : Exclusion)
    → ¬ Holds instance places e.dim e.u e.v e.rel
    → Respects instance places (excludes es) → Respects instance places (excludes (with_exclusion es e))
respects_with instance places es e none respects i u v r h = go (with_cases es e i u v r h)
  where
    mirrored : (j a b : ℕ) (s : Rel) → ¬ Holds instance places j a b s → ¬ Holds instance places j b a (mirror s)
    mirrored j a b s not_so k =
        let back = holds_mirrored instance places j b a (mirror s) k in
        not_so (subst (λ (x : Rel). Holds instance places j a b x) (mirror_twice s) back)

    go : (excludes es i u v r ≡ true) ⊎ (is_of e i u v r ≡ true) → ¬ Holds instance places i u v r
    go (inl k) = respects i u v r k
    go (inr k) = of_own (λ j a b s. ¬ Holds instance places j a b s) mirrored e i u v r k none

either : {A B : Type 0} → A ⊎ B → ¬ A → ¬ B → ⊥
either (inl x) f g = f x
either (inr x) f g = g x

module _ (instance : PlainInstance) (places : List ℕ) where
  apart_covers : (es : List Exclusion) (i u v : ℕ) → Respects instance places (excludes es)
      → Respects instance places (excludes (with_text es i u v Overlap))
      ⊎ Respects instance places (excludes (with_text (with_text es i u v After) i u v Before))
  apart_covers es i u v respects = go (some_relation _ _ _ _)
    where
      go : (r : Rel) × Holds instance places (pred i) (pred u) (pred v) r
          → Respects instance places (excludes (with_text es i u v Overlap))
          ⊎ Respects instance places (excludes (with_text (with_text es i u v After) i u v Before))
      go (Overlap, k) =
          inr (respects_with instance places (with_text es i u v After) (exclusion_in_text i u v Before)
          (λ l. omega (arith, k, l))
          (respects_with instance places es (exclusion_in_text i u v After) (λ l. omega (arith, k, l)) respects))
      go (Before, k) = inl (respects_with instance places es (exclusion_in_text i u v Overlap)
          (λ l. omega (arith, k, l)) respects)
      go (After, k) = inl (respects_with instance places es (exclusion_in_text i u v Overlap)
          (λ l. omega (arith, k, l)) respects)

  order_covers : HasPositiveSides instance → (es : List Exclusion) (i u v : ℕ) → MayOrder instance es i u v
      → Respects instance places (excludes es)
      → Respects instance places (excludes (with_text es i u v After))
      ⊎ Respects instance places (excludes (with_text es i u v Before))
  order_covers sides es i u v h respects = go (some_relation _ _ _ _)
    where
      long : 1 ≤ side instance (pred u) (pred i)
      long = side_least instance sides (pred u) (pred i) (omega (arith, h.named)) (omega (arith, h.named))

      go : (r : Rel) × Holds instance places (pred i) (pred u) (pred v) r
          → Respects instance places (excludes (with_text es i u v After))
          ⊎ Respects instance places (excludes (with_text es i u v Before))
      go (Overlap, k) = absurd (respects (pred i) (pred u) (pred v) Overlap h.overlap k)
      go (Before, k) = inl (respects_with instance places es (exclusion_in_text i u v After)
          (λ l. omega (arith, long, k, l)) respects)
      go (After, k) = inr (respects_with instance places es (exclusion_in_text i u v Before)
          (λ l. omega (arith, long, k, l)) respects)

module _ (law : ExcessLaw) (instance : PlainInstance) (sides : HasPositiveSides instance) (places : List ℕ)
    (packing : IsPacking instance places) where
  pub explains_sound : {es : List Exclusion} {z : List PlainStep} → Explains instance es z
      → ¬ Respects instance places (excludes es)
  explains_sound (by_clash {es = es} {i = i} {u = u} {v = v} c) respects = go (some_relation _ _ _ _)
    where
      go : (r : Rel) × Holds instance places (pred i) (pred u) (pred v) r → ⊥
      go (r, h) = respects (pred i) (pred u) (pred v) r (c.each r) h
  explains_sound (by_side {v = v} {i = i} h) respects =
      let inside = (working instance places packing).inside (pred v) (pred i) (omega arith) (omega arith) in
      omega arith
  explains_sound (by_scales h) respects = law.one instance _ h (places, packing)
  explains_sound (by_step {es = es} {rule = rule} s _ rest) respects =
      explains_sound rest (applied_sound instance places rule es (after_rule es rule) (is_change es rule) sides packing
      (applied instance es rule s.is s.premises) respects)
  explains_sound (by_apart {es = es} {i = i} {u = u} {v = v} h _ left right) respects =
      either (apart_covers instance places es i u v respects) (explains_sound left) (explains_sound right)
  explains_sound (by_order {es = es} {i = i} {u = u} {v = v} h _ left right) respects =
      either (order_covers instance places sides es i u v h respects) (explains_sound left) (explains_sound right)

pub none_fits : ExcessLaw → (instance : PlainInstance) → HasPositiveSides instance → (z : List PlainStep)
    → Explains instance [] z → ¬ Fits instance
none_fits law instance sides z h (places, packing) =
    explains_sound law instance sides places packing h (λ i u v r k. absurd (true≢false (sym k)))
