-- What a rule leaves at its edge is what it doesn't conclude, and adding its conclusion applies it.
use Rattle.std.proofs.Common.{◌≡◌, ◌≢◌, ℕ, ◌⊎◌, inl, inr, refl, sym, ap, subst, ◌∙◌, Bool, true, false, not, cond}
use Rattle.std.proofs.Common.{◌&&◌, ◌||◌, List}
use Rattle.std.specs.List.{list_any}
use Rattle.std.proofs.lemmas.Bool.{true≢false, cases_Bool, and_parts, and_from, or_cases, not-true, not_from_false}
use Rattle.packing_terms.specs.declared.Rel.{Rel}
use Rattle.packing_terms.specs.declared.Rel.TheVariants.{Overlap, Before, After}
use Rattle.packing_terms.specs.declared.Exclusion.{Exclusion}
use Rattle.packing_terms.specs.Packing.{PlainInstance}
use Rattle.packing_terms.specs.Relations.{allows}
use Rattle.packing_terms.specs.Exclusions.{Exclusions, excludes, exclusion_at, is_same_rel}
use Rattle.packing_terms.specs.Rules.{Rule, Pair, Apart, Triple, Chain, Compose, Cycle, Order, IsRuleInstance, Premises}
use Rattle.packing_terms.specs.Rules.{Concludes, dim_of, first_of, second_of}
use Rattle.packing_terms.specs.Closure.{IsSubset}
use Rattle.packing_terms.proofs.Sets.{same_rel, is_same_rel_refl}
use Rattle.packing_terms.proofs.Members.{IsIn, any_at, any_from}
use Rattle.packing_terms.proofs.Monotone.{open_less}
use Rattle.packing_terms.specs.Rounds.{rels}
use Rattle.packing_terms.specs.Steps.{with_exclusion}
use Rattle.packing_terms.specs.Applied.{IsApplied, added, narrowed_by, narrows, narrowed, is_narrowed}
use Rattle.packing_terms.proofs.Applied.{applied_by, with_keeps}
use Rattle.verdict_terms.specs.Explaining.{leaves, after_rule, IsStep}
use Rattle.verdict_terms.specs.ExplainedJudging.{is_change}

is_other : (q r : Rel) → is_same_rel q r ≡ false → r ≢ q
is_other q r h e = true≢false (sym (subst (λ x. is_same_rel q x ≡ true) (sym e) (is_same_rel_refl q)) ∙ h)

other_is : (q r : Rel) → r ≢ q → is_same_rel q r ≡ false
other_is q r ne = go (cases_Bool (is_same_rel q r))
  where
    go : (is_same_rel q r ≡ true) ⊎ (is_same_rel q r ≡ false) → is_same_rel q r ≡ false
    go (inl e) = absurd (ne (sym (same_rel q r e)))
    go (inr e) = e

is_that : (q r : Rel) → not (is_same_rel q r) ≡ false → r ≡ q
is_that q r h = go (is_same_rel q r) refl h
  where
    go : (b : Bool) → is_same_rel q r ≡ b → not b ≡ false → r ≡ q
    go true e k = sym (same_rel q r e)
    go false e k = absurd (true≢false k)

that_is : (q r : Rel) → r ≡ q → not (is_same_rel q r) ≡ false
that_is q r e = ap not (subst (λ x. is_same_rel q x ≡ true) (sym e) (is_same_rel_refl q))

pub rel_in : (r : Rel) → IsIn r rels
rel_in Overlap = inl refl
rel_in Before = inr (inl refl)
rel_in After = inr (inr (inl refl))

module _ (X : Exclusions) (i u v x : ℕ) (r : Rel) where
  abbrev through : Rel → Rel → Bool
  through q s = not (X i u v q) && not (X i v x s) && allows q s r

  composed : list_any (λ q. list_any (λ s. through q s) rels) rels ≡ false → (q s : Rel) → X i u v q ≡ false
      → X i v x s ≡ false → allows q s r ≡ false
  composed h q s a b = go (cases_Bool (allows q s r))
    where
      hit : allows q s r ≡ true → list_any (λ q. list_any (λ s. through q s) rels) rels ≡ true
      hit e = any_at (λ q. list_any (λ s. through q s) rels) q rels (rel_in q)
          (any_at (λ s. through q s) s rels (rel_in s)
          (and_from _ _ (and_from _ _ (not_from_false _ a) (not_from_false _ b)) e))

      go : (allows q s r ≡ true) ⊎ (allows q s r ≡ false) → allows q s r ≡ false
      go (inl e) = absurd (true≢false (sym (hit e) ∙ h))
      go (inr e) = e

  composes : ((q s : Rel) → X i u v q ≡ false → X i v x s ≡ false → allows q s r ≡ false)
      → list_any (λ q. list_any (λ s. through q s) rels) rels ≡ false
  composes h = go (cases_Bool (list_any (λ q. list_any (λ s. through q s) rels) rels))
    where
      found : (q s : Rel) → through q s ≡ true → ⊥
      found q s e =
          let a = and_parts _ _ e in
          let b = and_parts _ _ a.0 in
          true≢false (sym a.1 ∙ h q s (not-true _ b.0) (not-true _ b.1))

      go : (list_any (λ q. list_any (λ s. through q s) rels) rels ≡ true)
          ⊎ (list_any (λ q. list_any (λ s. through q s) rels) rels ≡ false)
          → list_any (λ q. list_any (λ s. through q s) rels) rels ≡ false
      go (inl e) =
          let a = any_from (λ q. list_any (λ s. through q s) rels) rels e in
          let b = any_from (λ s. through a.item s) rels a.passes in
          absurd (found a.item b.item b.passes)
      go (inr e) = e

pub concluded : (X : Exclusions) (rule : Rule) (r : Rel) → leaves X rule r ≡ false → Concludes X rule r
concluded X (Pair i u v) r h = is_other Overlap r h
concluded X (Apart i u v) r h = is_that Overlap r h
concluded X (Triple i u v x) r h = is_other Overlap r h
concluded X (Chain i before u v after) r h = is_that Before r h
concluded X (Compose i u v x) r h = composed X i u v x r h
concluded X (Cycle i a b c d) r h = is_other Overlap r h
concluded X (Order i a b c d) r h = is_other Before r h

pub not_left : (X : Exclusions) (rule : Rule) (r : Rel) → Concludes X rule r → leaves X rule r ≡ false
not_left X (Pair i u v) r h = other_is Overlap r h
not_left X (Apart i u v) r h = that_is Overlap r h
not_left X (Triple i u v x) r h = other_is Overlap r h
not_left X (Chain i before u v after) r h = that_is Before r h
not_left X (Compose i u v x) r h = composes X i u v x r h
not_left X (Cycle i a b c d) r h = other_is Overlap r h
not_left X (Order i a b c d) r h = other_is Before r h

pub applied : (instance : PlainInstance) (es : List Exclusion) (rule : Rule) → IsRuleInstance instance rule
    → Premises instance (excludes es) rule
    → IsApplied instance rule es (after_rule es rule) (is_change es rule)
applied instance es rule is premises =
    applied_by instance rule es (leaves (excludes es) rule) is premises (concluded (excludes es) rule)
    (not_left (excludes es) rule)

-- a relation that isn't left and wasn't excluded
pub record IsFresh (es : List Exclusion) (rule : Rule) : Type 0 where
  pub rel : Rel
  pub dropped : leaves (excludes es) rule rel ≡ false
  pub open_before : excludes es (dim_of rule) (first_of rule) (second_of rule) rel ≡ false

module _ (es : List Exclusion) (i u v : ℕ) (keep : Rel → Bool) where
  narrowed_keeps : (fs : List Exclusion) (r : Rel) → IsSubset (excludes fs) (excludes (narrowed_by fs i u v keep r))
  narrowed_keeps fs r = go (keep r)
    where
      go : (b : Bool) → IsSubset (excludes fs) (excludes (cond b fs (with_exclusion fs (exclusion_at i u v r))))
      go true j a c s h = h
      go false j a c s h = with_keeps fs (exclusion_at i u v r) j a c s h

  one_fresh : (fs : List Exclusion) → IsSubset (excludes es) (excludes fs) → (r : Rel) → narrows fs i u v keep r ≡ true
      → (keep r ≡ false) × (excludes es i u v r ≡ false)
  one_fresh fs more r h =
      let a = and_parts _ _ h in
      (not-true _ a.0, open_less (excludes es) (excludes fs) more i u v r (not-true _ a.1))

  abbrev one : List Exclusion
  one = narrowed_by es i u v keep Overlap

  pub fresh_one : is_narrowed es i u v keep ≡ true → (r : Rel) × (keep r ≡ false) × (excludes es i u v r ≡ false)
  fresh_one h = go (or_cases _ _ h)
    where
      first : (narrows es i u v keep Overlap ≡ true) ⊎ (narrows one i u v keep Before ≡ true)
          → (r : Rel) × (keep r ≡ false) × (excludes es i u v r ≡ false)
      first (inl k) = let a = one_fresh es (λ j a b s l. l) Overlap k in (Overlap, a.0, a.1)
      first (inr k) = let a = one_fresh one (narrowed_keeps es Overlap) Before k in (Before, a.0, a.1)

      go : ((narrows es i u v keep Overlap || narrows one i u v keep Before) ≡ true)
          ⊎ (narrows (narrowed_by one i u v keep Before) i u v keep After ≡ true)
          → (r : Rel) × (keep r ≡ false) × (excludes es i u v r ≡ false)
      go (inl k) = first (or_cases _ _ k)
      go (inr k) =
          let a = one_fresh (narrowed_by one i u v keep Before)
          (λ j a b s l. narrowed_keeps one Before j a b s (narrowed_keeps es Overlap j a b s l)) After k in
          (After, a.0, a.1)

pub narrowed_more : (es : List Exclusion) (i u v : ℕ) (keep : Rel → Bool)
    → IsSubset (excludes es) (excludes (narrowed es i u v keep))
narrowed_more es i u v keep j a b s h =
    let one = narrowed_by es i u v keep Overlap in
    narrowed_keeps es i u v keep (narrowed_by one i u v keep Before) After j a b s
    (narrowed_keeps es i u v keep one Before j a b s (narrowed_keeps es i u v keep es Overlap j a b s h))

-- a rule that applies and changes a mask is a step, and the other way round
pub step_by : (instance : PlainInstance) (es : List Exclusion) (rule : Rule) → IsRuleInstance instance rule
    → Premises instance (excludes es) rule
    → is_change es rule ≡ true → IsStep instance es rule
step_by instance es rule is premises h =
    let f = fresh_one es (dim_of rule) (first_of rule) (second_of rule) (leaves (excludes es) rule) h in
    record { is = is; premises = premises; rel = f.0; concluded = concluded (excludes es) rule f.0 f.1; fresh = f.2 }

pub step_changes : (instance : PlainInstance) (es : List Exclusion) (rule : Rule) → IsStep instance es rule
    → is_change es rule ≡ true
step_changes instance es rule s = go (cases_Bool (is_change es rule))
  where
    a : IsApplied instance rule es (after_rule es rule) (is_change es rule)
    a = applied instance es rule s.is s.premises

    there : excludes (after_rule es rule) (dim_of rule) (first_of rule) (second_of rule) s.rel ≡ true
    there = (a.exact (dim_of rule) (first_of rule) (second_of rule) s.rel).1
        (inr (added s.rel s.is s.premises s.concluded))

    go : (is_change es rule ≡ true) ⊎ (is_change es rule ≡ false) → is_change es rule ≡ true
    go (inl e) = e
    go (inr e) =
        let same : after_rule es rule ≡ es = a.step.same e in
        absurd (true≢false (sym (subst (λ l. excludes l (dim_of rule) (first_of rule) (second_of rule) s.rel ≡ true)
        same there) ∙ s.fresh))
