-- A rule is applied by keeping only some relations at its pair.
use Rattle.std.proofs.Common.{◌≡◌, ℕ, ◌<◌, ◌⊎◌, inl, inr, refl, sym, ap, subst, ◌∙◌, arith, Bool, true, false, not}
use Rattle.std.proofs.Common.{cond, ◌&&◌, ◌||◌, List, [], ◌∷◌, ◌++◌, append_assoc, IsTrue}
use Rattle.std.proofs.lemmas.Bool.{true≢false, or_cases}
use Rattle.packing_terms.specs.declared.Rel.{Rel}
use Rattle.packing_terms.specs.declared.Rel.TheVariants.{Overlap, Before, After}
use Rattle.packing_terms.specs.declared.Exclusion.{Exclusion}
use Rattle.packing_terms.specs.Packing.{PlainInstance, dims, box_count}
use Rattle.packing_terms.specs.Relations.{mirror}
use Rattle.packing_terms.specs.Exclusions.{Exclusions, excludes, is_of, IsEdge}
use Rattle.packing_terms.specs.Rules.{Rule, IsRuleInstance, Premises, Concludes, Follows, by_rule, dim_of, first_of}
use Rattle.packing_terms.specs.Rules.{second_of}
use Rattle.packing_terms.specs.Closure.{IsSubset}
use Rattle.packing_terms.specs.Steps.{open_count, with_exclusion}
use Rattle.packing_terms.specs.Applied.{Adds, added, mirror_added, Extends, IsRuleStep, IsApplied, narrowed_by, narrows}
use Rattle.packing_terms.specs.Applied.{narrowed, is_narrowed}
use Rattle.packing_terms.proofs.Sets.{or_true, of_own, excludes_symmetric, mirror_twice}
use Rattle.packing_terms.proofs.RoundsLemmas.{rule_edge, excludes_own}
use Rattle.packing_terms.proofs.Monotone.{premises_more, concludes_more}
use Rattle.packing_terms.proofs.Steps.{fewer_open}

pub extends_refl : (instance : PlainInstance) (es : List Exclusion) → Extends instance es es
extends_refl instance es = record {
  more = [];
  grown = refl;
  derived = λ E d. d;
  kept = λ i u v r h. h;
  fewer = omega arith;
}

pub extends_trans : (instance : PlainInstance) (a b c : List Exclusion) → Extends instance a b → Extends instance b c
    → Extends instance a c
extends_trans instance a b c h k = record {
  more = k.more ++ h.more;
  grown = k.grown ∙ (ap (λ (es : List Exclusion). k.more ++ es) h.grown ∙ sym (append_assoc k.more h.more a));
  derived = λ E d. k.derived E (h.derived E d);
  kept = λ i u v r x. k.kept i u v r (h.kept i u v r x);
  fewer = omega (arith, h.fewer, k.fewer);
}

pub step_none : (instance : PlainInstance) (es : List Exclusion) → IsRuleStep instance es es false
step_none instance es = record {
  extends = extends_refl instance es;
  shrinks = λ e. absurd (true≢false (sym e));
  same = λ e. refl;
}

pub step_trans : (instance : PlainInstance) (a b c : List Exclusion) (x y : Bool) → IsRuleStep instance a b x
    → IsRuleStep instance b c y → IsRuleStep instance a c (x || y)
step_trans instance a b c x y h k = record {
  extends = extends_trans instance a b c h.extends k.extends;
  shrinks = λ e. fall (or_cases x y e);
  same = λ e. stay x y e h.same k.same;
}
  where
    fall : (x ≡ true) ⊎ (y ≡ true)
        → open_count (dims instance) (box_count instance) c < open_count (dims instance) (box_count instance) a
    fall (inl e) = omega (arith, h.shrinks e, k.extends.fewer)
    fall (inr e) = omega (arith, k.shrinks e, h.extends.fewer)

    stay : (x y : Bool) → (x || y) ≡ false → (x ≡ false → b ≡ a) → (y ≡ false → c ≡ b) → c ≡ a
    stay false false e f g = g refl ∙ f refl
    stay true y e f g = absurd (true≢false e)
    stay false true e f g = absurd (true≢false e)

-- an exclusion that follows is a step
pub step_follows : (instance : PlainInstance) (es : List Exclusion) (e : Exclusion) → IsEdge instance e.dim e.u e.v
    → Follows instance (excludes es) e.dim e.u e.v e.rel
    → IsRuleStep instance es (with_exclusion es e) (not (excludes es e.dim e.u e.v e.rel))
step_follows instance es e edge follows = go (excludes es e.dim e.u e.v e.rel) refl
  where
    go : (x : Bool) → excludes es e.dim e.u e.v e.rel ≡ x → IsRuleStep instance es (cond x es (e ∷ es)) (not x)
    go true k = step_none instance es
    go false k = record {
      extends = record {
        more = e ∷ [];
        grown = refl;
        derived = λ E d. (inr follows, d);
        kept = λ i u v r h. or_true _ _ (inr h);
        fewer = let l = fewer_open _ _ es e edge k in omega arith;
      };
      shrinks = λ t. fewer_open _ _ es e edge k;
      same = λ f. absurd (true≢false f);
    }

-- what is excluded after one exclusion more
pub with_cases : (es : List Exclusion) (e : Exclusion) (i u v : ℕ) (r : Rel)
    → excludes (with_exclusion es e) i u v r ≡ true → (excludes es i u v r ≡ true) ⊎ (is_of e i u v r ≡ true)
with_cases es e i u v r = go (excludes es e.dim e.u e.v e.rel)
  where
    go : (x : Bool) → excludes (cond x es (e ∷ es)) i u v r ≡ true → (excludes es i u v r ≡ true)
        ⊎ (is_of e i u v r ≡ true)
    go true h = inl h
    go false h = turn (or_cases _ _ h)
      where
        turn : (is_of e i u v r ≡ true) ⊎ (excludes es i u v r ≡ true) → (excludes es i u v r ≡ true)
            ⊎ (is_of e i u v r ≡ true)
        turn (inl k) = inr k
        turn (inr k) = inl k

pub with_keeps : (es : List Exclusion) (e : Exclusion) → IsSubset (excludes es) (excludes (with_exclusion es e))
with_keeps es e i u v r h = go (excludes es e.dim e.u e.v e.rel)
  where
    go : (x : Bool) → excludes (cond x es (e ∷ es)) i u v r ≡ true
    go true = h
    go false = or_true _ _ (inr h)

pub with_own : (es : List Exclusion) (e : Exclusion) → excludes (with_exclusion es e) e.dim e.u e.v e.rel ≡ true
with_own es e = go (excludes es e.dim e.u e.v e.rel) refl
  where
    go : (x : Bool) → excludes es e.dim e.u e.v e.rel ≡ x → excludes (cond x es (e ∷ es)) e.dim e.u e.v e.rel ≡ true
    go true k = k
    go false k = excludes_own e (e ∷ es) (inl refl)

adds_mirror : (instance : PlainInstance) (X : Exclusions) (rule : Rule) (i u v : ℕ) (r : Rel)
    → Adds instance X rule i u v r → Adds instance X rule i v u (mirror r)
adds_mirror instance X rule _ _ _ _ (added r is p c) = mirror_added r is p c
adds_mirror instance X rule _ _ _ _ (mirror_added r is p c) =
    subst (λ (x : Rel). Adds instance X rule (dim_of rule) (first_of rule) (second_of rule) x) (sym (mirror_twice r))
    (added r is p c)

module _ (instance : PlainInstance) (rule : Rule) (es : List Exclusion) (keep : Rel → Bool)
    (is : IsRuleInstance instance rule)
    (premises : Premises instance (excludes es) rule)
    (drops : (r : Rel) → keep r ≡ false → Concludes (excludes es) rule r)
    (only : (r : Rel) → Concludes (excludes es) rule r → keep r ≡ false) where
  -- from any list that holds es, one relation is a step, and what is new is added
  one_step : (fs : List Exclusion) → IsSubset (excludes es) (excludes fs) → (r : Rel)
      → IsRuleStep instance fs (narrowed_by fs (dim_of rule) (first_of rule) (second_of rule) keep r)
      (narrows fs (dim_of rule) (first_of rule) (second_of rule) keep r)
  one_step fs more r = go (keep r) refl
    where
      go : (x : Bool) → keep r ≡ x
          → IsRuleStep instance fs (cond x fs
          (with_exclusion fs (record { dim = dim_of rule; u = first_of rule; v = second_of rule; rel = r })))
          (not x && not (excludes fs (dim_of rule) (first_of rule) (second_of rule) r))
      go true k = step_none instance fs
      go false k = step_follows instance fs
          (record { dim = dim_of rule; u = first_of rule; v = second_of rule; rel = r }) (rule_edge instance rule is)
          (by_rule rule r is (premises_more instance (excludes es) (excludes fs) more rule premises)
          (concludes_more instance (excludes es) (excludes fs) more rule r (drops r k)))

  one_cases : (fs : List Exclusion) (r : Rel) (i u v : ℕ) (q : Rel)
      → excludes (narrowed_by fs (dim_of rule) (first_of rule) (second_of rule) keep r) i u v q ≡ true
      → (excludes fs i u v q ≡ true) ⊎ Adds instance (excludes es) rule i u v q
  one_cases fs r i u v q = go (keep r) refl
    where
      go : (x : Bool) → keep r ≡ x
          → excludes (cond x fs (with_exclusion fs
          (record { dim = dim_of rule; u = first_of rule; v = second_of rule; rel = r }))) i u v q ≡ true
          → (excludes fs i u v q ≡ true) ⊎ Adds instance (excludes es) rule i u v q
      go true k h = inl h
      go false k h = turn (with_cases fs
          (record { dim = dim_of rule; u = first_of rule; v = second_of rule; rel = r }) i u v q h)
        where
          turn : (excludes fs i u v q ≡ true)
              ⊎ (is_of (record { dim = dim_of rule; u = first_of rule; v = second_of rule; rel = r }) i u v q ≡ true)
              → (excludes fs i u v q ≡ true) ⊎ Adds instance (excludes es) rule i u v q
          turn (inl l) = inl l
          turn (inr l) = inr (of_own (Adds instance (excludes es) rule) (adds_mirror instance (excludes es) rule)
              (record { dim = dim_of rule; u = first_of rule; v = second_of rule; rel = r }) i u v q l
              (added r is premises (drops r k)))

  by_keeps : (fs : List Exclusion) (r : Rel)
      → IsSubset (excludes fs) (excludes (narrowed_by fs (dim_of rule) (first_of rule) (second_of rule) keep r))
  by_keeps fs r i u v q h = go (keep r)
    where
      go : (x : Bool) → excludes (cond x fs
          (with_exclusion fs (record { dim = dim_of rule; u = first_of rule; v = second_of rule; rel = r }))) i
          u v q ≡ true
      go true = h
      go false = with_keeps fs (record { dim = dim_of rule; u = first_of rule; v = second_of rule; rel = r }) i u v q h

  by_own : (fs : List Exclusion) (r : Rel) → keep r ≡ false
      → excludes (narrowed_by fs (dim_of rule) (first_of rule) (second_of rule) keep r) (dim_of rule) (first_of rule)
      (second_of rule) r ≡ true
  by_own fs r k = rw k (with_own fs (record { dim = dim_of rule; u = first_of rule; v = second_of rule; rel = r }))

  abbrev one : List Exclusion
  one = narrowed_by es (dim_of rule) (first_of rule) (second_of rule) keep Overlap

  abbrev two : List Exclusion
  two = narrowed_by one (dim_of rule) (first_of rule) (second_of rule) keep Before

  all_own : (r : Rel) → keep r ≡ false
      → excludes (narrowed es (dim_of rule) (first_of rule) (second_of rule) keep) (dim_of rule) (first_of rule)
      (second_of rule) r ≡ true
  all_own Overlap k = by_keeps two After _ _ _ Overlap (by_keeps one Before _ _ _ Overlap (by_own es Overlap k))
  all_own Before k = by_keeps two After _ _ _ Before (by_own one Before k)
  all_own After k = by_own two After k

  -- where the premises hold, keeping what the rule leaves applies it
  pub applied_by : IsApplied instance rule es (narrowed es (dim_of rule) (first_of rule) (second_of rule) keep)
      (is_narrowed es (dim_of rule) (first_of rule) (second_of rule) keep)
  applied_by = record {
    step = step_trans instance es two _ _ _
        (step_trans instance es one two _ _ (one_step es (λ i u v r h. h) Overlap)
        (one_step one (by_keeps es Overlap) Before))
        (one_step two (λ i u v r h. by_keeps one Before i u v r (by_keeps es Overlap i u v r h)) After);
    exact = λ i u v r. (only_these i u v r, these i u v r);
  }
    where
      only_these : (i u v : ℕ) (r : Rel)
          → IsTrue (excludes (narrowed es (dim_of rule) (first_of rule) (second_of rule) keep) i u v r)
          → IsTrue (excludes es i u v r) ⊎ Adds instance (excludes es) rule i u v r
      only_these i u v r h = third (one_cases two After i u v r h)
        where
          first : (excludes es i u v r ≡ true) ⊎ Adds instance (excludes es) rule i u v r → IsTrue (excludes es i u v r)
              ⊎ Adds instance (excludes es) rule i u v r
          first (inl k) = inl k
          first (inr k) = inr k

          second : (excludes one i u v r ≡ true) ⊎ Adds instance (excludes es) rule i u v r
              → IsTrue (excludes es i u v r) ⊎ Adds instance (excludes es) rule i u v r
          second (inl k) = first (one_cases es Overlap i u v r k)
          second (inr k) = inr k

          third : (excludes two i u v r ≡ true) ⊎ Adds instance (excludes es) rule i u v r
              → IsTrue (excludes es i u v r) ⊎ Adds instance (excludes es) rule i u v r
          third (inl k) = second (one_cases one Before i u v r k)
          third (inr k) = inr k

      adds : (i u v : ℕ) (r : Rel) → Adds instance (excludes es) rule i u v r
          → excludes (narrowed es (dim_of rule) (first_of rule) (second_of rule) keep) i u v r ≡ true
      adds _ _ _ _ (added r _ p c) = all_own r (only r c)
      adds _ _ _ _ (mirror_added r _ p c) =
          excludes_symmetric (narrowed es (dim_of rule) (first_of rule) (second_of rule) keep) _ _ _ r
          (all_own r (only r c))

      these : (i u v : ℕ) (r : Rel) → IsTrue (excludes es i u v r) ⊎ Adds instance (excludes es) rule i u v r
          → IsTrue (excludes (narrowed es (dim_of rule) (first_of rule) (second_of rule) keep) i u v r)
      these i u v r (inl h) = by_keeps two After i u v r (by_keeps one Before i u v r (by_keeps es Overlap i u v r h))
      these i u v r (inr h) = adds i u v r h
