-- A step of a rule, by what it leaves at its place.
use Rattle.std.proofs.Common.{◌≡◌, ℕ, ◌↔◌, refl, sym, ap, ◌∙◌, Bool, true, false}
use Rattle.std.proofs.Common.{not, cond, ◌&&◌, ◌||◌, List, if◌then◌else◌, IsTrue}
use Rattle.std.specs.List.{list_any}
use Rattle.std.proofs.lemmas.Bool.{true≢false, and_parts, and_from, or_parts}
use Rattle.packing_terms.specs.Relations.{allows}
use Rattle.packing_terms.specs.Rules.Rule.{Compose}
use Rattle.packing_terms.proofs.Sets.{same_bool}
use Rattle.packing_terms.proofs.Members.{any_at, any_from}
use Rattle.packing_terms.specs.Rounds.{rels}
use Rattle.verdict_terms.proofs.Leaves.{rel_in}
use Rattle.packing_terms.specs.declared.Rel.{Rel}
use Rattle.packing_terms.specs.declared.Rel.TheVariants.{Overlap, Before, After}
use Rattle.packing_terms.specs.declared.Exclusion.{Exclusion}
use Rattle.packing_terms.specs.Packing.{PlainInstance}
use Rattle.packing_terms.specs.Exclusions.{Exclusions, excludes, exclusion_at}
use Rattle.packing_terms.specs.Rules.{Rule, dim_of, first_of, second_of}
use Rattle.packing_terms.specs.Steps.{with_exclusion}
use Rattle.packing_terms.specs.Applied.{narrowed_by, narrows, narrowed, is_narrowed}
use Rattle.relation_table.specs.Masks.{mask_has, IsComposed}
use Rattle.edge_state.specs.Edges.{PlainEdges}
use Rattle.verdict_terms.specs.Explaining.{leaves}
use Rattle.verdict_terms.specs.ExplainedJudging.{applies}
use Rattle.line_proofs.specs.Taken.{IsRuleTaken}

pub same_narrowed : (es : List Exclusion) (i u v : ℕ) (k l : Rel → Bool) → ((r : Rel) → k r ≡ l r)
    → narrowed es i u v k ≡ narrowed es i u v l
same_narrowed es i u v k l h = rw (h Overlap, h Before, h After) refl

pub same_change : (es : List Exclusion) (i u v : ℕ) (k l : Rel → Bool) → ((r : Rel) → k r ≡ l r)
    → is_narrowed es i u v k ≡ is_narrowed es i u v l
same_change es i u v k l h = rw (h Overlap, h Before, h After) refl

one_same : (es : List Exclusion) (i u v : ℕ) (keep : Rel → Bool) (r : Rel) → narrows es i u v keep r ≡ false
    → narrowed_by es i u v keep r ≡ es
one_same es i u v keep r h = go (keep r) (excludes es i u v r) refl h
  where
    go : (a b : Bool) → excludes es i u v r ≡ b → (not a && not b) ≡ false
        → cond a es (with_exclusion es (exclusion_at i u v r)) ≡ es
    go true b e k = refl
    go false true e k = rw e refl
    go false false e k = absurd (true≢false k)

-- where no mask changes, the list stays
pub unchanged : (es : List Exclusion) (i u v : ℕ) (keep : Rel → Bool) → is_narrowed es i u v keep ≡ false
    → narrowed es i u v keep ≡ es
unchanged es i u v keep h =
    let one = narrowed_by es i u v keep Overlap in
    let two = narrowed_by one i u v keep Before in
    let a = or_parts (narrows es i u v keep Overlap || narrows one i u v keep Before)
    (narrows two i u v keep After) h in
    let b = or_parts (narrows es i u v keep Overlap) (narrows one i u v keep Before) a.0 in
    one_same two i u v keep After a.1 ∙ (one_same one i u v keep Before b.1 ∙ one_same es i u v keep Overlap b.0)

pub kept_or_same : (es : List Exclusion) (i u v : ℕ) (keep : Rel → Bool)
    → narrowed es i u v keep ≡ (if is_narrowed es i u v keep then narrowed es i u v keep else es)
kept_or_same es i u v keep = go (is_narrowed es i u v keep) refl
  where
    go : (b : Bool) → is_narrowed es i u v keep ≡ b → narrowed es i u v keep ≡ cond b (narrowed es i u v keep) es
    go true e = refl
    go false e = unchanged es i u v keep e

pub rule_taken : (instance : PlainInstance) (old new : PlainEdges) (rule : Rule) (holds taken : Bool) (mask : ℕ)
    → new ≡ record old {
      trail = (if holds && is_narrowed old.trail (dim_of rule) (first_of rule) (second_of rule) (mask_has mask)
          then narrowed old.trail (dim_of rule) (first_of rule) (second_of rule) (mask_has mask) else old.trail);
    }
    → taken ≡ (holds && is_narrowed old.trail (dim_of rule) (first_of rule) (second_of rule) (mask_has mask))
    → holds ≡ applies instance (excludes old.trail) rule
    → ((r : Rel) → mask_has mask r ≡ leaves (excludes old.trail) rule r)
    → IsRuleTaken instance old new rule taken
rule_taken instance old new rule holds taken mask state told premises kept =
    let change = same_change old.trail (dim_of rule) (first_of rule) (second_of rule) (mask_has mask)
    (leaves (excludes old.trail) rule) kept in
    let list = same_narrowed old.trail (dim_of rule) (first_of rule) (second_of rule) (mask_has mask)
    (leaves (excludes old.trail) rule) kept in
    record {
      told = told ∙ (ap (λ b. b && is_narrowed old.trail (dim_of rule) (first_of rule) (second_of rule)
          (mask_has mask)) premises
          ∙ ap (λ b. applies instance (excludes old.trail) rule && b) change);
      state = state ∙ (ap (λ b. record old {
        trail = cond b (narrowed old.trail (dim_of rule) (first_of rule) (second_of rule) (mask_has mask))
            old.trail;
      }) (sym told)
          ∙ ap (λ l. record old { trail = cond taken l old.trail }) list);
    }

-- ---- numbers that name boxes

pub or_none : (b : Bool) → (b || false) ≡ b
or_none true = refl
or_none false = refl

pub and_all : (b : Bool) → (b && true) ≡ b
and_all true = refl
and_all false = refl

pub not_not : (b : Bool) → not (not b) ≡ b
not_not true = refl
not_not false = refl

-- what a mask hasn't is excluded
pub hasnt : (has m x : Bool) → has ≡ m → m ≡ not x → not has ≡ x
hasnt has m x e f = ap not (e ∙ f) ∙ not_not x

-- ---- the composition of two masks

module _ (X : Exclusions) (i u v x a b m : ℕ) (ha : (r : Rel) → mask_has a r ≡ not (X i u v r))
    (hb : (r : Rel) → mask_has b r ≡ not (X i v x r))
    (exact : (r : Rel) → IsTrue (mask_has m r) ↔ IsComposed a b r) where
  pub composed_leaves : (r : Rel) → mask_has m r ≡ leaves X (Compose i u v x) r
  composed_leaves r = same_bool (mask_has m r) (leaves X (Compose i u v x) r) (λ h. there ((exact r).0 h))
      (λ h. (exact r).1 (back h))
    where
      there : IsComposed a b r → leaves X (Compose i u v x) r ≡ true
      there (q, s, h, k, t) =
          any_at (λ q. list_any (λ s. not (X i u v q) && not (X i v x s) && allows q s r) rels) q rels (rel_in q)
          (any_at (λ s. not (X i u v q) && not (X i v x s) && allows q s r) s rels (rel_in s)
          (and_from _ _ (and_from _ _ (sym (ha q) ∙ h) (sym (hb s) ∙ k)) t))

      back : leaves X (Compose i u v x) r ≡ true → IsComposed a b r
      back h =
          let f = any_from (λ q. list_any (λ s. not (X i u v q) && not (X i v x s) && allows q s r) rels) rels h in
          let g = any_from (λ s. not (X i u v f.item) && not (X i v x s) && allows f.item s r) rels f.passes in
          let p = and_parts _ _ g.passes in
          let o = and_parts _ _ p.0 in
          (f.item, g.item, ha f.item ∙ o.0, hb g.item ∙ o.1, p.1)
