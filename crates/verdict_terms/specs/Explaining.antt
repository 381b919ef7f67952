-- Explained refutations: lists of lines that show step by step that no packing of an instance
-- respects a set of exclusions. No closure is part of it: what a step excludes is added to the set,
-- and a conflict is a place where all three relations are excluded in the set itself.
--
--     pair 1 1 2       1, 2 are too long together in dimension 1: they overlap there
--     pair 2 1 2       and in dimension 2
--     apart 1 1 2      so they don't overlap in dimension 1,
--     x 1 1 2          where no relation is left
use Rattle.std.specs.Prelude.{ℕ, pred, ◌≡◌, ◌⊎◌, List, [], ◌∷◌, ◌++◌, Bool, true, false, not, ◌&&◌, IsTrue}
use Rattle.std.specs.List.{list_any}
use Rattle.packing_terms.specs.declared.Rel.{Rel}
use Rattle.packing_terms.specs.declared.Rel.TheVariants.{Overlap, Before, After}
use Rattle.packing_terms.specs.declared.Exclusion.{Exclusion}
use Rattle.packing_terms.specs.declared.ScaleFn.{ScaleFn}
use Rattle.packing_terms.specs.Packing.{PlainInstance}
use Rattle.packing_terms.specs.Relations.{allows}
use Rattle.packing_terms.specs.Exclusions.{Exclusions, excludes, is_same_rel}
use Rattle.packing_terms.specs.Rules.{Rule, IsRuleInstance, Premises, Concludes, dim_of, first_of, second_of}
use Rattle.packing_terms.specs.Rules.Rule.{Pair, Apart, Triple, Chain, Compose, Cycle, Order}
use Rattle.packing_terms.specs.Scales.{Exceeds}
use Rattle.packing_terms.specs.Tokens.PlainToken.{Apart as ApartToken, Order as OrderToken, TooLarge, Scales}
use Rattle.packing_terms.specs.Refutation.{IsNamed, IsTooLarge, exclusion_in_text}
use Rattle.packing_terms.specs.Rounds.{rels}
use Rattle.packing_terms.specs.Steps.{with_exclusion}
use Rattle.packing_terms.specs.Applied.{narrowed}
use Rattle.verdict_terms.specs.Steps.{PlainStep, lines_of}
use Rattle.verdict_terms.specs.Steps.PlainStep.{Clash, Plain}

-- whether the rule leaves a relation at its edge: it excludes all others there (law
-- `steps_apply_their_rules`)
abbrev pub leaves : Exclusions → Rule → Rel → Bool
leaves X (Pair i u v) r = is_same_rel Overlap r
leaves X (Apart i u v) r = not (is_same_rel Overlap r)
leaves X (Triple i u v x) r = is_same_rel Overlap r
leaves X (Chain i before u v after) r = not (is_same_rel Before r)
leaves X (Compose i u v x) r =
    list_any (λ q. list_any (λ s. not (X i u v q) && not (X i v x s) && allows q s r) rels) rels
leaves X (Cycle i a b c d) r = is_same_rel Overlap r
leaves X (Order i a b c d) r = is_same_rel Before r

-- the exclusions with all that the rule concludes
abbrev pub after_rule : List Exclusion → Rule → List Exclusion
after_rule es rule = narrowed es (dim_of rule) (first_of rule) (second_of rule) (leaves (excludes es) rule)

-- the rule applies, and excludes a relation that wasn't excluded
pub record IsStep (instance : PlainInstance) (es : List Exclusion) (rule : Rule) : Type 0 where
  pub is : IsRuleInstance instance rule
  pub premises : Premises instance (excludes es) rule
  pub rel : Rel
  pub concluded : Concludes (excludes es) rule rel
  pub fresh : excludes es (dim_of rule) (first_of rule) (second_of rule) rel ≡ false

-- the mask there has overlap and another relation; the numbers are those of the text
pub record MayPart (instance : PlainInstance) (es : List Exclusion) (dim u v : ℕ) : Type 0 where
  pub named : IsNamed instance dim u v
  pub overlap : excludes es (pred dim) (pred u) (pred v) Overlap ≡ false
  pub other : (excludes es (pred dim) (pred u) (pred v) Before ≡ false)
      ⊎ (excludes es (pred dim) (pred u) (pred v) After ≡ false)

-- the mask there is exactly before and after
pub record MayOrder (instance : PlainInstance) (es : List Exclusion) (dim u v : ℕ) : Type 0 where
  pub named : IsNamed instance dim u v
  pub overlap : excludes es (pred dim) (pred u) (pred v) Overlap ≡ true
  pub before : excludes es (pred dim) (pred u) (pred v) Before ≡ false
  pub after : excludes es (pred dim) (pred u) (pred v) After ≡ false

-- the numbers name a place where all three relations are excluded
pub record IsClash (instance : PlainInstance) (es : List Exclusion) (dim u v : ℕ) : Type 0 where
  pub named : IsNamed instance dim u v
  pub each : (r : Rel) → IsTrue (excludes es (pred dim) (pred u) (pred v) r)

-- the exclusions with one more at a place of the text
abbrev pub with_text : List Exclusion → ℕ → ℕ → ℕ → Rel → List Exclusion
with_text es dim u v r = with_exclusion es (exclusion_in_text dim u v r)

-- The lines explain that the instance doesn't fit under the exclusions of the list. An explained
-- refutation of the instance is one under the empty list.
pub data Explains (instance : PlainInstance) : List Exclusion → List PlainStep → Type 0 where
  by_clash : {es : List Exclusion} {i u v : ℕ} → IsClash instance es i u v → Explains instance es (Clash i u v ∷ [])
  by_side : {es : List Exclusion} {v i : ℕ} → IsTooLarge instance v i → Explains instance es (Plain (TooLarge v i) ∷ [])
  by_scales : {es : List Exclusion} {fs : List ScaleFn} → Exceeds instance fs 1
      → Explains instance es (Plain (Scales fs) ∷ [])
  by_step : {es : List Exclusion} {rule : Rule} {z rest : List PlainStep} → IsStep instance es rule
      → z ≡ lines_of rule ++ rest
      → Explains instance (after_rule es rule) rest
      → Explains instance es z
  by_apart : {es : List Exclusion} {i u v : ℕ} {l r z : List PlainStep} → MayPart instance es i u v → z ≡ l ++ r
      → Explains instance (with_text es i u v Overlap) l
      → Explains instance (with_text (with_text es i u v After) i u v Before) r
      → Explains instance es (Plain (ApartToken i u v) ∷ z)
  by_order : {es : List Exclusion} {i u v : ℕ} {l r z : List PlainStep} → MayOrder instance es i u v → z ≡ l ++ r
      → Explains instance (with_text es i u v After) l
      → Explains instance (with_text es i u v Before) r
      → Explains instance es (Plain (OrderToken i u v) ∷ z)
