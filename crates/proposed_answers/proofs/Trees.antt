-- Bounds with a lower refuted value, by a tree that passed its test.
use Rattle.std.proofs.Common.{◌≡◌, ℕ, ◌<◌, inl, sym, subst, Bool, true, false, List}
use Rattle.std.specs.Prelude.{MatchBool}
use Rattle.std.proofs.lemmas.Bool.{true≢false}
use Rattle.packing_terms.specs.Packing.{PlainInstance}
use Rattle.packing_terms.specs.OuterRefutation.{IsValueRefutation}
use Rattle.packing_terms.specs.Tokens.{PlainToken}
use Rattle.tree_terms.specs.Levels.{RefutedBy}
use Rattle.level_search.specs.Bounds.{PlainBounds, narrowed}
use Rattle.level_search.proofs.Narrowing.{step}
use Rattle.proposed_answers.specs.Values.{top_value, value_at, ShowsLevel, RefutesLevel, AreFirstBounds}

-- tokens that pass their test refute the value
pub passed : (instance : PlainInstance) (value : ℕ) (tokens : List PlainToken) (r : Bool)
    → MatchBool r (IsValueRefutation instance value tokens) (¬ IsValueRefutation instance value tokens) → r ≡ true
    → IsValueRefutation instance value tokens
passed instance value tokens true h e = h
passed instance value tokens false h e = absurd (true≢false (sym e))

pub tree_lowers : (instance : PlainInstance) (b : PlainBounds) → AreFirstBounds instance b → (level value : ℕ)
    → b.refuted < level → level < b.lowest → value_at instance level ≡ value → (tokens : List PlainToken)
    → IsValueRefutation instance value tokens → (after : PlainBounds) → after ≡ narrowed b level (RefutedBy tokens)
    → AreFirstBounds instance after
tree_lowers instance b are level value above below e tokens refutes after f =
    subst (λ (x : PlainBounds). AreFirstBounds instance x) (sym f)
    (step (ShowsLevel instance) (RefutesLevel instance) (λ l. Unit {0}) (top_value instance) b are level
    (RefutedBy tokens) (inl (above, below))
    (subst (λ (v : ℕ). IsValueRefutation instance v tokens) (sym e) refutes)).are
