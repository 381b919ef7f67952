-- The outcome of a verdict under a budget.
use Rattle.std.proofs.Common.{◌≡◌, ℕ, ◌<◌, ◌≤◌, ◌⊎◌, inl, inr, refl, arith, true, false, ltb}
use Rattle.std.proofs.Common.{List, Option, Some, None, IfSome}
use Rattle.std.proofs.lemmas.Bool.{cases_Bool, lt-ltb, ltb-true}
use Rattle.tree_terms.specs.Trees.{SearchTree, node_at, PlainOutcome, Verdict, Decided, Past, outcome}
use Rattle.tree_terms.specs.Trees.{under_budget, count_of}
use Rattle.tree_terms.specs.Paths.{outcome_at, outcome_of}

pub over_budget : (budget : ℕ) (v : Verdict) → budget < count_of v → under_budget budget v ≡ Past
over_budget budget v l = rw (lt-ltb budget (count_of v) l) refl

pub within_budget : (budget : ℕ) (v : Verdict) → count_of v ≤ budget → under_budget budget v ≡ Decided v
within_budget budget v l = go (cases_Bool (ltb budget (count_of v)))
  where
    go : (ltb budget (count_of v) ≡ true) ⊎ (ltb budget (count_of v) ≡ false) → under_budget budget v ≡ Decided v
    go (inl k) = absurd (let m = ltb-true budget (count_of v) k in omega (arith, l, m))
    go (inr k) = rw k refl

-- The outcome at a path, of the node there.
pub outcome_there : (tree : SearchTree) (path : List ℕ) (cap : ℕ) (r : PlainOutcome)
    → IfSome (node_at (Some tree) path) (λ x. r ≡ under_budget cap (outcome x))
    → IfSome (outcome_at tree path) (λ v. r ≡ under_budget cap v)
outcome_there tree path cap r h = go (node_at (Some tree) path) h
  where
    go : (o : Option SearchTree) → IfSome o (λ x. r ≡ under_budget cap (outcome x))
        → IfSome (outcome_of o) (λ v. r ≡ under_budget cap v)
    go None f = f
    go (Some node) f = f
