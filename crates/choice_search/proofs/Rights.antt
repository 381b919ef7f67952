-- What the outcomes of choice trees under a budget are worth.
use Rattle.std.proofs.Common.{◌≡◌, ℕ, ◌+◌, ◌-◌, ◌*◌, ◌/◌, ◌^◌, ◌≤◌, refl, arith, sym, Bool, true, false, nat_lt}
use Rattle.std.proofs.Common.{if◌then◌else◌, List, [], ◌∷◌, Option, Some, None, IfSome, IsSome}
use Rattle.std.proofs.lemmas.Bool.{true≢false}
use Rattle.packing_terms.specs.Packing.{dims, box_count}
use Rattle.packing_terms.specs.Limits.{IsInternalInstance}
use Rattle.packing_terms.specs.Goals.{ReachesValue}
use Rattle.packing_terms.specs.OuterRefutation.{Choice, no_choice}
use Rattle.packing_terms.proofs.Internal.{internal_sides, some_dimension}
use Rattle.packing_terms.proofs.Excess.{excess_law}
use Rattle.tree_terms.specs.Trees.{SearchTree, node_at, PlainOutcome, Decided, Past, Verdict, Yes, No, outcome}
use Rattle.tree_terms.specs.Trees.{count_of, under_budget}
use Rattle.tree_terms.specs.Search.{IsYesVerdict}
use Rattle.tree_terms.specs.OuterSearch.{IsChoiceRight}
use Rattle.tree_terms.specs.Paths.{choice_at}
use Rattle.tree_terms.proofs.OuterDecisions.{choice_tree_search, decides_value}
use Rattle.tree_terms.proofs.OuterOutcomes.{value_right}
use Rattle.tree_terms.proofs.PathNodes.{choice_search_at}
use Rattle.tree_terms.proofs.ChoiceCounts.{choice_count}
use Rattle.tree_terms.proofs.UnderBudget.{within_budget}
use Rattle.class_search.specs.Right.{IsYesOrNo}
use Rattle.choice_search.specs.Choices.{PlainChoiceTree, shape}
use Rattle.choice_search.specs.Rights.{IsRight, Decides}

told_right : (t : PlainChoiceTree) (c : Choice) (budget : ℕ) (v : Verdict) → IsChoiceRight t.instance t.goal c v
    → IsRight t c (under_budget budget v)
told_right t c budget v h = go (nat_lt budget (count_of v))
  where
    go : (b : Bool) → IsRight t c (if b then Past else Decided v)
    go true = tt
    go false = h

verdict_decides : (t : PlainChoiceTree) (v : Verdict) → (ReachesValue t.instance t.goal → IsYesVerdict v)
    → (IsYesVerdict v → ReachesValue t.instance t.goal) → Decides t (Decided v)
verdict_decides t (Yes numbers count) f g = g tt
verdict_decides t (No tokens count) f g = f

module _ (t : PlainChoiceTree) (limits : IsInternalInstance t.instance) where
  decides_told : (cap : ℕ) → Decides t (under_budget cap (outcome (shape t)))
  decides_told cap = go (nat_lt cap (count_of (outcome (shape t))))
    where
      go : (b : Bool) → Decides t (if b then Past else Decided (outcome (shape t)))
      go true = tt
      go false = let d = decides_value t.instance limits excess_law t.goal t.scales in
          verdict_decides t (outcome (shape t)) d.0 d.1

  -- at a node
  pub right_at : (path : List ℕ) (cap : ℕ) (r : PlainOutcome)
      → IsSome (node_at (Some (shape t)) path) → IfSome (node_at (Some (shape t)) path) (λ x. r ≡ under_budget cap (outcome x))
      → IsRight t (choice_at no_choice (shape t) path) r
  right_at path cap r there h = go (node_at (Some (shape t)) path) refl there h
    where
      go : (o : Option SearchTree) → node_at (Some (shape t)) path ≡ o → IsSome o
          → IfSome o (λ x. r ≡ under_budget cap (outcome x))
          → IsRight t (choice_at no_choice (shape t) path) r
      go None e k f = absurd (true≢false (sym k))
      go (Some node) e k f =
          let s = choice_search_at t.instance t.goal path (shape t) no_choice
          (choice_tree_search t.instance limits t.goal t.scales) node e in
          rw f (told_right t (choice_at no_choice (shape t) path) cap (outcome node)
          (value_right t.instance t.goal node (choice_at no_choice (shape t) path) s))

  -- at the root
  pub decides_at : (path : List ℕ) (cap : ℕ) (r : PlainOutcome)
      → IfSome (node_at (Some (shape t)) path) (λ x. r ≡ under_budget cap (outcome x)) → path ≡ [] → Decides t r
  decides_at [] cap r f p = rw f (decides_told cap)
  decides_at (k ∷ path) cap r f p = absurd (cc (p))

  pub told_at : (path : List ℕ) (cap : ℕ) (r : PlainOutcome)
      → IfSome (node_at (Some (shape t)) path) (λ x. r ≡ under_budget cap (outcome x)) → path ≡ []
      → 3 ^ (dims t.instance * box_count t.instance * (box_count t.instance - 1) / 2)
      * (2 ^ (box_count t.instance + 1) - 2) ≤ cap → IsYesOrNo r
  told_at [] cap r f p l =
      let c = choice_count t.instance (internal_sides t.instance limits) (some_dimension t.instance limits)
      t.scales t.goal in
      rw (f, within_budget cap (outcome (shape t)) (omega (arith, c, l))) tt
  told_at (k ∷ path) cap r f p l = absurd (cc (p))
