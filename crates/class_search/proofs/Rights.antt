-- What an outcome under a budget is worth.
use Rattle.std.proofs.Common.{◌≡◌, ℕ, ◌+◌, ◌-◌, ◌*◌, ◌/◌, ◌^◌, ◌≤◌, refl, sym, ap, ◌∙◌, arith, Bool, true, false}
use Rattle.std.proofs.Common.{nat_lt, if◌then◌else◌, List, [], ◌∷◌, Option, Some, None, IfSome, IsSome}
use Rattle.std.proofs.lemmas.Bool.{true≢false}
use Rattle.packing_terms.specs.declared.Exclusion.{Exclusion}
use Rattle.packing_terms.specs.Packing.{PlainInstance, Fits, dims, box_count}
use Rattle.packing_terms.specs.Limits.{IsInternalInstance}
use Rattle.packing_terms.proofs.Internal.{some_dimension}
use Rattle.packing_terms.proofs.Excess.{excess_law}
use Rattle.tree_terms.specs.Trees.{SearchTree, node_at, PlainOutcome, Decided, Past, Verdict, Yes, No, outcome}
use Rattle.tree_terms.specs.Trees.{count_of, under_budget}
use Rattle.packing_terms.specs.Exclusions.{AreAtEdges}
use Rattle.tree_terms.specs.Search.{IsRightUnder, IsYesVerdict}
use Rattle.tree_terms.specs.ClassTree.{class_tree}
use Rattle.tree_terms.specs.Paths.{exclusions_at}
use Rattle.tree_terms.proofs.Decisions.{class_tree_search, class_tree_right, decides}
use Rattle.tree_terms.proofs.PathNodes.{search_at}
use Rattle.tree_terms.proofs.Searches.{outcome_right}
use Rattle.tree_terms.proofs.Counts.{class_count}
use Rattle.tree_terms.proofs.UnderBudget.{within_budget}
use Rattle.class_search.specs.Tree.{PlainClassTree, shape}
use Rattle.class_search.specs.Right.{IsRight, Decides, IsYesOrNo}

told_right : (instance : PlainInstance) (es : List Exclusion) (budget : ℕ) (v : Verdict) → IsRightUnder instance es v
    → IsRight instance es (under_budget budget v)
told_right instance es budget v h = go (nat_lt budget (count_of v))
  where
    go : (b : Bool) → IsRight instance es (if b then Past else Decided v)
    go true = tt
    go false = h

pub class_right : (instance : PlainInstance) → IsInternalInstance instance
    → (scales : Bool) (budget : ℕ) (r : PlainOutcome)
    → r ≡ under_budget budget (outcome (class_tree instance [] scales)) → IsRight instance [] r
class_right instance limits scales budget r e =
    rw e (told_right instance [] budget (outcome (class_tree instance [] scales))
    (class_tree_right instance limits [] tt scales))

verdict_decides : (instance : PlainInstance) (v : Verdict) → (Fits instance → IsYesVerdict v)
    → (IsYesVerdict v → Fits instance) → Decides instance (Decided v)
verdict_decides instance (Yes numbers count) f g = g tt
verdict_decides instance (No tokens count) f g = f

pub class_decides : (instance : PlainInstance) → IsInternalInstance instance
    → (scales : Bool) (budget : ℕ) (r : PlainOutcome)
    → r ≡ under_budget budget (outcome (class_tree instance [] scales)) → Decides instance r
class_decides instance limits scales budget r e =
    rw e (go (nat_lt budget (count_of (outcome (class_tree instance [] scales)))))
  where
    go : (b : Bool) → Decides instance (if b then Past else Decided (outcome (class_tree instance [] scales)))
    go true = tt
    go false = let d = decides instance limits excess_law scales in
        verdict_decides instance (outcome (class_tree instance [] scales)) d.0 d.1

pub class_told : (instance : PlainInstance) → IsInternalInstance instance
    → (start : List Exclusion) (scales : Bool) (budget : ℕ) (r : PlainOutcome)
    → r ≡ under_budget budget (outcome (class_tree instance start scales))
    → 3 ^ (dims instance * box_count instance * (box_count instance - 1) / 2) ≤ budget + 1 → IsYesOrNo r
class_told instance limits start scales budget r e l =
    let c = class_count instance (some_dimension instance limits) start scales in
    rw (e, within_budget budget (outcome (class_tree instance start scales)) (omega (arith, c, l))) tt

-- at a node
pub right_at : (t : PlainClassTree) → IsInternalInstance t.instance → AreAtEdges t.instance t.start
    → (path : List ℕ) (cap : ℕ) (r : PlainOutcome)
    → IsSome (node_at (Some (shape t)) path) → IfSome (node_at (Some (shape t)) path) (λ x. r ≡ under_budget cap (outcome x))
    → IsRight t.instance (exclusions_at t.start (shape t) path) r
right_at t limits placed path cap r there h = go (node_at (Some (shape t)) path) refl there h
  where
    go : (o : Option SearchTree) → node_at (Some (shape t)) path ≡ o → IsSome o
        → IfSome o (λ x. r ≡ under_budget cap (outcome x)) → IsRight t.instance (exclusions_at t.start (shape t) path) r
    go None e k f = absurd (true≢false (sym k))
    go (Some node) e k f =
        let s = search_at t.instance path (shape t) t.start
        (class_tree_search t.instance limits t.start placed t.scales) node e in
        rw f (told_right t.instance (exclusions_at t.start (shape t) path) cap (outcome node)
        (outcome_right t.instance node (exclusions_at t.start (shape t) path) s))

-- at the root
pub decides_at : (t : PlainClassTree) → IsInternalInstance t.instance → (path : List ℕ) (cap : ℕ) (r : PlainOutcome)
    → IfSome (node_at (Some (shape t)) path) (λ x. r ≡ under_budget cap (outcome x)) → path ≡ [] → t.start ≡ []
    → Decides t.instance r
decides_at t limits [] cap r f p s =
    class_decides t.instance limits t.scales cap r
    (f ∙ ap (λ (es : List Exclusion). under_budget cap (outcome (class_tree t.instance es t.scales))) s)
decides_at t limits (k ∷ path) cap r f p s = absurd (cc (p))

pub told_at : (t : PlainClassTree) → IsInternalInstance t.instance → (path : List ℕ) (cap : ℕ) (r : PlainOutcome)
    → IfSome (node_at (Some (shape t)) path) (λ x. r ≡ under_budget cap (outcome x)) → path ≡ []
    → 3 ^ (dims t.instance * box_count t.instance * (box_count t.instance - 1) / 2) ≤ cap + 1 → IsYesOrNo r
told_at t limits [] cap r f p l = class_told t.instance limits t.start t.scales cap r f l
told_at t limits (k ∷ path) cap r f p l = absurd (cc (p))
