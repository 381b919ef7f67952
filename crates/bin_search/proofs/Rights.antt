-- What the outcomes of bin trees under a budget are worth.
use Rattle.std.proofs.Common.{◌≡◌, ℕ, ◌+◌, ◌-◌, ◌*◌, ◌/◌, ◌^◌, ◌≤◌, refl, arith, sym, Bool, true, false, nat_lt}
use Rattle.std.proofs.Common.{if◌then◌else◌, List, [], ◌∷◌, Option, Some, None, IfSome, IsSome}
use Rattle.std.proofs.lemmas.Bool.{true≢false}
use Rattle.packing_terms.specs.Packing.{dims, box_count}
use Rattle.packing_terms.specs.Limits.{IsInternalInstance}
use Rattle.packing_terms.specs.Sums.{sum_below}
use Rattle.packing_terms.specs.Goals.{FitsInBins}
use Rattle.packing_terms.specs.OuterRefutation.{Bins}
use Rattle.packing_terms.proofs.Internal.{internal_sides, some_dimension}
use Rattle.packing_terms.proofs.Excess.{excess_law}
use Rattle.tree_terms.specs.Trees.{SearchTree, node_at, PlainOutcome, Decided, Past, Verdict, Yes, No, outcome}
use Rattle.tree_terms.specs.Trees.{count_of, under_budget}
use Rattle.tree_terms.specs.Search.{IsYesVerdict}
use Rattle.tree_terms.specs.OuterSearch.{IsBinRight}
use Rattle.tree_terms.specs.Paths.{bins_at}
use Rattle.tree_terms.proofs.OuterDecisions.{bin_tree_search, decides_bins}
use Rattle.tree_terms.proofs.OuterOutcomes.{bins_right}
use Rattle.tree_terms.proofs.PathNodes.{bin_search_at}
use Rattle.tree_terms.proofs.OuterCounts.{bin_count}
use Rattle.tree_terms.proofs.UnderBudget.{within_budget}
use Rattle.class_search.specs.Right.{IsYesOrNo}
use Rattle.bin_search.specs.Trees.{PlainBinTree, shape}
use Rattle.bin_search.specs.Rights.{IsRight, Decides}

told_right : (t : PlainBinTree) (bins : Bins) (budget : ℕ) (v : Verdict) → IsBinRight t.instance t.bins bins v
    → IsRight t bins (under_budget budget v)
told_right t bins budget v h = go (nat_lt budget (count_of v))
  where
    go : (b : Bool) → IsRight t bins (if b then Past else Decided v)
    go true = tt
    go false = h

verdict_decides : (t : PlainBinTree) (v : Verdict) → (FitsInBins t.instance t.bins → IsYesVerdict v)
    → (IsYesVerdict v → FitsInBins t.instance t.bins) → Decides t (Decided v)
verdict_decides t (Yes numbers count) f g = g tt
verdict_decides t (No tokens count) f g = f

module _ (t : PlainBinTree) (limits : IsInternalInstance t.instance) where
  decides_told : (cap : ℕ) → Decides t (under_budget cap (outcome (shape t)))
  decides_told cap = go (nat_lt cap (count_of (outcome (shape t))))
    where
      go : (b : Bool) → Decides t (if b then Past else Decided (outcome (shape t)))
      go true = tt
      go false = let d = decides_bins t.instance limits excess_law t.bins t.scales in
          verdict_decides t (outcome (shape t)) d.0 d.1

  -- at a node
  pub right_at : (path : List ℕ) (cap : ℕ) (r : PlainOutcome)
      → IsSome (node_at (Some (shape t)) path) → IfSome (node_at (Some (shape t)) path) (λ x. r ≡ under_budget cap (outcome x))
      → IsRight t (bins_at t.bins [] (shape t) path) r
  right_at path cap r there h = go (node_at (Some (shape t)) path) refl there h
    where
      go : (o : Option SearchTree) → node_at (Some (shape t)) path ≡ o → IsSome o
          → IfSome o (λ x. r ≡ under_budget cap (outcome x))
          → IsRight t (bins_at t.bins [] (shape t) path) r
      go None e k f = absurd (true≢false (sym k))
      go (Some node) e k f =
          let s = bin_search_at t.instance t.bins path (shape t) []
          (bin_tree_search t.instance limits t.bins t.scales) node e in
          rw f (told_right t (bins_at t.bins [] (shape t) path) cap (outcome node)
          (bins_right t.instance t.bins node (bins_at t.bins [] (shape t) path) s))

  -- at the root
  pub decides_at : (path : List ℕ) (cap : ℕ) (r : PlainOutcome)
      → IfSome (node_at (Some (shape t)) path) (λ x. r ≡ under_budget cap (outcome x)) → path ≡ [] → Decides t r
  decides_at [] cap r f p = rw f (decides_told cap)
  decides_at (k ∷ path) cap r f p = absurd (cc (p))

  pub told_at : (path : List ℕ) (cap : ℕ) (r : PlainOutcome)
      → IfSome (node_at (Some (shape t)) path) (λ x. r ≡ under_budget cap (outcome x)) → path ≡ []
      → 3 ^ (dims t.instance * box_count t.instance * (box_count t.instance - 1) / 2) * sum_below (box_count t.instance)
      (λ j. t.bins ^ (j + 1)) ≤ cap → IsYesOrNo r
  told_at [] cap r f p l =
      let c = bin_count t.instance (internal_sides t.instance limits) (some_dimension t.instance limits)
      t.scales t.bins in
      rw (f, within_budget cap (outcome (shape t)) (omega (arith, c, l))) tt
  told_at (k ∷ path) cap r f p l = absurd (cc (p))
