-- What a visit shows, from the closure and the first unsettled pair.
use Rattle.std.proofs.Common.{◌≡◌, ℕ, ◌<◌, ◌≤◌, sym, ap, ◌∙◌, List, ◌++◌, false}
use Rattle.packing_terms.specs.declared.Exclusion.{Exclusion}
use Rattle.packing_terms.specs.Packing.{PlainInstance, dims, box_count}
use Rattle.packing_terms.specs.Exclusions.{excludes}
use Rattle.packing_terms.specs.Applied.{Extends}
use Rattle.rule_closure.specs.Closes.{IsClosure}
use Rattle.packing_terms.specs.Rank.{ranked_pairs}
use Rattle.tree_terms.specs.InnerTree.{SplitNode, is_settled, split_tree, tree_below}
use Rattle.tree_terms.proofs.NodeSteps.{settled_node, split_node, order_found, apart_found}
use Rattle.class_search.specs.declared.visit.NodeKind.{NodeKind}
use Rattle.class_search.specs.declared.visit.NodeKind.TheVariants.{Conflict, Settled, Divided}
use Rattle.class_search.specs.Settling.{pair_at}
use Rattle.class_search.specs.Splits.{MaySplit}
use Rattle.class_search.specs.Visits.{Grows, IsConsistent, IsNextPair, IsMet}
use Rattle.class_search.proofs.Closings.{closed_set}
use Rattle.class_search.proofs.Walking.{none_found, one_found}

pub extends_grows : (instance : PlainInstance) (es fs : List Exclusion) → Extends instance es fs → Grows es fs
extends_grows instance es fs h = record { more = h.more; grown = h.grown }

closed_calm : (instance : PlainInstance) (es fs : List Exclusion) → IsClosure instance es fs → IsConsistent instance fs
closed_calm instance es fs closed = record { stable = closed.stable; full = closed.full }

pub next_met : (instance : PlainInstance) → 1 ≤ dims instance → (es fs : List Exclusion) (kind : NodeKind) → Grows es fs
    → IsClosure instance es fs → IsNextPair instance fs kind
    → IsMet instance es fs kind
next_met instance some_dim es fs Conflict g closed h = absurd h
next_met instance some_dim es fs Settled g closed h = record {
  grown = g;
  tree = settled_node instance some_dim es fs (closed_set instance es fs closed) closed.none (none_found instance fs h);
  known = record { no_conflict = closed_calm instance es fs closed; settled = h };
}
next_met instance some_dim es fs (Divided s k) g closed h = record {
  grown = g;
  tree =
      split_node instance some_dim es fs (closed_set instance es fs closed) closed.none
      (pair_at (ranked_pairs instance) k) (one_found instance fs k h.there h.before h.unsettled)
      ∙ ap (λ (n : SplitNode). split_tree n (λ add. tree_below instance (add ++ fs))) (sym h.is);
  known = record { no_conflict = closed_calm instance es fs closed; split = h };
}

pub may_split : (instance : PlainInstance) → 1 ≤ dims instance → (es fs : List Exclusion) → IsClosure instance es fs
    → (p : ℕ × ℕ) → p.0 < p.1 → p.1 < box_count instance
    → is_settled (excludes fs) (dims instance) p ≡ false → MaySplit (excludes fs) (dims instance) p
may_split instance some_dim es fs closed p huv hv u = record {
  order = λ a f. order_found instance some_dim es fs (closed_set instance es fs closed) closed.none p huv hv u a f;
  apart = λ a f. apart_found instance some_dim es fs (closed_set instance es fs closed) closed.none p huv hv a f;
}
