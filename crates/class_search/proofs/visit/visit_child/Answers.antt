use Rattle.packing_terms.proofs.Internal.{some_dimension}
use Rattle.tree_terms.proofs.NodeSteps.{conflict_node}
use Rattle.class_search.specs.Splits.{added, with_all}
use Rattle.class_search.proofs.Visited.{extends_grows, next_met, may_split}
use Rattle.class_search.proofs.Walking.{with_grows, cut_back, child_settled}
use Rattle.class_search.proofs.visit.visit_child.Goals as goal

pub close_since-requires-clause-full : goal.close_since-requires-clause-full
close_since-requires-clause-full c =
    let old = c.args.state.now.trail in
    let more = added c.args.split c.args.child in
    rw (c.enter.ensures, c.mark-closed.ensures, cut_back old (with_all more old) (with_grows more old))
    c.requires.divided.no_conflict.full

pub next_kind-requires-clause-settled : goal.next_kind-requires-clause-settled
next_kind-requires-clause-settled c =
    let extends = rw c.enter.ensures at c.close_since.ensures.extends in
    child_settled c.args.search.now.instance.now c.args.rank c.args.state.now.trail
    (added c.args.split c.args.child) c.requires.divided.split.before _ extends.kept c.in-Stable.ensures.closed.full

pub next_kind-requires-clause-divided : goal.next_kind-requires-clause-divided
next_kind-requires-clause-divided c =
    let instance = c.args.search.now.instance.now in
    may_split instance (some_dimension instance c.requires.limits) _ _ c.in-Stable.ensures.closed

pub returns-in-Conflict-clause-met : goal.returns-in-Conflict-clause-met
returns-in-Conflict-clause-met c = record {
  grown = extends_grows c.args.search.now.instance.now _ _ (rw c.enter.ensures at c.close_since.ensures.extends);
  tree = conflict_node c.args.search.now.instance.now
      (some_dimension c.args.search.now.instance.now c.requires.limits) _
      (rw c.enter.ensures at c.in-Conflict.ensures.closed.conflict);
  known = tt;
}

pub returns-in-Stable-clause-met : goal.returns-in-Stable-clause-met
returns-in-Stable-clause-met c =
    let instance = c.args.search.now.instance.now in
    let extends = rw c.enter.ensures at c.close_since.ensures.extends in
    next_met instance (some_dimension instance c.requires.limits) _ _ c.next_kind.result
    (extends_grows instance _ _ extends) (rw c.enter.ensures at c.in-Stable.ensures.closed) c.next_kind.ensures
