use Rattle.std.proofs.Common.{arith}
use Rattle.packing_terms.proofs.Internal.{some_dimension}
use Rattle.tree_terms.proofs.NodeSteps.{conflict_node}
use Rattle.class_search.proofs.Visited.{extends_grows, next_met, may_split}
use Rattle.class_search.proofs.visit.visit_root.Goals as goal

pub returns-in-Conflict-clause-met : goal.returns-in-Conflict-clause-met
returns-in-Conflict-clause-met c = record {
  grown = extends_grows c.args.search.now.instance.now _ _ c.close.ensures.extends;
  tree = conflict_node c.args.search.now.instance.now
      (some_dimension c.args.search.now.instance.now c.requires.limits) _ c.in-Conflict.ensures.closed.conflict;
  known = tt;
}

pub next_kind-requires-clause-settled : goal.next_kind-requires-clause-settled
next_kind-requires-clause-settled c = λ j l m. absurd (omega (arith, l))

pub next_kind-requires-clause-divided : goal.next_kind-requires-clause-divided
next_kind-requires-clause-divided c =
    let instance = c.args.search.now.instance.now in
    may_split instance (some_dimension instance c.requires.limits) _ _ c.in-Stable.ensures.closed

pub returns-in-Stable-clause-met : goal.returns-in-Stable-clause-met
returns-in-Stable-clause-met c =
    let instance = c.args.search.now.instance.now in
    next_met instance (some_dimension instance c.requires.limits) _ _ c.next_kind.result
    (extends_grows instance _ _ c.close.ensures.extends) c.in-Stable.ensures.closed c.next_kind.ensures
