use Rattle.std.proofs.Common.{ap, ◌∙◌, Some}
use Rattle.packing_terms.proofs.Internal.{some_dimension}
use Rattle.class_search.proofs.Visited.{extends_grows, next_met, may_split}
use Rattle.class_search.proofs.root.visit_class_root.Goals as goal

pub next_kind-requires-clause-divided : goal.next_kind-requires-clause-divided
next_kind-requires-clause-divided c =
    let instance = c.args.search.now.instance.now in
    may_split instance (some_dimension instance c.requires.limits) _ _ c.in-Passed.ensures.tested.closed

pub returns-in-Refuted-clause-root : goal.returns-in-Refuted-clause-root
returns-in-Refuted-clause-root c = ap Some c.in-Refuted.ensures.tested

pub returns-in-Conflict-clause-root : goal.returns-in-Conflict-clause-root
returns-in-Conflict-clause-root c = record {
  is = ap Some c.in-Conflict.ensures.tested.0;
  known = tt;
  fit = c.in-Conflict.ensures.tested.1;
}

pub returns-in-Passed-clause-root : goal.returns-in-Passed-clause-root
returns-in-Passed-clause-root c =
    let instance = c.args.search.now.instance.now in
    let met = next_met instance (some_dimension instance c.requires.limits) _ _ c.next_kind.result
    (extends_grows instance _ _ c.in-Passed.ensures.tested.extends) c.in-Passed.ensures.tested.closed c.next_kind.ensures in
    record {
      is = ap Some (c.in-Passed.ensures.tested.is ∙ met.tree);
      known = met.known;
      fit = c.in-Passed.ensures.tested.fit;
    }
