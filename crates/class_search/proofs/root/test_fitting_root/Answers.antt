use Rattle.tree_terms.proofs.ClassSearch.{none_large}
use Rattle.class_search.proofs.Rooting.{root_conflict, root_passed, root_refuted}
use Rattle.class_search.proofs.root.test_fitting_root.Goals as goal

pub scales_token-requires : goal.scales_token-requires
scales_token-requires c = none_large c.args.instance.now c.requires.none

pub returns-in-Conflict-clause-tested : goal.returns-in-Conflict-clause-tested
returns-in-Conflict-clause-tested c = (
  root_conflict c.args.instance.now _ c.args.scales c.requires.none c.in-Conflict.ensures.closed.conflict,
  none_large c.args.instance.now c.requires.none,
)

pub returns-in-Some-clause-tested : goal.returns-in-Some-clause-tested
returns-in-Some-clause-tested c =
    root_refuted c.args.instance.now _ _ c.args.scales c.in-Some.token c.requires.none
    c.in-Stable.ensures.closed c.in-Some.ensures

pub returns-in-None-clause-tested : goal.returns-in-None-clause-tested
returns-in-None-clause-tested c = record {
  is = root_passed c.args.instance.now _ _ c.args.scales c.requires.none c.in-Stable.ensures.closed c.in-None.ensures;
  fit = none_large c.args.instance.now c.requires.none;
  extends = c.close.ensures.extends;
  closed = c.in-Stable.ensures.closed;
}
