use Rattle.std.proofs.Common.{arith}
use Rattle.edge_state.proofs.Worked.{worked_kept, worked_lost_first, sizes_worked}
use Rattle.packing_terms.proofs.Monotone.{follows_more}
use Rattle.rule_passes.specs.Reached.{NoRule}
use Rattle.rule_passes.proofs.RowRules.{none_then}
use Rattle.rule_passes.proofs.excluding.exclude_both.Goals as goal

pub returns-then-exclude_each-clause-worked : goal.returns-then-exclude_each-clause-worked
returns-then-exclude_each-clause-worked g c =
    worked_lost_first _ _ _ _ _ _ c.if-exclude_each.true c.exclude_each.ensures.worked

pub returns-clause-worked : goal.returns-clause-worked
returns-clause-worked g c =
    none_then c.args.instance.now _ _ _ _
    (worked_kept _ _ _ _ NoRule c.if-exclude_each.false c.exclude_each.ensures.worked) c.exclude_each-2.ensures.worked

pub returns-clause-excluded : goal.returns-clause-excluded
returns-clause-excluded g c = λ off v on. (
  c.exclude_each-2.ensures.worked.extends.kept c.args.dim c.args.u v c.args.first
      (c.exclude_each.ensures.excluded v on),
  c.exclude_each-2.ensures.excluded v on,
)

pub exclude_each-requires : goal.exclude_each-requires
exclude_each-requires g c = (
  omega (arith, c.requires.words.0.1),
  (c.requires.words, (c.requires.sizes, (c.requires.u, (c.requires.other, λ v on. (c.requires.follows v on).0)))),
)

pub exclude_each-requires-2 : goal.exclude_each-requires-2
exclude_each-requires-2 g c = (
  omega (arith, c.requires.words.0.1),
  (
    c.requires.words,
    (
      sizes_worked _ _ _ _ _ _ c.exclude_each.ensures.worked c.requires.sizes,
      (
        c.requires.u,
        (
          c.requires.other,
          λ v on. follows_more c.args.instance.now _ _ c.exclude_each.ensures.worked.extends.kept c.args.dim c.args.u v
              c.args.second (c.requires.follows v on).1,
        ),
      ),
    ),
  ),
)
