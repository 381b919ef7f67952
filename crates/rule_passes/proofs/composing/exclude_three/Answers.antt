use Rattle.std.proofs.Common.{arith}
use Rattle.packing_terms.specs.declared.Rel.TheVariants.{Overlap, Before, After}
use Rattle.packing_terms.proofs.Monotone.{follows_more}
use Rattle.edge_state.proofs.Worked.{worked_kept, worked_lost, worked_lost_first, sizes_worked}
use Rattle.rule_passes.specs.Reached.{NoRule}
use Rattle.rule_passes.proofs.RowRules.{none_then}
use Rattle.rule_passes.proofs.composing.exclude_three.Goals as goal

pub returns-then-exclude_each-clause-worked : goal.returns-then-exclude_each-clause-worked
returns-then-exclude_each-clause-worked g c =
    worked_lost_first _ _ _ _ _ _ c.if-exclude_each.true c.exclude_each.ensures.worked

pub returns-then-exclude_each-2-clause-worked : goal.returns-then-exclude_each-2-clause-worked
returns-then-exclude_each-2-clause-worked g c =
    worked_lost _ _ _ _ _ NoRule NoRule NoRule c.if-exclude_each-2.true
    (worked_kept _ _ _ _ NoRule c.if-exclude_each.false c.exclude_each.ensures.worked) c.exclude_each-2.ensures.worked

pub returns-clause-worked : goal.returns-clause-worked
returns-clause-worked g c =
    none_then c.args.instance.now _ _ _ _
    (none_then c.args.instance.now _ _ _ _
    (worked_kept _ _ _ _ NoRule c.if-exclude_each.false c.exclude_each.ensures.worked)
    (worked_kept _ _ _ _ NoRule c.if-exclude_each-2.false c.exclude_each-2.ensures.worked))
    c.exclude_each-3.ensures.worked

pub returns-clause-overlap : goal.returns-clause-overlap
returns-clause-overlap g c = λ e x on.
    c.exclude_each-3.ensures.worked.extends.kept c.args.dim c.args.u x Overlap
    (c.exclude_each-2.ensures.worked.extends.kept c.args.dim c.args.u x Overlap (c.exclude_each.ensures.excluded x on))

pub returns-clause-before : goal.returns-clause-before
returns-clause-before g c = λ e x on.
    c.exclude_each-3.ensures.worked.extends.kept c.args.dim c.args.u x Before (c.exclude_each-2.ensures.excluded x on)

pub returns-clause-after : goal.returns-clause-after
returns-clause-after g c = λ e x on. c.exclude_each-3.ensures.excluded x on

pub exclude_each-requires : goal.exclude_each-requires
exclude_each-requires g c = (
  omega (arith, c.requires.words.0.1),
  (
    c.requires.words,
    (
      c.requires.sizes,
      (c.requires.u, (λ x on. (c.requires.overlap x on).0, λ x on. (c.requires.overlap x on).1)),
    ),
  ),
)

pub exclude_each-requires-2 : goal.exclude_each-requires-2
exclude_each-requires-2 g c = (
  omega (arith, c.requires.words.0.1),
  (
    c.requires.words,
    (
      sizes_worked _ _ _ _ _ _ c.exclude_each.ensures.worked c.requires.sizes,
      (
        c.requires.u,
        (
          λ x on. (c.requires.before x on).0,
          λ x on. follows_more c.args.instance.now _ _ c.exclude_each.ensures.worked.extends.kept c.args.dim c.args.u x
              Before (c.requires.before x on).1,
        ),
      ),
    ),
  ),
)

pub exclude_each-requires-3 : goal.exclude_each-requires-3
exclude_each-requires-3 g c = (
  omega (arith, c.requires.words.0.1),
  (
    c.requires.words,
    (
      sizes_worked _ _ _ _ _ _ c.exclude_each-2.ensures.worked
          (sizes_worked _ _ _ _ _ _ c.exclude_each.ensures.worked c.requires.sizes),
      (
        c.requires.u,
        (
          λ x on. (c.requires.after x on).0,
          λ x on. follows_more c.args.instance.now _ _ c.exclude_each-2.ensures.worked.extends.kept c.args.dim c.args.u x
              After (follows_more c.args.instance.now _ _ c.exclude_each.ensures.worked.extends.kept c.args.dim c.args.u x
              After (c.requires.after x on).1),
        ),
      ),
    ),
  ),
)
