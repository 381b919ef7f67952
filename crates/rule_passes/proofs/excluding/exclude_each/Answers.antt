use Rattle.std.proofs.Common.{sym, ◌∙◌, arith}
use Rattle.std.proofs.lemmas.Bool.{and_parts}
use Rattle.packing_terms.specs.Packing.{box_count}
use Rattle.edge_state.specs.BitRows.{row_has}
use Rattle.edge_state.proofs.Worked.{worked_none}
use Rattle.rule_passes.proofs.RowStates.{row_worked, row_all_shut, row_none_left}
use Rattle.rule_passes.proofs.excluding.exclude_each.Goals as goal

pub returns-then-is_empty-clause-worked : goal.returns-then-is_empty-clause-worked
returns-then-is_empty-clause-worked g c = worked_none c.args.instance.now _ _ (λ rule none. absurd none)

pub returns-then-is_empty-clause-excluded : goal.returns-then-is_empty-clause-excluded
returns-then-is_empty-clause-excluded g c =
    row_none_left (box_count c.args.instance.now) c.args.dim c.args.u c.args.rel c.args.state.now.trail
    (row_has c.args.row) (row_has c.row_in-open.result) (row_has c.and-left.result) c.requires.other
    (rw c.requires.sizes.same_boxes at c.row_in-open.ensures) c.and-left.ensures
    (c.is_empty.ensures.none c.if-is_empty.true)

pub returns-clause-worked : goal.returns-clause-worked
returns-clause-worked g c =
    row_worked c.args.instance.now _ _ c.args.dim c.args.u c.args.rel (row_has c.and-left.result)
    c.exclude_row.result c.exclude_row.ensures.state c.requires.sizes c.requires.u
    (λ v on. c.requires.other v (and_parts _ _ (sym (c.and-left.ensures v) ∙ on)).0)
    (λ v on. c.requires.follows v (and_parts _ _ (sym (c.and-left.ensures v) ∙ on)).0)
    c.exclude_row.ensures.empty

pub returns-clause-excluded : goal.returns-clause-excluded
returns-clause-excluded g c = λ v on.
    rw c.exclude_row.ensures.state
    (rw c.requires.sizes.same_boxes
    (row_all_shut (box_count c.args.instance.now) c.args.dim c.args.u c.args.rel c.args.state.now.trail
    (row_has c.args.row) (row_has c.row_in-open.result) (row_has c.and-left.result) c.requires.other
    (rw c.requires.sizes.same_boxes at c.row_in-open.ensures) c.and-left.ensures v on))

pub exclude_row-requires : goal.exclude_row-requires
exclude_row-requires g c = (
  omega (arith, c.requires.words.0.1),
  (
    rw c.requires.sizes.same_boxes c.requires.words,
    (
      rw c.requires.sizes.same_dims c.requires.sizes.there,
      (
        rw c.requires.sizes.same_boxes c.requires.u,
        λ v on. rw c.requires.sizes.same_boxes
            (c.requires.other v (and_parts _ _ (sym (c.and-left.ensures v) ∙ on)).0),
      ),
    ),
  ),
)
