use Rattle.std.proofs.Common.{refl}
use native.Mathlib.Numerals.{unary_clauses}
use Rattle.refutation_steps.proofs.Going.{on_ok}
use Rattle.refutation_steps.proofs.Heavy.{no_empty}
use Rattle.refutation_steps.proofs.Taken.{rules_show, rules_taken}
use Rattle.refutation_steps.proofs.taking.take_rules.Goals as goal

pub unreachable-requires : goal.unreachable-requires
unreachable-requires c =
    rules_show c.args.instance.now c.args.walk.now c.settle.new.walk c.args.closed c.settle.ensures.pending
    c.settle.ensures.extends c.in_ok-settle.field-0 c.requires.at.0
    c.in_ok-settle.ensures.settled c.requires.at.1
    (no_empty c.args.instance.now c.settle.new.walk.state c.in_ok-settle.ensures.sizes.same_dims
    c.in_ok-settle.ensures.sizes.same_boxes c.in_default.ensures)

pub returns : goal.returns
returns c = on_ok c.write_line.result
    (λ eq. rules_taken c.args.instance.now c.args.walk.now c.settle.new.walk c.args.closed c.settle.ensures.pending
    c.settle.ensures.extends _ c.in_ok-settle.field-0 c.in-Some.place
    c.in_ok-settle.ensures.sizes c.in_ok-settle.ensures.settled c.in-Some.ensures refl refl refl refl refl eq)
    (simp unary_clauses at c.write_line.ensures)
