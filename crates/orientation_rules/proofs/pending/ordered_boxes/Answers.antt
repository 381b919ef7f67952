use Rattle.std.proofs.Common.{sym, ◌∙◌}
use Rattle.orientation_rules.proofs.OrderedPairs.{first_before, second_before, none_before}
use Rattle.orientation_rules.proofs.pending.ordered_boxes.Goals as goal

pub returns-then-bits-eq2 : goal.returns-then-bits-eq2
returns-then-bits-eq2 c =
    first_before _ _ c.args.left c.requires.left (sym c.bits.ensures.value ∙ c.if-bits-eq2.true)

pub returns-then-bits-eq4 : goal.returns-then-bits-eq4
returns-then-bits-eq4 c =
    second_before _ _ c.args.left c.requires.left (sym c.bits-2.ensures.value ∙ c.if-bits-eq4.true)

pub returns : goal.returns
returns c =
    none_before _ _ c.args.left c.requires.left (rw (← c.bits.ensures.value) c.bits.ensures.limit) c.requires.some
    (λ e. c.if-bits-eq2.false (c.bits.ensures.value ∙ e)) (λ e. c.if-bits-eq4.false (c.bits-2.ensures.value ∙ e))
