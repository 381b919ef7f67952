use Rattle.std.proofs.Common.{◌∙◌, sym, None}
use Rattle.packing_terms.specs.Tokens.PlainToken.{Order as PlainOrder}
use Rattle.verdict_terms.specs.declared.check_answers.RefuseCode.TheVariants.{Range, Choice}
use Rattle.refutation_check.specs.Nodes.{node_exclusions}
use Rattle.verdict_terms.proofs.Judged.{unless_true, unless_false}
use Rattle.refutation_check.proofs.Judged.{no_order, order_told, judged_entered}
use Rattle.refutation_check.proofs.judging.order_refusal.Goals as goal

pub returns-then-enter-clause-judged : goal.returns-then-enter-clause-judged
returns-then-enter-clause-judged c =
    judged_entered _ _ _ _ _ (PlainOrder c.args.dim c.args.u c.args.v) c.enter.result c.requires.over.mark
    c.enter.ensures.extends c.enter.ensures.ended
    (λ A e. unless_false _ Choice None
    (no_order c.args.instance.now (node_exclusions c.args.node A) _ c.args.dim c.args.u c.args.v c.enter.result
    c.if-enter.true e)
    ∙ unless_true _ Range _ (sym c.names_pair.ensures ∙ c.if-not-names_pair.false))
    (λ e s. absurd (cc (e)))

pub returns-then-may_order-clause-judged : goal.returns-then-may_order-clause-judged
returns-then-may_order-clause-judged c =
    judged_entered _ _ _ _ _ (PlainOrder c.args.dim c.args.u c.args.v) c.enter.result c.requires.over.mark
    c.enter.ensures.extends c.enter.ensures.ended
    (λ A e. unless_true _ Choice None
    (order_told c.args.instance.now (node_exclusions c.args.node A) _ c.args.dim c.args.u c.args.v
    c.mask-mask.result c.enter.result c.if-enter.false e c.mask-mask.ensures
    ∙ (sym c.may_order.ensures ∙ c.if-may_order.true))
    ∙ unless_true _ Range _ (sym c.names_pair.ensures ∙ c.if-not-names_pair.false))
    (λ e s. c.if-enter.false)

pub returns-else-may_order-clause-judged : goal.returns-else-may_order-clause-judged
returns-else-may_order-clause-judged c =
    judged_entered _ _ _ _ _ (PlainOrder c.args.dim c.args.u c.args.v) c.enter.result c.requires.over.mark
    c.enter.ensures.extends c.enter.ensures.ended
    (λ A e. unless_false _ Choice None
    (order_told c.args.instance.now (node_exclusions c.args.node A) _ c.args.dim c.args.u c.args.v
    c.mask-mask.result c.enter.result c.if-enter.false e c.mask-mask.ensures
    ∙ (sym c.may_order.ensures ∙ c.if-may_order.false))
    ∙ unless_true _ Range _ (sym c.names_pair.ensures ∙ c.if-not-names_pair.false))
    (λ e s. absurd (cc (e)))
