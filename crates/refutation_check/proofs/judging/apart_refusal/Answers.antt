use Rattle.std.proofs.Common.{◌∙◌, sym, None}
use Rattle.packing_terms.specs.Tokens.PlainToken.{Apart as PlainApart}
use Rattle.verdict_terms.specs.declared.check_answers.RefuseCode.TheVariants.{Range, Choice}
use Rattle.refutation_check.specs.Nodes.{node_exclusions}
use Rattle.verdict_terms.proofs.Judged.{unless_true, unless_false}
use Rattle.refutation_check.proofs.Judged.{no_part, part_told, judged_entered}
use Rattle.refutation_check.proofs.judging.apart_refusal.Goals as goal

pub returns-then-enter-clause-judged : goal.returns-then-enter-clause-judged
returns-then-enter-clause-judged c =
    judged_entered _ _ _ _ _ (PlainApart c.args.dim c.args.u c.args.v) c.enter.result c.requires.over.mark
    c.enter.ensures.extends c.enter.ensures.ended
    (λ A e. unless_false _ Choice None
    (no_part c.args.instance.now (node_exclusions c.args.node A) _ c.args.dim c.args.u c.args.v c.enter.result
    c.if-enter.true e)
    ∙ unless_true _ Range _ (sym c.names_pair.ensures ∙ c.if-not-names_pair.false))
    (λ e s. absurd (cc (e)))

pub returns-then-may_part-clause-judged : goal.returns-then-may_part-clause-judged
returns-then-may_part-clause-judged c =
    judged_entered _ _ _ _ _ (PlainApart c.args.dim c.args.u c.args.v) c.enter.result c.requires.over.mark
    c.enter.ensures.extends c.enter.ensures.ended
    (λ A e. unless_true _ Choice None
    (part_told c.args.instance.now (node_exclusions c.args.node A) _ c.args.dim c.args.u c.args.v c.mask-mask.result
    c.enter.result c.if-enter.false e c.mask-mask.ensures ∙ (sym c.may_part.ensures ∙ c.if-may_part.true))
    ∙ unless_true _ Range _ (sym c.names_pair.ensures ∙ c.if-not-names_pair.false))
    (λ e s. c.if-enter.false)

pub returns-else-may_part-clause-judged : goal.returns-else-may_part-clause-judged
returns-else-may_part-clause-judged c =
    judged_entered _ _ _ _ _ (PlainApart c.args.dim c.args.u c.args.v) c.enter.result c.requires.over.mark
    c.enter.ensures.extends c.enter.ensures.ended
    (λ A e. unless_false _ Choice None
    (part_told c.args.instance.now (node_exclusions c.args.node A) _ c.args.dim c.args.u c.args.v c.mask-mask.result
    c.enter.result c.if-enter.false e c.mask-mask.ensures ∙ (sym c.may_part.ensures ∙ c.if-may_part.false))
    ∙ unless_true _ Range _ (sym c.names_pair.ensures ∙ c.if-not-names_pair.false))
    (λ e s. absurd (cc (e)))
