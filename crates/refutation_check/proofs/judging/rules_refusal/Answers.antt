use Rattle.std.proofs.Common.{◌∙◌, sym, None}
use Rattle.std.proofs.lemmas.Bool.{true≢false}
use Rattle.packing_terms.specs.Tokens.PlainToken.{Rules as PlainRules}
use Rattle.verdict_terms.specs.declared.check_answers.RefuseCode.TheVariants.{Conflict}
use Rattle.refutation_check.specs.Nodes.{node_exclusions}
use Rattle.verdict_terms.proofs.Judged.{unless_true, unless_false}
use Rattle.refutation_check.proofs.Judged.{conflict_told, judged_entered}
use Rattle.refutation_check.proofs.judging.rules_refusal.Goals as goal

pub returns-then-enter-clause-judged : goal.returns-then-enter-clause-judged
returns-then-enter-clause-judged c =
    judged_entered _ _ _ _ _ PlainRules c.enter.result c.requires.over.mark c.enter.ensures.extends
    c.enter.ensures.ended
    (λ A e. unless_true _ Conflict None
    (conflict_told c.args.instance.now (node_exclusions c.args.node A) _ c.enter.result e ∙ c.if-enter.true))
    (λ e s. absurd (true≢false (sym s)))

pub returns-clause-judged : goal.returns-clause-judged
returns-clause-judged c =
    judged_entered _ _ _ _ _ PlainRules c.enter.result c.requires.over.mark c.enter.ensures.extends
    c.enter.ensures.ended
    (λ A e. unless_false _ Conflict None
    (conflict_told c.args.instance.now (node_exclusions c.args.node A) _ c.enter.result e ∙ c.if-enter.false))
    (λ e s. absurd (cc (e)))
