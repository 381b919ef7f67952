use Rattle.std.proofs.Common.{◌∙◌, sym, ap, subst}
use Rattle.tree_terms.specs.Levels.{PlainReached}
use Rattle.answer_terms.specs.BoundedAnswers.{BoundedAnswer, IsBoundedAnswer}
use Rattle.bounded_answers.specs.ValueLevels.{reached_levels}
use Rattle.bounded_answers.proofs.ValueBases.{first_levels}
use Rattle.bounded_answers.proofs.first_values.widest.Goals as goal

pub returns : goal.returns
returns c =
    subst (λ (a : BoundedAnswer). IsBoundedAnswer c.args.instance.now a)
    (sym (c.levels_of.ensures ∙ ap (λ (r : PlainReached). reached_levels r) c.in_ok-first.ensures))
    (first_levels c.args.instance.now c.len-limits.ensures.limits)
