use Rattle.std.proofs.Common.{◌≡◌, pred, sym, subst, arith, ℕ}
use Rattle.level_search.specs.Runs.{plain_level}
use Rattle.level_search.specs.Bounds.{plain_bounds, IsAsked}
use Rattle.proposed_answers.proofs.ChoiceAnswered.{asked_step}
use Rattle.proposed_answers.proofs.values.ask_beside.Goals as goal

pub returns-clause-kept : goal.returns-clause-kept
returns-clause-kept g c =
    let e = c.saturating_sub-level.ensures in
    let beside : c.saturating_sub-level.result ≡ pred c.args.bounds.placed = omega (arith, e) in
    (asked_step c.args.instance.now c.args.settings.now (plain_bounds c.args.bounds) c.requires.bounds
    c.saturating_sub-level.result
    (subst (λ (k : ℕ). IsAsked (plain_bounds c.args.bounds) k) (sym beside) c.requires.asked)
    (plain_level c.in_ok-answer.answer) c.in_ok-answer.ensures.answer
    (plain_bounds c.after.result) c.after.ensures).0
