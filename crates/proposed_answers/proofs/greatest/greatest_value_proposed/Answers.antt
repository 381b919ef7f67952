use Rattle.std.proofs.Common.{sym, subst}
use Rattle.level_search.specs.Runs.{plain_reached}
use Rattle.level_search.specs.Bounds.{PlainBounds, plain_bounds}
use Rattle.proposed_answers.specs.Values.{AreValueBounds}
use Rattle.proposed_answers.proofs.ChoiceAnswered.{start_bounds, bounds_true, bounds_limited, bounds_past}
use Rattle.proposed_answers.proofs.greatest.greatest_value_proposed.Goals as goal

pub narrow_values-requires-clause-bounds : goal.narrow_values-requires-clause-bounds
narrow_values-requires-clause-bounds g c κs within =
    subst (λ (b : PlainBounds). AreValueBounds c.args.instance.now c.args.settings.now b) (sym c.new-start.ensures)
    (start_bounds c.args.instance.now c.len-limits.ensures.limits c.args.settings.now
    (plain_reached c.in_ok-first.first) c.in_ok-first.ensures)

pub returns-clause-right : goal.returns-clause-right
returns-clause-right g c =
    bounds_true c.args.instance.now c.len-limits.ensures.limits c.args.settings.now (plain_bounds c.in_ok-bounds.bounds)
    c.in_ok-bounds.ensures.kept
    c.in_ok-bounds.ensures.narrow c.choice_of.result c.choice_of.ensures

pub returns-clause-limited : goal.returns-clause-limited
returns-clause-limited g c =
    bounds_limited c.args.instance.now c.len-limits.ensures.limits c.args.settings.now
    (plain_bounds c.in_ok-bounds.bounds) c.in_ok-bounds.ensures.kept
    c.in_ok-bounds.ensures.narrow c.choice_of.result c.choice_of.ensures

pub returns-clause-past : goal.returns-clause-past
returns-clause-past g c =
    bounds_past c.args.instance.now c.len-limits.ensures.limits c.args.settings.now (plain_bounds c.in_ok-bounds.bounds)
    c.in_ok-bounds.ensures.kept
    c.in_ok-bounds.ensures.narrow c.choice_of.result c.choice_of.ensures
