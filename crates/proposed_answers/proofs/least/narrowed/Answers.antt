use Rattle.std.proofs.Common.{Bool, subst}
use Rattle.level_search.specs.Bounds.{plain_bounds}
use Rattle.proposed_answers.proofs.BinsAnswered.{bounds_true, bounds_named, bounds_limited, bounds_past, past_within}
use Rattle.proposed_answers.specs.Counts.{AreNeighboursPastBudget}
use Rattle.proposed_answers.proofs.least.narrowed.Goals as goal

pub returns-clause-right : goal.returns-clause-right
returns-clause-right g c =
    bounds_true c.args.instance.now c.len-limits.ensures.limits c.ample-ample.result (plain_bounds c.in_ok-bounds.bounds)
    c.in_ok-bounds.ensures.kept c.in_ok-bounds.ensures.narrow
    c.bins_of.result c.bins_of.ensures

pub returns-clause-named : goal.returns-clause-named
returns-clause-named g c =
    bounds_named c.args.instance.now c.len-limits.ensures.limits c.ample-ample.result
    (plain_bounds c.in_ok-bounds.bounds) c.in_ok-bounds.ensures.kept c.in_ok-bounds.ensures.narrow
    c.requires.small c.bins_of.result c.bins_of.ensures

pub returns-clause-limited : goal.returns-clause-limited
returns-clause-limited g c =
    bounds_limited c.args.instance.now c.len-limits.ensures.limits c.ample-ample.result
    (plain_bounds c.in_ok-bounds.bounds) c.in_ok-bounds.ensures.kept c.in_ok-bounds.ensures.narrow
    c.bins_of.result c.bins_of.ensures

pub returns-clause-past : goal.returns-clause-past
returns-clause-past g c =
    past_within c.args.instance.now c.args.settings.now.budget c.ample-ample.result.budget c.args.settings.now.scales
    c.ample-ample.ensures.budget c.bins_of.result
    (subst (λ (s : Bool). AreNeighboursPastBudget c.args.instance.now c.ample-ample.result.budget s c.bins_of.result)
    c.ample-ample.ensures.scales
    (bounds_past c.args.instance.now c.len-limits.ensures.limits c.ample-ample.result
    (plain_bounds c.in_ok-bounds.bounds) c.in_ok-bounds.ensures.kept c.in_ok-bounds.ensures.narrow
    c.bins_of.result c.bins_of.ensures))
