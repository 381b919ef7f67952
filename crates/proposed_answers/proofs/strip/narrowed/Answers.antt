use Rattle.level_search.specs.Bounds.{plain_bounds}
use Rattle.proposed_answers.proofs.Strips.{bounds_true, bounds_named, bounds_past}
use Rattle.proposed_answers.proofs.strip.narrowed.Goals as goal

pub returns-clause-right : goal.returns-clause-right
returns-clause-right g c =
    bounds_true c.args.instance.now c.len-limits.ensures.limits c.args.settings.now (plain_bounds c.in_ok-bounds.bounds)
    c.in_ok-bounds.ensures.kept c.in_ok-bounds.ensures.narrow
    c.strip_of.result c.strip_of.ensures

pub returns-clause-named : goal.returns-clause-named
returns-clause-named g c =
    bounds_named c.args.instance.now c.len-limits.ensures.limits c.args.settings.now
    (plain_bounds c.in_ok-bounds.bounds) c.in_ok-bounds.ensures.kept c.in_ok-bounds.ensures.narrow
    c.requires.narrow c.strip_of.result c.strip_of.ensures

pub returns-clause-past : goal.returns-clause-past
returns-clause-past g c =
    bounds_past c.args.instance.now c.len-limits.ensures.limits c.args.settings.now (plain_bounds c.in_ok-bounds.bounds)
    c.in_ok-bounds.ensures.kept c.in_ok-bounds.ensures.narrow
    c.strip_of.result c.strip_of.ensures
