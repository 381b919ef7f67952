use Rattle.std.proofs.Common.{◌<◌, sym, subst}
use Rattle.packing_terms.specs.Limits.{max_height}
use Rattle.level_search.specs.Runs.{plain_level}
use Rattle.level_search.specs.Bounds.{PlainBounds, plain_bounds, levels_left}
use Rattle.level_search.proofs.Narrowing.{step}
use Rattle.proposed_answers.specs.Heights.{IsPackedAt, IsRefutedAt, IsPastHeight, AreHeightBounds}
use Rattle.proposed_answers.proofs.heights.narrow_heights.Goals as goal

pub loop-level-preserved : goal.loop-level-preserved
loop-level-preserved g c =
    subst (λ (b : PlainBounds). AreHeightBounds c.args.instance.now c.args.settings.now c.args.effort b)
    (sym c.after-bounds.ensures)
    (step (IsPackedAt c.args.instance.now) (IsRefutedAt c.args.instance.now)
    (IsPastHeight c.args.instance.now c.args.settings.now c.args.effort) max_height
    (plain_bounds c.loop-level.bounds) c.loop-level.invariant c.in-Some.level (plain_level c.in_ok-answer.answer)
    c.in-Some.ensures.asked c.in_ok-answer.ensures).are

pub loop-level-smaller : goal.loop-level-smaller
loop-level-smaller g c =
    subst (λ (b : PlainBounds). levels_left b < levels_left (plain_bounds c.loop-level.bounds))
    (sym c.after-bounds.ensures)
    (step (IsPackedAt c.args.instance.now) (IsRefutedAt c.args.instance.now)
    (IsPastHeight c.args.instance.now c.args.settings.now c.args.effort) max_height
    (plain_bounds c.loop-level.bounds) c.loop-level.invariant c.in-Some.level (plain_level c.in_ok-answer.answer)
    c.in-Some.ensures.asked c.in_ok-answer.ensures).less
