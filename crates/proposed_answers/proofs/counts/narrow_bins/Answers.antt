use Rattle.std.proofs.Common.{◌<◌, ◌∙◌, sym, subst}
use Rattle.packing_terms.specs.Packing.{box_count}
use Rattle.packing_terms.specs.OuterRefutation.{IsBinRefutation}
use Rattle.tree_terms.specs.Levels.{PlainLevel}
use Rattle.tree_terms.specs.OuterSearch.{AreBinNumbers}
use Rattle.tree_terms.proofs.OuterDecisions.{bin_tree_right}
use Rattle.level_search.specs.Runs.{plain_level}
use Rattle.level_search.specs.Bounds.{PlainBounds, plain_bounds, levels_left}
use Rattle.level_search.proofs.Narrowing.{step}
use Rattle.proposed_answers.specs.Counts.{IsPastCount, IsBinsAnswer, AreBinBounds}
use Rattle.proposed_answers.proofs.BinsAnswered.{bins_answered}
use Rattle.proposed_answers.proofs.counts.narrow_bins.Goals as goal

pub loop-level-preserved : goal.loop-level-preserved
loop-level-preserved g c = record {
  bounds = subst (λ (b : PlainBounds). AreBinBounds c.args.instance.now c.args.settings.now b)
      (sym c.after-bounds.ensures)
      (step (AreBinNumbers c.args.instance.now) (IsBinRefutation c.args.instance.now)
      (IsPastCount c.args.instance.now c.args.settings.now) (box_count c.args.instance.now)
      (plain_bounds c.loop-level.bounds) c.loop-level.invariant.bounds c.in-Some.level
      (plain_level c.in_ok-answer.answer) c.in-Some.ensures.asked
      (subst (λ (a : PlainLevel). IsBinsAnswer c.args.instance.now c.args.settings.now c.in-Some.level a)
      (sym c.in_ok-answer.ensures.level)
      (bins_answered c.args.instance.now c.args.settings.now c.in-Some.level
      (bin_tree_right c.args.instance.now c.len-limits.ensures.limits c.in-Some.level
      c.args.settings.now.scales)))).are;
  search = c.in_ok-answer.ensures.same ∙ c.loop-level.invariant.search;
}

pub loop-level-smaller : goal.loop-level-smaller
loop-level-smaller g c =
    subst (λ (b : PlainBounds). levels_left b < levels_left (plain_bounds c.loop-level.bounds))
    (sym c.after-bounds.ensures)
    (step (AreBinNumbers c.args.instance.now) (IsBinRefutation c.args.instance.now)
    (IsPastCount c.args.instance.now c.args.settings.now) (box_count c.args.instance.now)
    (plain_bounds c.loop-level.bounds) c.loop-level.invariant.bounds c.in-Some.level
    (plain_level c.in_ok-answer.answer) c.in-Some.ensures.asked
    (subst (λ (a : PlainLevel). IsBinsAnswer c.args.instance.now c.args.settings.now c.in-Some.level a)
    (sym c.in_ok-answer.ensures.level)
    (bins_answered c.args.instance.now c.args.settings.now c.in-Some.level
    (bin_tree_right c.args.instance.now c.len-limits.ensures.limits c.in-Some.level
    c.args.settings.now.scales)))).less
