use Rattle.std.proofs.Common.{sym, subst, []}
use Rattle.packing_terms.specs.Packing.{PlainInstance}
use Rattle.tree_terms.specs.Levels.{PlainLevel}
use Rattle.work_share.specs.Outcomes.{plain_outcome}
use Rattle.class_search.specs.Right.{IsRight}
use Rattle.proposed_answers.specs.Heights.{IsPastTree, IsHeightAnswer}
use Rattle.proposed_answers.proofs.Strips.{height_answered}
use Rattle.proposed_answers.proofs.heights.decide_height.Goals as goal

pub returns : goal.returns
returns g c =
    let o = plain_outcome c.in_ok-outcome.outcome in
    subst (λ (l : PlainLevel). IsHeightAnswer c.args.instance.now c.args.settings.now c.args.effort c.args.height l)
    (sym c.level_of.ensures)
    (height_answered c.args.instance.now c.args.settings.now c.args.effort c.args.height o
    (subst (λ (i : PlainInstance). IsRight i [] o) c.in_ok-tall.ensures c.in_ok-outcome.ensures.right)
    (λ e. subst (λ (i : PlainInstance). IsPastTree i c.args.settings.now c.args.effort) c.in_ok-tall.ensures
    (c.in_ok-outcome.ensures.past e)))
