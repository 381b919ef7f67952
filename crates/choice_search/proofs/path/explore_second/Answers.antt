use Rattle.std.proofs.Common.{◌+◌, ℕ, List, sym, subst, arith}
use Rattle.tree_terms.specs.Trees.{outcome}
use Rattle.tree_terms.proofs.UnderBudget.{over_budget}
use Rattle.set_search.proofs.Sets.{box_set}
use Rattle.choice_search.specs.Choices.{PlainChoiceTree, IsChosen}
use Rattle.choice_search.specs.Paths.{child_tree}
use Rattle.choice_search.proofs.Children.{second_chosen, second_past}
use Rattle.choice_search.proofs.path.explore_second.Goals as goal

pub returns-then-cap-eq0 : goal.returns-then-cap-eq0
returns-then-cap-eq0 c =
    let t : PlainChoiceTree = record {
      instance = c.args.instance.now;
      goal = c.args.value;
      scales = c.args.search.now.scales;
    } in
    let p = second_past t c.args.above.decided c.args.above.taken.items c.requires.above in
    sym (over_budget c.args.cap (outcome (child_tree t c.args.above.decided c.args.above.taken.items 1))
    (omega (arith, p, c.if-cap-eq0.true)))

pub class_answer-requires-clause-set : goal.class_answer-requires-clause-set
class_answer-requires-clause-set c =
    rw (c.requires.search, c.deref.ensures.value)
    (box_set c.args.instance.now c.args.above.taken.items c.requires.above.chosen.boxes
    c.requires.above.chosen.rising)

pub walk-requires-clause-node : goal.walk-requires-clause-node
walk-requires-clause-node c =
    let t : PlainChoiceTree = record {
      instance = c.args.instance.now;
      goal = c.args.value;
      scales = c.args.search.now.scales;
    } in
    let e = rw (c.requires.search, c.deref.ensures.value) at c.in_ok-numbers.ensures.value in
    subst (λ (ns : List ℕ). IsChosen c.args.instance.now (c.args.above.decided + 1) c.args.above.taken.items ns) (sym e)
    (second_chosen t c.args.above.decided c.args.above.taken.items c.requires.above)
