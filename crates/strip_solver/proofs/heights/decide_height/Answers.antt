use Rattle.std.proofs.Common.{◌≡◌, ◌∙◌, arith, sym, ap, subst, [], IfSome}
use Rattle.packing_terms.specs.Packing.{PlainInstance}
use Rattle.packing_terms.specs.Exclusions.{AreAtEdges}
use Rattle.tree_terms.specs.Trees.{outcome, under_budget}
use Rattle.tree_terms.specs.ClassTree.{class_tree}
use Rattle.tree_terms.specs.Levels.{level_by}
use Rattle.tree_terms.proofs.Optima.{stack_small}
use Rattle.class_search.specs.Deciders.{decider_of}
use Rattle.strip_solver.proofs.Raised.{same_decider}
use Rattle.strip_solver.proofs.heights.decide_height.Goals as goal

pub with_last_side-requires : goal.with_last_side-requires
with_last_side-requires g c =
    let s = stack_small c.args.instance.now c.len-limits.ensures.limits in
    let b = c.requires.below in
    omega (arith, s, b)

pub decide_tall-requires-clause-edges : goal.decide_tall-requires-clause-edges
decide_tall-requires-clause-edges g c κs within =
    subst (λ (i : PlainInstance). AreAtEdges i c.args.start.now) (sym c.in_ok-tall.ensures)
    (c.requires.edges c.args.height)

pub decide_tall-requires-clause-ready : goal.decide_tall-requires-clause-ready
decide_tall-requires-clause-ready g c κs within =
    subst (λ e. IfSome c.args.decider.now (λ d. (d ≡ e) × (c.args.start.now ≡ [])))
    (sym (same_decider c.args.instance.now c.args.height) ∙ ap decider_of (sym c.in_ok-tall.ensures)) c.requires.ready

pub returns-clause-answer : goal.returns-clause-answer
returns-clause-answer g c =
    c.level_of.ensures
    ∙ ap level_by (c.in_ok-outcome.ensures.outcome
    ∙ ap (λ (i : PlainInstance). under_budget c.args.settings.now.budget
    (outcome (class_tree i c.args.start.now c.args.settings.now.scales))) c.in_ok-tall.ensures)
