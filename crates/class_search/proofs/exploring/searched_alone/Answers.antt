use Rattle.std.proofs.Common.{ap, sym, ◌∙◌}
use Rattle.std.proofs.lemmas.Result.{IfOk-weaker}
use Rattle.packing_terms.proofs.Internal.{some_dimension}
use Rattle.tree_terms.specs.Trees.{outcome, under_budget}
use Rattle.class_search.proofs.Visited.{extends_grows, next_met, may_split}
use Rattle.class_search.proofs.exploring.searched_alone.Goals as goal

pub next_kind-node-requires-clause-divided : goal.next_kind-node-requires-clause-divided
next_kind-node-requires-clause-divided c =
    let instance = c.args.instance.now in
    may_split instance (some_dimension instance c.requires.limits) _ _ c.in-Passed.ensures.tested.closed

pub returns-in_ok-pairs-in-Passed-clause-outcome : goal.returns-in_ok-pairs-in-Passed-clause-outcome
returns-in_ok-pairs-in-Passed-clause-outcome c =
    let instance = c.args.instance.now in
    let passed = c.in-Passed.ensures.tested in
    let met = next_met instance (some_dimension instance c.requires.limits) _ _ c.next_kind-node.result
    (extends_grows instance _ _ passed.extends) passed.closed c.next_kind-node.ensures in
    let is = rw c.requires.full at (passed.is ∙ met.tree) in
    IfOk-weaker c.explored.result _ _ (λ r h. h ∙ ap (λ t. under_budget c.args.budget (outcome t)) (sym is))
    c.explored.ensures.outcome
