use Rattle.work_share.specs.Outcomes.{plain_outcome}
use Rattle.tree_terms.specs.OuterTrees.{set_verdict}
use Rattle.set_search.proofs.Memories.{recalled_right, recalled_within}
use Rattle.set_search.proofs.search.SetSearch.decide_by.Goals as goal

pub returns-in-Some-clause-outcome : goal.returns-in-Some-clause-outcome
returns-in-Some-clause-outcome c =
    let found = rw c.in-Some.is at c.in_ok-outcome.ensures in
    found c.args.keep.now c.requires.boxes c.requires.set

pub returns-in-Some-clause-right : goal.returns-in-Some-clause-right
returns-in-Some-clause-right c =
    let v = c.self.view_is in
    rw (← v) (recalled_right c.self.inside.whole.now c.self.inside.scales c.args.keep.now c.args.budget
    (plain_outcome c.in-Some.outcome)
    c.len-limits.ensures.limits (rw (← v) at c.requires.set) c.requires.some
    (rw (← v) at (returns-in-Some-clause-outcome c)))

pub keep_found-requires-clause-found : goal.keep_found-requires-clause-found
keep_found-requires-clause-found c = rw c.in_ok-outcome-2.ensures.same c.in_ok-outcome-2.ensures.outcome

pub returns-clause-outcome : goal.returns-clause-outcome
returns-clause-outcome c =
    recalled_within c.reach_of-reach.result c.args.budget
    (set_verdict c.args.self.now.instance c.args.self.now.scales c.args.keep.now)
    (plain_outcome c.in_ok-outcome-2.outcome) (plain_outcome c.capped_outcome.result)
    c.reach_of-reach.ensures c.in_ok-outcome-2.ensures.outcome c.capped_outcome.ensures

pub returns-clause-right : goal.returns-clause-right
returns-clause-right c =
    let v = c.self.view_is in
    rw (← v) (recalled_right c.self.inside.whole.now c.self.inside.scales c.args.keep.now c.args.budget
    (plain_outcome c.capped_outcome.result)
    c.len-limits.ensures.limits (rw (← v) at c.requires.set) c.requires.some
    (rw (← v) at (returns-clause-outcome c)))
