use Rattle.std.proofs.Common.{◌≡◌, sym, subst}
use Rattle.tree_terms.specs.Trees.{under_budget}
use Rattle.tree_terms.specs.OuterTrees.{set_verdict}
use Rattle.work_share.specs.Outcomes.{plain_outcome}
use Rattle.set_search.specs.Searches.{PlainSetSearch}
use Rattle.set_search.proofs.search.SetSearch.keep_found.Goals as goal

pub keep-requires-clause-found : goal.keep-requires-clause-found
keep-requires-clause-found c =
    let v = c.self.view_is in
    subst (λ (s : PlainSetSearch). plain_outcome c.args.found.now
    ≡ under_budget c.args.budget (set_verdict s.instance s.scales c.args.keep.now)) (sym c.self.invariant.1)
    (rw (← v) at c.requires.found)

pub keep-requires-then-self-clause-found : goal.keep-requires-then-self-clause-found
keep-requires-then-self-clause-found c =
    let v = c.self.view_is in
    rw (← v) at c.requires.found
