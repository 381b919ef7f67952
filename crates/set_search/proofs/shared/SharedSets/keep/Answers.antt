use Rattle.std.proofs.Common.{◌≡◌, sym, subst}
use Rattle.tree_terms.specs.Trees.{under_budget}
use Rattle.tree_terms.specs.OuterTrees.{set_verdict}
use Rattle.work_share.specs.Outcomes.{plain_outcome}
use Rattle.set_search.specs.Searches.{PlainSetSearch}
use Rattle.set_search.proofs.shared.SharedSets.keep.Goals as goal

pub keep-requires-clause-found : goal.keep-requires-clause-found
keep-requires-clause-found c =
    subst (λ (s : PlainSetSearch). plain_outcome c.args.found.now
    ≡ under_budget c.args.budget (set_verdict s.instance s.scales c.args.keep.now))
    (sym (c.are_of.ensures c.if-are_of.true)) c.requires.found
