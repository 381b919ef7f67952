use Rattle.std.proofs.Common.{◌≡◌, List, ℕ, IfOk, IfSome, subst}
use Rattle.packing_terms.specs.Goals.{IsBoxSet}
use Rattle.tree_terms.specs.Trees.{under_budget}
use Rattle.tree_terms.specs.OuterTrees.{set_verdict}
use Rattle.work_share.specs.Outcomes.{plain_outcome}
use Rattle.set_search.specs.Memories.{HasBoxes}
use Rattle.set_search.specs.Searches.{PlainSetSearch}
use Rattle.set_search.proofs.search.SetSearch.recall.Goals as goal

pub returns-in-Own : goal.returns-in-Own
returns-in-Own c =
    rw (← c.self.view_is)
    (subst (λ (s : PlainSetSearch). IfOk c.recall.result
    (λ found. IfSome found (λ r. (keep : List ℕ) → HasBoxes c.args.key.now.boxes keep → IsBoxSet s.instance keep
    → plain_outcome r ≡ under_budget c.args.budget (set_verdict s.instance s.scales keep)))) c.self.invariant.1
    c.recall.ensures)

pub returns-in-Shared : goal.returns-in-Shared
returns-in-Shared c = rw (← c.self.view_is) c.recall-in-Shared.ensures
