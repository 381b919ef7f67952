use Rattle.std.proofs.Common.{List, ℕ, IfOk, subst}
use Rattle.packing_terms.specs.Goals.{IsBoxSet}
use Rattle.tree_terms.specs.OuterTrees.{set_verdict}
use Rattle.set_search.specs.Memories.{HasBoxes, IsAppendedNo}
use Rattle.set_search.specs.Searches.{PlainSetSearch}
use Rattle.set_search.proofs.search.SetSearch.recall_refuted.Goals as goal

pub returns-in-Own-clause-appended : goal.returns-in-Own-clause-appended
returns-in-Own-clause-appended c =
    rw (← c.self.view_is)
    (subst (λ (s : PlainSetSearch). IfOk c.recall_refuted.result
    (λ found. (keep : List ℕ) → HasBoxes c.args.key.now.boxes keep → IsBoxSet s.instance keep
    → IsAppendedNo (set_verdict s.instance s.scales keep) c.args.budget c.args.bin c.args.tokens.now
    c.recall_refuted.new.tokens found)) c.self.invariant.1 c.recall_refuted.ensures.appended)

pub returns-in-Shared-clause-appended : goal.returns-in-Shared-clause-appended
returns-in-Shared-clause-appended c = rw (← c.self.view_is) c.recall_refuted-in-Shared.ensures.appended
