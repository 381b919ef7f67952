use Rattle.std.proofs.Common.{List, ℕ, IfOk, subst}
use Rattle.packing_terms.specs.Goals.{IsBoxSet}
use Rattle.tree_terms.specs.OuterTrees.{set_verdict}
use Rattle.set_search.specs.Memories.{HasBoxes, IsAppendedNo}
use Rattle.set_search.specs.Searches.{PlainSetSearch}
use Rattle.set_search.proofs.shared.SharedSets.recall_refuted.Goals as goal

pub returns-clause-appended : goal.returns-clause-appended
returns-clause-appended c =
    subst (λ (s : PlainSetSearch). IfOk c.recall_refuted.result
    (λ found. (keep : List ℕ) → HasBoxes c.args.key.now.boxes keep → IsBoxSet s.instance keep
    → IsAppendedNo (set_verdict s.instance s.scales keep) c.args.budget c.args.bin c.args.tokens.now
    c.recall_refuted.new.tokens found)) (c.are_of.ensures c.if-not-are_of.false) c.recall_refuted.ensures.appended
