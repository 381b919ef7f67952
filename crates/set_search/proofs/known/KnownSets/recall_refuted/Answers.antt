use Rattle.std.proofs.Common.{ℕ, List, Option, Result, Ok, Err}
use Rattle.std.specs.Prelude.{IfOk}
use Rattle.packing_terms.specs.Goals.{IsBoxSet}
use Rattle.packing_terms.specs.Tokens.{PlainToken}
use Rattle.tree_terms.specs.OuterTrees.{set_verdict}
use Rattle.set_search.specs.Memories.{HasBoxes, IsRecalledNo, IsAppendedNo}
use Rattle.set_search.proofs.Memories.{recalled_no}
use Rattle.set_search.proofs.known.KnownSets.recall_refuted.Goals as goal

pub returns-clause-appended : goal.returns-clause-appended
returns-clause-appended c = rw (← c.self.view_is) (go c.recall_refuted.result c.recall_refuted.ensures.found)
  where
    old : List PlainToken
    old = c.args.tokens.now

    new : List PlainToken
    new = c.recall_refuted.new.tokens

    go : {E : Type 0} (r : Result (Option ℕ) E)
        → IfOk r (λ found. IsRecalledNo c.self.inside.memory c.args.key.now.boxes c.args.budget c.args.bin old new found)
        → IfOk r (λ found. (keep : List ℕ) → HasBoxes c.args.key.now.boxes keep → IsBoxSet c.self.inside.whole.now keep
        → IsAppendedNo (set_verdict c.self.inside.whole.now c.self.inside.scales keep) c.args.budget c.args.bin old new found)
    go (Ok found) h = λ keep has set. recalled_no c.self.inside.whole.now c.self.inside.scales c.self.inside.memory
        c.args.key.now.boxes keep c.args.budget c.args.bin old new found c.self.invariant has set h
    go (Err e) h = tt
