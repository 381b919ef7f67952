use Rattle.std.proofs.Common.{◌≡◌, ℕ, List, Option, Some, None, Result, Ok, Err}
use Rattle.std.specs.Prelude.{IfOk, IfSome}
use Rattle.packing_terms.specs.Goals.{IsBoxSet}
use Rattle.proof_tree.specs.declared.outcome.Outcome.{Outcome}
use Rattle.tree_terms.specs.Trees.{under_budget}
use Rattle.tree_terms.specs.OuterTrees.{set_verdict}
use Rattle.work_share.specs.Outcomes.{plain_outcome}
use Rattle.set_search.specs.Memories.{HasBoxes, IsRecalled}
use Rattle.set_search.proofs.Memories.{recalled}
use Rattle.set_search.proofs.known.KnownSets.recall.Goals as goal

pub returns : goal.returns
returns c = rw (← c.self.view_is) (go c.recall.result c.recall.ensures)
  where
    go : {E : Type 0} (r : Result (Option Outcome) E)
        → IfOk r (λ found. IfSome found
        (λ o. IsRecalled c.self.inside.memory c.args.key.now.boxes c.args.budget (plain_outcome o)))
        → IfOk r (λ found. IfSome found (λ o. (keep : List ℕ) → HasBoxes c.args.key.now.boxes keep
        → IsBoxSet c.self.inside.whole.now keep
        → plain_outcome o ≡ under_budget c.args.budget (set_verdict c.self.inside.whole.now c.self.inside.scales keep)))
    go (Ok (Some o)) h = λ keep has set. recalled c.self.inside.whole.now c.self.inside.scales c.self.inside.memory
        c.args.key.now.boxes keep c.args.budget (plain_outcome o) c.self.invariant has set h
    go (Ok None) h = tt
    go (Err e) h = tt
