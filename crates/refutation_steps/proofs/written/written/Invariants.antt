use Rattle.std.proofs.Common.{◌≡◌, take}
use Rattle.verdict_terms.specs.Steps.{tokens_among}
use Rattle.proof_tree.specs.Plain.{plain_tokens}
use Rattle.refutation_steps.proofs.written.written.Given as goal

abbrev pub invariant-loop-at : goal.invariant-loop-at
invariant-loop-at l = tokens_among l.lines ≡ take l.at (plain_tokens l.tokens)
