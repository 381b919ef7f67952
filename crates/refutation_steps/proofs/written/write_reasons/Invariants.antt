use Rattle.std.proofs.Common.{◌≡◌}
use Rattle.verdict_terms.specs.Steps.{tokens_among}
use Rattle.refutation_steps.proofs.written.write_reasons.Given as goal

abbrev pub invariant-loop-at : goal.invariant-loop-at
invariant-loop-at l = tokens_among l.lines ≡ tokens_among l.fn.lines
