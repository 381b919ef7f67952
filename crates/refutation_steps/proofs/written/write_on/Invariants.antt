use Rattle.std.proofs.Common.{◌≡◌}
use Rattle.verdict_terms.specs.Steps.{tokens_among}
use Rattle.refutation_steps.proofs.written.write_on.Given as goal

abbrev pub invariant-loop-k : goal.invariant-loop-k
invariant-loop-k l = tokens_among l.lines ≡ tokens_among l.fn.lines
