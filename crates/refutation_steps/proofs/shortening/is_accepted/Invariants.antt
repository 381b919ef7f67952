use Rattle.std.proofs.Common.{◌≡◌, drop}
use Rattle.verdict_terms.specs.Auditing.{starting}
use Rattle.refutation_steps.proofs.Shorter.{run}
use Rattle.refutation_steps.proofs.shortening.is_accepted.Given as goal

abbrev pub invariant-loop-k : goal.invariant-loop-k
invariant-loop-k l =
    record {
      same : l.auditor.instance ≡ l.instance;
      rest : run l.instance l.auditor.audited (drop l.k l.lines) ≡ run l.instance starting l.lines;
    }
