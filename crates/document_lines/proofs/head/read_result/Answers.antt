use Rattle.std.proofs.Common.{◌∙◌, sym}
use Rattle.verdict_terms.specs.Stages.{rest_of}
use Rattle.document_lines.proofs.Ranged.{claim_ranged}
use Rattle.document_lines.proofs.head.read_result.Goals as goal

pub returns-clause-ranged : goal.returns-clause-ranged
returns-clause-ranged c =
    claim_ranged c.args.job c.in-Ok.instance (rest_of c.args.line.now.held.words) c.in_ok-claim.claim
    (sym c.read_claim.ensures ∙ c.in_ok-claim.was)
