use Rattle.verdict_terms.specs.FrontDocumentVerdicts.{Ended}
use Rattle.document_audits.specs.FrontAudits.{claim_of}
use Rattle.document_audits.proofs.front_steps.read_rest.Goals as goal

pub returns : goal.returns
returns c = λ instance. (
  instance,
  c.if-next_taken.ensures.line (Ended instance (claim_of c.args.complete c.args.points)),
)
