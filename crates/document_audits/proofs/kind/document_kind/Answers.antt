use Rattle.document_audits.proofs.Verdicts.{kind_whole}
use Rattle.document_audits.proofs.kind.document_kind.Goals as goal

pub returns : goal.returns
returns c = kind_whole c.args.bytes.now c.start-at.result c.kind_left.result c.start-at.ensures c.kind_left.ensures
