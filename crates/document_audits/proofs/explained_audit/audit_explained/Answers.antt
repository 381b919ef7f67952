use Rattle.document_audits.proofs.Verdicts.{whole, true_audit}
use Rattle.document_audits.proofs.explained_audit.audit_explained.Goals as goal

pub returns-clause-audited : goal.returns-clause-audited
returns-clause-audited c = whole c.args.bytes.now c.start-at.result c.audit_lines.result c.start-at.ensures
    c.audit_lines.ensures

pub returns-clause-truth : goal.returns-clause-truth
returns-clause-truth c = true_audit c.args.bytes.now c.audit_lines.result
    (whole c.args.bytes.now c.start-at.result c.audit_lines.result c.start-at.ensures c.audit_lines.ensures)
