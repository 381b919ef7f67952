use Rattle.document_audits.proofs.Verdicts.{next_told, kind_next}
use Rattle.document_audits.proofs.explained_lines.next_taken.Goals as goal

pub returns-clause-line : goal.returns-clause-line
returns-clause-line c = next_told c.args.bytes.now c.args.at.now c.next_filled.new.at c.next_filled.result
    c.next_filled.ensures.line

pub returns-clause-kind : goal.returns-clause-kind
returns-clause-kind c = kind_next c.args.bytes.now c.args.at.now c.next_filled.new.at c.next_filled.result
    c.next_filled.ensures.line
