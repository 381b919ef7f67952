use Rattle.document_audits.proofs.FrontCursors.{next_told}
use Rattle.document_audits.proofs.front_lines.next_taken.Goals as goal

pub returns-clause-line : goal.returns-clause-line
returns-clause-line c = next_told c.args.bytes.now c.args.at.now c.next_filled.new.at c.next_filled.result
    c.next_filled.ensures.line
