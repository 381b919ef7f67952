use Rattle.std.proofs.Common.{◌∙◌, sym}
use Rattle.document_audits.proofs.Describing.{line_taken, line_refused}
use Rattle.document_audits.proofs.refutation_reading.describe.Goals as goal

pub returns-in-Ok : goal.returns-in-Ok
returns-in-Ok c = line_taken c.args.reader c.line.new.self c.args.line.now _
    (sym c.is_result.ensures ∙ c.if-is_result.false) c.in-Ok.ensures.step c.in-Ok.ensures.answer

pub returns-in-Err-Fault : goal.returns-in-Err-Fault
returns-in-Err-Fault c =
    line_refused c.args.reader c.line.new.self c.args.line.now c.in-Err-Fault.field-0 c.in-Err-Fault.field-0-0
    c.in-Err-Fault.field-0-is (sym c.is_result.ensures ∙ c.if-is_result.false) c.in-Err-Fault.ensures.step
    c.in-Err-Fault.ensures.answer
