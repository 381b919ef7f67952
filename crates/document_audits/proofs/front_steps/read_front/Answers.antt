use Rattle.std.proofs.Common.{◌∙◌, sym, subst, Option, Result, Ok}
use Rattle.text_terms.specs.Feeding.{ended_line}
use Rattle.verdict_terms.specs.Documents.{Refusal}
use Rattle.verdict_terms.specs.FrontDocumentVerdicts.{FrontRead, Ended}
use Rattle.front_check.specs.Audits.{plain_stage}
use Rattle.document_audits.specs.declared.front_opening.OpenPart.{OpenPart}
use Rattle.document_audits.specs.FrontAudits.{IsVerdict, claim_of}
use Rattle.document_audits.specs.FrontParts.{at_front, opened_stage, taken_by, IsOpened}
use Rattle.document_audits.proofs.FrontCursors.{taken_on}
use Rattle.document_audits.proofs.front_steps.read_front.Goals as goal

pub returns-in-Err-read_part : goal.returns-in-Err-read_part
returns-in-Err-read_part c =
    let opened = subst (λ (o : Option OpenPart). IsOpened c.args.instance.now c.args.complete c.loop-alloc.stage
    (taken_by c.args.instance.now c.args.complete c.loop-alloc.stage
    (ended_line c.next_taken-there.new.at.line.held)) (Ok o)) c.in-Ok-Some.field-0-is c.in-Ok-Some.ensures in
    subst (λ (v : Result FrontRead Refusal). IsVerdict v c.in-Err-read_part.end)
    (sym (c.loop-alloc.invariant.2
    ∙ taken_on c.args.bytes.now c.loop-alloc.at c.next_taken-there.new.at c.if-not-there.ensures.line
    (at_front c.args.instance.now c.args.complete c.args.points (plain_stage c.loop-alloc.stage))
    (at_front c.args.instance.now c.args.complete c.args.points (opened_stage c.loop-alloc.stage c.in-Ok-Some.part))
    (opened.1 c.args.points)))
    (c.in-Err-read_part.ensures.stopped c.args.complete c.args.points)

pub returns-in-Ok-None : goal.returns-in-Ok-None
returns-in-Ok-None c =
    let opened = subst (λ (o : Option OpenPart). IsOpened c.args.instance.now c.args.complete c.loop-alloc.stage
    (taken_by c.args.instance.now c.args.complete c.loop-alloc.stage
    (ended_line c.next_taken-there.new.at.line.held)) (Ok o)) c.in-Ok-None.field-0-is c.in-Ok-None.ensures in
    subst (λ (v : Result FrontRead Refusal). IsVerdict v c.read_rest.result)
    (sym (c.loop-alloc.invariant.2
    ∙ taken_on c.args.bytes.now c.loop-alloc.at c.next_taken-there.new.at c.if-not-there.ensures.line
    (at_front c.args.instance.now c.args.complete c.args.points (plain_stage c.loop-alloc.stage))
    (Ended c.args.instance.now (claim_of c.args.complete c.args.points)) (opened c.args.points)))
    (c.read_rest.ensures c.args.instance.now)
