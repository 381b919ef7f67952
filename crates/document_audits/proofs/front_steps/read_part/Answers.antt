use Rattle.std.proofs.Common.{◌-◌, sym, subst}
use Rattle.document_audits.specs.declared.front_opening.OpenPart.{OpenPart}
use Rattle.document_audits.specs.FrontAudits.{IsVerdict, verdict_left}
use Rattle.document_audits.specs.FrontParts.{at_front, opened_stage}
use Rattle.document_audits.proofs.front_steps.read_part.Goals as goal

pub returns-in-Some-clause-stopped : goal.returns-in-Some-clause-stopped
returns-in-Some-clause-stopped c = λ complete points.
    subst (λ (p : OpenPart). IsVerdict
    (verdict_left c.args.bytes.now c.args.at.now
    (at_front c.args.instance.now complete points (opened_stage c.args.stage p))) c.in-Some.end)
    (sym c.in-Corner.is)
    (c.in-Some.ensures.read complete points c.args.stage.left)

pub returns-in-Some-read_places-clause-stopped : goal.returns-in-Some-read_places-clause-stopped
returns-in-Some-read_places-clause-stopped c = λ complete points.
    subst (λ (p : OpenPart). IsVerdict
    (verdict_left c.args.bytes.now c.args.at.now
    (at_front c.args.instance.now complete points (opened_stage c.args.stage p))) c.in-Some-read_places.end)
    (sym c.in-Point.is)
    (c.in-Some-read_places.ensures.read complete points (c.args.stage.left - 1))
