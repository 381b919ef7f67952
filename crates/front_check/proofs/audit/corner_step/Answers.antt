use Rattle.std.proofs.Common.{◌+◌, map, subst, [], ◌∷◌}
use Rattle.verdict_terms.specs.Lines.{CornerAt}
use Rattle.front_check.specs.declared.parts.Reading.{Reading}
use Rattle.front_check.specs.Plain.{plain_line}
use Rattle.front_check.specs.Audits.{plain_stage, growing, IsReadTree}
use Rattle.front_check.proofs.Audited.{step_whole, step_short, step_refused, step_later}
use Rattle.front_check.proofs.audit.corner_step.Goals as goal

pub returns-in-Whole : goal.returns-in-Whole
returns-in-Whole c =
    let k = c.in_default.ensures in
    let read = subst (λ (r : Reading). IsReadTree c.args.instance.now c.args.width c.args.height
    (map plain_line c.args.lines.now) (c.args.index + 1) r) c.in-Whole.is c.in_ok-reading.ensures c.args.complete
    c.args.stage.left in (
      step_whole c.args.instance.now c.args.complete (map plain_line c.args.lines.now) c.args.index
          (plain_stage c.args.stage) (growing c.args.stage.left c.args.width c.args.height ([] ∷ []))
          (CornerAt c.args.width c.args.height) c.requires.line k.1 c.in-Whole.next
          (growing c.args.stage.left c.args.width c.args.height []) read,
      k.0,
      step_later c.args.instance.now c.args.complete (map plain_line c.args.lines.now) c.args.index c.in-Whole.next
          (growing c.args.stage.left c.args.width c.args.height ([] ∷ []))
          (growing c.args.stage.left c.args.width c.args.height []) read,
    )

pub returns-in-Missing : goal.returns-in-Missing
returns-in-Missing c =
    let k = c.in_default.ensures in
    step_short c.args.instance.now c.args.complete (map plain_line c.args.lines.now) c.args.index
    (plain_stage c.args.stage) (growing c.args.stage.left c.args.width c.args.height ([] ∷ []))
    (CornerAt c.args.width c.args.height) c.requires.line k.1
    (subst (λ (r : Reading). IsReadTree c.args.instance.now c.args.width c.args.height
    (map plain_line c.args.lines.now) (c.args.index + 1) r) c.in-Missing.is c.in_ok-reading.ensures
    c.args.complete c.args.stage.left)

pub returns-in-Refused : goal.returns-in-Refused
returns-in-Refused c =
    let k = c.in_default.ensures in
    step_refused c.args.instance.now c.args.complete (map plain_line c.args.lines.now) c.args.index
    (plain_stage c.args.stage) (growing c.args.stage.left c.args.width c.args.height ([] ∷ []))
    (CornerAt c.args.width c.args.height) c.requires.line k.1 c.in-Refused.index c.in-Refused.reason
    (subst (λ (r : Reading). IsReadTree c.args.instance.now c.args.width c.args.height
    (map plain_line c.args.lines.now) (c.args.index + 1) r) c.in-Refused.is c.in_ok-reading.ensures
    c.args.complete c.args.stage.left)
