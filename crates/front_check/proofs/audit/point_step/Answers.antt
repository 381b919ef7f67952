use Rattle.std.proofs.Common.{◌+◌, ◌-◌, map, subst, []}
use Rattle.verdict_terms.specs.Lines.{PointAt}
use Rattle.front_check.specs.declared.parts.Reading.{Reading}
use Rattle.front_check.specs.Plain.{plain_line}
use Rattle.front_check.specs.Audits.{plain_stage, placing, pointed, IsReadPoint}
use Rattle.front_check.proofs.Audited.{line_refused, step_whole, step_short, step_refused, step_later}
use Rattle.front_check.proofs.audit.point_step.Goals as goal

pub returns-in-Some : goal.returns-in-Some
returns-in-Some c =
    line_refused c.args.instance.now c.args.complete (map plain_line c.args.lines.now) c.args.index
    (plain_stage c.args.stage) (PointAt c.args.width c.args.height) c.in-Some.reason c.requires.line
    (c.in-Some.ensures c.args.complete)

pub read_places-requires-clause-inside : goal.read_places-requires-clause-inside
read_places-requires-clause-inside c = (c.in_default.ensures c.args.complete).0

pub overflow_sub-left : goal.overflow_sub-left
overflow_sub-left c = (c.in_default.ensures c.args.complete).1

pub returns-in-Whole : goal.returns-in-Whole
returns-in-Whole c =
    let k = c.in_default.ensures c.args.complete in
    let read = subst (λ (r : Reading). IsReadPoint c.args.instance.now c.args.width c.args.height
    (map plain_line c.args.lines.now) (c.args.index + 1) r) c.in-Whole.is c.in_ok-reading.ensures c.args.complete
    (c.args.stage.left - 1) in (
      step_whole c.args.instance.now c.args.complete (map plain_line c.args.lines.now) c.args.index
          (plain_stage c.args.stage) (placing (c.args.stage.left - 1) c.args.width c.args.height [])
          (PointAt c.args.width c.args.height) c.requires.line k.2 c.in-Whole.next
          (pointed (c.args.stage.left - 1) c.args.width c.args.height) read,
      k.0,
      step_later c.args.instance.now c.args.complete (map plain_line c.args.lines.now) c.args.index c.in-Whole.next
          (placing (c.args.stage.left - 1) c.args.width c.args.height [])
          (pointed (c.args.stage.left - 1) c.args.width c.args.height) read,
    )

pub returns-in-Missing : goal.returns-in-Missing
returns-in-Missing c =
    let k = c.in_default.ensures c.args.complete in
    step_short c.args.instance.now c.args.complete (map plain_line c.args.lines.now) c.args.index
    (plain_stage c.args.stage) (placing (c.args.stage.left - 1) c.args.width c.args.height [])
    (PointAt c.args.width c.args.height) c.requires.line k.2
    (subst (λ (r : Reading). IsReadPoint c.args.instance.now c.args.width c.args.height
    (map plain_line c.args.lines.now) (c.args.index + 1) r) c.in-Missing.is c.in_ok-reading.ensures
    c.args.complete (c.args.stage.left - 1))

pub returns-in-Refused : goal.returns-in-Refused
returns-in-Refused c =
    let k = c.in_default.ensures c.args.complete in
    step_refused c.args.instance.now c.args.complete (map plain_line c.args.lines.now) c.args.index
    (plain_stage c.args.stage) (placing (c.args.stage.left - 1) c.args.width c.args.height [])
    (PointAt c.args.width c.args.height) c.requires.line k.2 c.in-Refused.index c.in-Refused.reason
    (subst (λ (r : Reading). IsReadPoint c.args.instance.now c.args.width c.args.height
    (map plain_line c.args.lines.now) (c.args.index + 1) r) c.in-Refused.is c.in_ok-reading.ensures
    c.args.complete (c.args.stage.left - 1))
