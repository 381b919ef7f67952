use Rattle.std.proofs.Common.{◌∙◌, ◌-◌, ℕ, [], sym, ap, ap₂, Err}
use Rattle.verdict_terms.specs.Lines.{point_line}
use Rattle.front_check.specs.Audits.{placing}
use Rattle.front_check.specs.Audits.{plain_part}
use Rattle.document_audits.proofs.FrontOpened.{small_sides, point_opened, point_refused}
use Rattle.document_audits.proofs.front_opening.open_point.Goals as goal

pub returns-in-None : goal.returns-in-None
returns-in-None c =
    let small = small_sides c.args.instance.now c.len-limits.ensures.limits c.requires.plane in
    let k = c.in-None.ensures c.args.complete in (
      (k.0, k.1),
      λ points. point_opened c.args.instance.now c.args.complete c.args.stage small.0 small.1 c.requires.inside
          c.args.width c.args.height points
          (placing (c.args.stage.left - 1) c.clamped-width.result c.clamped-height.result [])
          (ap₂ (λ (x : ℕ) (y : ℕ). point_line c.args.instance.now c.args.complete c.args.stage.left
          (plain_part c.args.stage.part) x y) (sym c.clamped-width.ensures) (sym c.clamped-height.ensures) ∙ k.2),
    )

pub returns-in-Some : goal.returns-in-Some
returns-in-Some c = λ points.
    let small = small_sides c.args.instance.now c.len-limits.ensures.limits c.requires.plane in
    point_refused c.args.instance.now c.args.complete c.args.stage small.0 small.1 c.requires.inside c.args.width
    c.args.height points c.in-Some.reason
    (ap₂ (λ (x : ℕ) (y : ℕ). point_line c.args.instance.now c.args.complete c.args.stage.left
    (plain_part c.args.stage.part) x y) (sym c.clamped-width.ensures) (sym c.clamped-height.ensures)
    ∙ c.in-Some.ensures c.args.complete)
    ∙ ap Err (sym c.told_code.ensures)
