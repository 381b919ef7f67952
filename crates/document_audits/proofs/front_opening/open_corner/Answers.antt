use Rattle.std.proofs.Common.{◌∙◌, ◌-◌, ℕ, sym, ap, ap₂, Err}
use Rattle.verdict_terms.specs.Lines.{cornered, corner_line}
use Rattle.front_check.specs.Audits.{plain_part}
use Rattle.document_audits.proofs.FrontOpened.{small_sides, corner_opened, corner_refused}
use Rattle.document_audits.proofs.front_opening.open_corner.Goals as goal

pub returns-in-None : goal.returns-in-None
returns-in-None c =
    let small = small_sides c.args.instance.now c.len-limits.ensures.limits c.requires.plane in
    let k = c.in-None.ensures in (
      k.0,
      λ points. corner_opened c.args.instance.now c.args.complete c.args.stage small.0 small.1 c.requires.inside
          c.args.width c.args.height points (cornered c.args.stage.left c.clamped-width.result c.clamped-height.result)
          (ap₂ (λ (x : ℕ) (y : ℕ). corner_line c.args.instance.now c.args.complete c.args.stage.left
          (plain_part c.args.stage.part) x y) (sym c.clamped-width.ensures) (sym c.clamped-height.ensures) ∙ k.1),
    )

pub returns-in-Some : goal.returns-in-Some
returns-in-Some c = λ points.
    let small = small_sides c.args.instance.now c.len-limits.ensures.limits c.requires.plane in
    corner_refused c.args.instance.now c.args.complete c.args.stage small.0 small.1 c.requires.inside c.args.width
    c.args.height points c.in-Some.reason
    (ap₂ (λ (x : ℕ) (y : ℕ). corner_line c.args.instance.now c.args.complete c.args.stage.left
    (plain_part c.args.stage.part) x y) (sym c.clamped-width.ensures) (sym c.clamped-height.ensures)
    ∙ c.in-Some.ensures)
    ∙ ap Err (sym c.told_code.ensures)
