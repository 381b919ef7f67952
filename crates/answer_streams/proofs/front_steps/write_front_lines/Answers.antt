use Rattle.std.proofs.Common.{ap, ap₂, ◌∙◌, arith, map, List}
use Rattle.pack_streams.proofs.Writers.{more, same}
use Rattle.size_front.specs.declared.front.Corner.{Corner}
use Rattle.size_front.specs.declared.front.Point.{Point}
use Rattle.size_front.specs.Plain.{plain_corner, plain_point}
use Rattle.answer_terms.specs.WalkLines.{lines_of}
use Rattle.answer_streams.specs.FrontTexts.{text_of}
use Rattle.answer_streams.proofs.FrontPieces.{first_point}
use Rattle.answer_streams.proofs.front_steps.write_front_lines.Goals as goal

pub returns-then-points-eq1 : goal.returns-then-points-eq1
returns-then-points-eq1 g c =
    same _ _ _ _ _ _ _ _ (first_point (map plain_corner c.as_slice-corners.result.now) c.as_slice-points.result.now
    c.index-points-0.result (omega arith)
    c.index-points-0.is (ap (λ (p : Point). p.width) c.index-points-0.is ∙ c.if-points-eq1.true)
    ∙ ap₂ (λ (cs : List Corner) (ps : List Point). text_of (lines_of (map plain_corner cs) (map plain_point ps)))
    c.as_slice-corners.ensures.value c.as_slice-points.ensures.value)
    (more _ _ _ _ _ _ _ _ _ _ _ c.write_point_at-begun.ensures c.write_steps.ensures)
