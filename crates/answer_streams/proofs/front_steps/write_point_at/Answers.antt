use Rattle.std.proofs.Common.{sym, ap, ◌∙◌, arith}
use Rattle.pack_streams.proofs.Writers.{none, same}
use Rattle.size_front.specs.Plain.{plain_point}
use Rattle.answer_terms.specs.WalkLines.{point_lines}
use Rattle.answer_streams.specs.FrontTexts.{text_of}
use Rattle.answer_streams.proofs.FrontPieces.{point_here, point_none}
use Rattle.answer_streams.proofs.front_steps.write_point_at.Goals as goal

pub returns-then-k-points : goal.returns-then-k-points
returns-then-k-points g c =
    same _ _ _ _ _ _ _ _ (ap (λ x. text_of (point_lines (plain_point x))) c.index-points-k.is
    ∙ sym (ap text_of (point_here c.args.points.now c.args.k c.index-points-k.result (omega arith))))
    c.write_point.ensures

pub returns-else-k-points : goal.returns-else-k-points
returns-else-k-points g c = same _ _ _ _ _ _ _ _
    (sym (ap text_of (point_none c.args.points.now c.args.k (omega arith)))) (none _ _ _)
