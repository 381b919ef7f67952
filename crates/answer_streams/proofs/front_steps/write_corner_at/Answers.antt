use Rattle.std.proofs.Common.{sym, ap, ◌∙◌, arith}
use Rattle.pack_streams.proofs.Writers.{none, same}
use Rattle.size_front.specs.Plain.{plain_corner}
use Rattle.answer_terms.specs.WalkLines.{corner_lines}
use Rattle.answer_streams.specs.FrontTexts.{text_of}
use Rattle.answer_streams.proofs.FrontPieces.{corner_here, corner_none}
use Rattle.answer_streams.proofs.front_steps.write_corner_at.Goals as goal

pub returns-then-k-corners : goal.returns-then-k-corners
returns-then-k-corners g c =
    same _ _ _ _ _ _ _ _ (ap (λ x. text_of (corner_lines (plain_corner x))) c.index-corners-k.is
    ∙ sym (ap text_of (corner_here c.args.corners.now c.args.k c.index-corners-k.result (omega arith))))
    c.write_corner.ensures

pub returns-else-k-corners : goal.returns-else-k-corners
returns-else-k-corners g c = same _ _ _ _ _ _ _ _
    (sym (ap text_of (corner_none c.args.corners.now c.args.k (omega arith)))) (none _ _ _)
