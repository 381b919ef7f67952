use Rattle.pack_streams.proofs.Writers.{more, same}
use Rattle.answer_streams.proofs.FrontPieces.{corner_text}
use Rattle.answer_streams.proofs.front_lines.write_corner.Goals as goal

pub returns : goal.returns
returns g c =
    same _ _ _ _ _ _ _ _ (corner_text c.args.corner.now.width c.args.corner.now.height
    c.args.corner.now.tokens)
    (more _ _ _ _ _ _ _ _ _ _ _ c.write_pair-named.ensures c.write_tokens_on.ensures)
