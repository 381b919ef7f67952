use Rattle.std.proofs.Common.{rules, ◌≡◌, ◌∙◌, length, vec_len}
use Rattle.pack_streams.proofs.Writers.{more, same}
use Rattle.answer_streams.proofs.FrontDocumentTexts.{result_line}
use Rattle.answer_streams.proofs.front_document.write_result.Goals as goal

pub returns : goal.returns
returns g c =
    let size : vec_len c.args.front.now.points ≡ length c.args.front.now.points.items = search rules in
    same _ _ _ _ _ _ _ _ (result_line c.result_key.result.now c.args.front.now.complete
    (length c.args.front.now.points.items) _ c.result_key.ensures (c.len-points.ensures ∙ size))
    (more _ _ _ _ _ _ _ _ _ _ _ c.write_on-said.ensures.goes_on
    (more _ _ _ _ _ _ _ _ _ _ _ c.write_number-counted.ensures.goes_on c.write_on.ensures.goes_on))
