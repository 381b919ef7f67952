use Rattle.pack_streams.proofs.Writers.{wrote_same, later, more}
use Rattle.answer_streams.proofs.StripTexts.{none_text}
use Rattle.answer_streams.proofs.strip_documents.write_none.Goals as goal

pub returns : goal.returns
returns g c = wrote_same _ _ _ _ _ _ _
    (none_text c.args.start c.strip_line.result.now c.strip_line.ensures c.args.instance.now c.args.box_no c.args.dim)
    (later _ _ _ _ _ _ _ _ _ _ c.write_opening-begun.ensures
    (more _ _ _ _ _ _ _ _ _ _ _ c.write_none_line-said.ensures c.write_on.ensures.goes_on))
