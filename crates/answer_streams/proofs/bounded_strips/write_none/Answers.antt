use Rattle.std.proofs.Common.{refl, codes}
use Rattle.pack_streams.proofs.Writers.{wrote_same, later, more}
use Rattle.answer_streams.proofs.BoundedStripTexts.{none_parts}
use Rattle.answer_streams.proofs.bounded_strips.write_none.Goals as goal

pub returns : goal.returns
returns g c = wrote_same _ _ _ _ _ _ _
    (none_parts c.args.instance.now c.args.box_no c.args.dim (codes "bounded strip\n") refl)
    (later _ _ _ _ _ _ _ _ _ _ c.write_opening-begun.ensures
    (more _ _ _ _ _ _ _ _ _ _ _ c.write_none_line-said.ensures c.write_on.ensures.goes_on))
