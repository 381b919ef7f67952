use Rattle.std.proofs.Common.{refl, codes}
use Rattle.pack_streams.proofs.Writers.{wrote_same, later, more}
use Rattle.bounded_answers.specs.Heights.{plain_levels}
use Rattle.answer_streams.proofs.BoundedStripTexts.{heights_parts}
use Rattle.answer_streams.proofs.bounded_strips.write_heights.Goals as goal

pub returns : goal.returns
returns g c = wrote_same _ _ _ _ _ _ _
    (heights_parts c.args.instance.now (plain_levels c.args.levels.now) (codes "bounded strip\n") c.deref.result.now refl
    c.deref.ensures.value)
    (later _ _ _ _ _ _ _ _ _ _ c.write_opening-begun.ensures
    (more _ _ _ _ _ _ _ _ _ _ _ c.write_result_line-said.ensures
    (more _ _ _ _ _ _ _ _ _ _ _ c.write_places-placed.ensures
    (more _ _ _ _ _ _ _ _ _ _ _ c.write_height_proof-shown.ensures c.write_on.ensures.goes_on))))
