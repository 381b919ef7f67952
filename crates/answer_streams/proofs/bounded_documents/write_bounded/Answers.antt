use Rattle.pack_streams.proofs.Writers.{wrote_same, later, more}
use Rattle.bounded_answers.specs.ValueLevels.{plain_levels}
use Rattle.answer_streams.proofs.BoundedTexts.{bounded_parts}
use Rattle.answer_streams.proofs.bounded_documents.write_bounded.Goals as goal

pub returns : goal.returns
returns g c = wrote_same _ _ _ _ _ _ _
    (bounded_parts c.args.instance.now (plain_levels c.args.levels.now) c.deref.result.now
    c.deref.ensures.value)
    (later _ _ _ _ _ _ _ _ _ _ c.write_opening-begun.ensures
    (more _ _ _ _ _ _ _ _ _ _ _ c.write_result_line-said.ensures
    (more _ _ _ _ _ _ _ _ _ _ _ c.write_taken-taken.ensures
    (more _ _ _ _ _ _ _ _ _ _ _ c.write_value_proof-shown.ensures c.write_on.ensures.goes_on))))
