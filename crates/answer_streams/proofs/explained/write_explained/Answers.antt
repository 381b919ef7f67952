use Rattle.pack_streams.proofs.Writers.{more, same}
use Rattle.answer_streams.proofs.ExplainedTexts.{explained_parts}
use Rattle.answer_streams.proofs.explained.write_explained.Goals as goal

pub returns : goal.returns
returns g c =
    (same _ _ _ _ _ _ _ _ (explained_parts c.args.instance.now c.args.steps.now)
    (more _ _ _ _ _ _ _ _ _ _ _ c.write_on-named.ensures.goes_on
    (more _ _ _ _ _ _ _ _ _ _ _ c.write_instance_on-shown.ensures
    (more _ _ _ _ _ _ _ _ _ _ _ c.write_on-said.ensures.goes_on
    (more _ _ _ _ _ _ _ _ _ _ _ c.write_steps_on-explained.ensures c.write_on.ensures.goes_on))))).goes
