use Rattle.std.proofs.Common.{refl}
use Rattle.answer_terms.specs.BoundedAnswers.{bounded_status, bounded_text}
use Rattle.bounded_answers.specs.ValueLevels.{plain_levels}
use Rattle.pack_command.specs.Asked.{ValueBounds}
use Rattle.pack_command.proofs.ProposedFound.{proposed_cut}
use Rattle.pack_command.proofs.bounding.run_bounded.Goals as goal

pub returns-clause-stopped : goal.returns-clause-stopped
returns-clause-stopped g c = λ words asks.
    proposed_cut words _ _ _ _ (ValueBounds c.args.proposals) c.args.settings.now c.in_ok-instance.instance
    (bounded_status (plain_levels c.in-Ok.levels)) (bounded_text c.in_ok-instance.instance (plain_levels c.in-Ok.levels))
    asks c.in_ok-instance.ensures.moves c.in_ok-instance.ensures.limits
    (record {
      answer = plain_levels c.in-Ok.levels;
      is = c.in-Ok.ensures.levels;
      past = c.in-Ok.ensures.past;
      status_is = refl;
      document_is = refl;
    })
    c.stream.ensures.part
