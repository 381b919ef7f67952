use Rattle.std.proofs.Common.{refl}
use Rattle.answer_terms.specs.HeightAnswers.{strip_status, bounded_strip_text}
use Rattle.bounded_answers.specs.Heights.{plain_strip}
use Rattle.pack_command.specs.Asked.{HeightBounds}
use Rattle.pack_command.proofs.ProposedFound.{proposed_cut}
use Rattle.pack_command.proofs.bounding_heights.run_bounded_strip.Goals as goal

pub returns-clause-stopped : goal.returns-clause-stopped
returns-clause-stopped g c = λ words asks.
    proposed_cut words _ _ _ _ (HeightBounds c.args.proposals) c.args.settings.now c.in_ok-instance.instance
    (strip_status (plain_strip c.in-Ok.strip)) (bounded_strip_text c.in_ok-instance.instance (plain_strip c.in-Ok.strip))
    asks c.in_ok-instance.ensures.moves c.in_ok-instance.ensures.limits
    (record {
      strip = plain_strip c.in-Ok.strip;
      is = c.in-Ok.ensures.answer;
      past = c.in-Ok.ensures.past;
      status_is = refl;
      document_is = refl;
    })
    c.stream.ensures.part
