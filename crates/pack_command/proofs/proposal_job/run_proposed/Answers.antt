use Rattle.std.proofs.Common.{refl}
use Rattle.answer_terms.specs.Answers.{answer_text, status_of}
use Rattle.answer_streams.specs.Solutions.{answer_found}
use Rattle.pack_command.specs.Asked.{Plain}
use Rattle.pack_command.proofs.ProposedFound.{proposed_cut, same_part}
use Rattle.pack_command.proofs.proposal_job.run_proposed.Goals as goal

pub returns-clause-stopped : goal.returns-clause-stopped
returns-clause-stopped g c = λ words asks.
    proposed_cut words _ _ _ _ (Plain c.args.job) c.args.settings.now c.in_ok-instance.instance
    (status_of (answer_found c.in-Ok.solution)) (answer_text c.in_ok-instance.instance (answer_found c.in-Ok.solution))
    asks c.in_ok-instance.ensures.moves c.in_ok-instance.ensures.limits
    (record { answer = answer_found c.in-Ok.solution; is = c.in-Ok.ensures.is; status_is = refl; document_is = refl })
    (same_part _ _ _ _ c.in-Ok.ensures.text c.stream.ensures.part)
