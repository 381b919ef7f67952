use Rattle.pack_command.proofs.Answering.{answer_cut}
use Rattle.pack_command.proofs.top.answer.Goals as goal

pub returns-clause-stopped : goal.returns-clause-stopped
returns-clause-stopped g c = λ words asks. answer_cut _ _ _ _ _ _ _ _ _ asks c.in_ok-instance.ensures.moves
    c.in_ok-instance.ensures.limits c.in-Ok.ensures c.stream.ensures.part
