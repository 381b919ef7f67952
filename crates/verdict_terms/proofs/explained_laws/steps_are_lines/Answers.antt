use Rattle.verdict_terms.proofs.explained_laws.steps_are_lines.Goals as goal
use Rattle.verdict_terms.proofs.StepsBack.{steps_are_read_back, step_lines_are_told}
use Rattle.verdict_terms.proofs.StepsPlain.{steps_are_fed_back}

pub returns-clause-read_back : goal.returns-clause-read_back
returns-clause-read_back c = steps_are_read_back

pub returns-clause-fed_back : goal.returns-clause-fed_back
returns-clause-fed_back c = steps_are_fed_back

pub returns-clause-told : goal.returns-clause-told
returns-clause-told c = step_lines_are_told
