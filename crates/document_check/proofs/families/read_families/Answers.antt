use Rattle.document_check.proofs.Passes.{goes_known}
use Rattle.document_check.proofs.families.read_families.Goals as goal

pub returns-clause-goes : goal.returns-clause-goes
returns-clause-goes g c = goes_known _ _ _ _ c.args.at.now c.give_lines.new.at c.new-judge.result _
    c.give_lines.new.judge.stage _ c.give_lines.result c.new-judge.ensures c.give_lines.ensures.goes
    c.give_lines.ensures.behind
