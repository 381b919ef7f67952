use Rattle.std.proofs.Common.{◌∙◌, sym, ap, subst}
use Rattle.document_check.specs.declared.check.CheckEnd.{CheckEnd}
use Rattle.document_check.specs.declared.check.CheckEnd.TheVariants.{Refused}
use Rattle.document_check.specs.Passes.{end_of, IsCheckedFrom}
use Rattle.document_check.proofs.Passes.{end_from, refused_from, long_from, fault_from, memory_from, paused_from}
use Rattle.document_check.proofs.position.give_lines.Goals as goal

pub returns-in-End-clause-goes : goal.returns-in-End-clause-goes
returns-in-End-clause-goes g c =
    subst
    (λ (r : CheckEnd). IsCheckedFrom (g.S.Source.left c.args.input.now) (g.S.Source.left c.take_lines.new.input)
    (g.S.Source.faults c.args.input.now) (g.S.Source.faults c.take_lines.new.input)
    c.args.at.now (g.J.LineJudge.stage c.args.judge.now) r)
    (sym (c.end_of.ensures ∙ ap (end_of c.ended.result) c.line_number.ensures))
    (end_from _ _ _ _ c.args.at.now _ _ _ _ c.in-End.ensures.read c.ended.result (sym c.ended.ensures))

pub returns-in-Paused-clause-goes : goal.returns-in-Paused-clause-goes
returns-in-Paused-clause-goes g c = paused_from _ _ _ _ c.args.at.now _ _ _ _ c.in-Paused.ensures.read

pub returns-in-Refused-clause-goes : goal.returns-in-Refused-clause-goes
returns-in-Refused-clause-goes g c =
    subst
    (λ n. IsCheckedFrom (g.S.Source.left c.args.input.now) (g.S.Source.left c.take_lines.new.input)
    (g.S.Source.faults c.args.input.now) (g.S.Source.faults c.take_lines.new.input)
    c.args.at.now (g.J.LineJudge.stage c.args.judge.now) (Refused n c.in-Refused.reason))
    (sym c.line_number-in-Refused.ensures)
    (refused_from _ _ _ _ c.args.at.now _ _ _ _ c.in-Refused.reason c.in-Refused.ensures.read)

pub returns-in-TooLong-clause-goes : goal.returns-in-TooLong-clause-goes
returns-in-TooLong-clause-goes g c = long_from _ _ _ _ c.args.at.now _ _ _ _ c.in-TooLong.ensures.read

pub returns-in-ReadFault-clause-goes : goal.returns-in-ReadFault-clause-goes
returns-in-ReadFault-clause-goes g c = fault_from _ _ _ _ c.args.at.now _ _ _ _ c.in-ReadFault.ensures.read

pub returns-in-NoMemory-clause-goes : goal.returns-in-NoMemory-clause-goes
returns-in-NoMemory-clause-goes g c = memory_from _ _ _ _ c.args.at.now _ _ _ _ c.in-NoMemory.ensures.read
