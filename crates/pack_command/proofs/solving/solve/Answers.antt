use Rattle.std.proofs.Common.{sym, subst, IfOk}
use Rattle.answer_terms.specs.declared.job.DocumentJob.{DocumentJob}
use Rattle.answer_streams.specs.Solutions.{IsSolution}
use Rattle.pack_command.proofs.solving.solve.Goals as goal

pub returns-in-Solving : goal.returns-in-Solving
returns-in-Solving g c =
    subst (λ (job : DocumentJob). IfOk c.solve_plain.result (λ s. IsSolution job c.args.settings c.args.instance.now s))
    (sym c.in-Solving.is) c.solve_plain.ensures

pub returns-in-Reduced : goal.returns-in-Reduced
returns-in-Reduced g c =
    subst (λ (job : DocumentJob). IfOk c.solve_reduced.result
    (λ s. IsSolution job c.args.settings c.args.instance.now s)) (sym c.in-Reduced.is) c.solve_reduced.ensures
