use Rattle.std.proofs.Common.{sym, subst}
use Rattle.answer_terms.specs.declared.job.DocumentJob.TheVariants.{Reduced as Reduces}
use Rattle.answer_terms.specs.declared.job.ReducedJob.{ReducedJob}
use Rattle.answer_streams.specs.declared.solution.Solution.TheVariants.{Reduced, ReducedStrip}
use Rattle.answer_streams.specs.Solutions.{IsSolution}
use Rattle.pack_command.proofs.Found.{reduced_solution, reduced_strip_solution}
use Rattle.pack_command.proofs.solving.solve_reduced.Goals as goal

pub returns-in_ok-outcome-in-Fit : goal.returns-in_ok-outcome-in-Fit
returns-in_ok-outcome-in-Fit g c =
    subst (λ (job : ReducedJob). IsSolution (Reduces job) c.args.settings c.args.instance.now
    (Reduced c.in_ok-outcome-in-Fit.outcome)) (sym c.in-Fit.is)
    (reduced_solution c.args.settings c.args.instance.now c.in_ok-outcome-in-Fit.outcome
    c.in_ok-outcome-in-Fit.ensures.outcome c.in_ok-outcome-in-Fit.ensures.right)

pub returns-in_ok-strip-in-Strip : goal.returns-in_ok-strip-in-Strip
returns-in_ok-strip-in-Strip g c =
    subst (λ (job : ReducedJob). IsSolution (Reduces job) c.args.settings c.args.instance.now
    (ReducedStrip c.in_ok-strip-in-Strip.strip)) (sym c.in-Strip.is)
    (reduced_strip_solution c.args.settings c.args.instance.now c.in_ok-strip-in-Strip.strip
    c.in_ok-strip-in-Strip.ensures.answer
    c.in_ok-strip-in-Strip.ensures.right)
