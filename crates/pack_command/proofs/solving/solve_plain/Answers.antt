use Rattle.std.proofs.Common.{sym, subst}
use Rattle.text_terms.specs.declared.claim.SolvingJob.{SolvingJob}
use Rattle.answer_terms.specs.declared.job.DocumentJob.TheVariants.{Solving as Solves}
use Rattle.answer_streams.specs.declared.solution.Solution.TheVariants.{Fit, Strip, Bins, Knapsack}
use Rattle.answer_streams.specs.Solutions.{IsSolution}
use Rattle.pack_command.proofs.Found.{fit_solution, strip_solution, bins_solution, choice_solution}
use Rattle.pack_command.proofs.solving.solve_plain.Goals as goal

pub returns-in_ok-outcome-in-Fit : goal.returns-in_ok-outcome-in-Fit
returns-in_ok-outcome-in-Fit g c =
    subst (λ (job : SolvingJob). IsSolution (Solves job) c.args.settings c.args.instance.now
    (Fit c.in_ok-outcome-in-Fit.outcome)) (sym c.in-Fit.is)
    (fit_solution c.args.settings c.args.instance.now c.in_ok-outcome-in-Fit.outcome
    c.in_ok-outcome-in-Fit.ensures.outcome c.in_ok-outcome-in-Fit.ensures.right)

pub returns-in_ok-strip-in-Strip : goal.returns-in_ok-strip-in-Strip
returns-in_ok-strip-in-Strip g c =
    subst (λ (job : SolvingJob). IsSolution (Solves job) c.args.settings c.args.instance.now
    (Strip c.in_ok-strip-in-Strip.strip)) (sym c.in-Strip.is)
    (strip_solution c.args.settings c.args.instance.now c.in_ok-strip-in-Strip.strip
    c.in_ok-strip-in-Strip.ensures.answer
    c.in_ok-strip-in-Strip.ensures.right)

pub returns-in_ok-bins-in-Bins : goal.returns-in_ok-bins-in-Bins
returns-in_ok-bins-in-Bins g c =
    subst (λ (job : SolvingJob). IsSolution (Solves job) c.args.settings c.args.instance.now
    (Bins c.in_ok-bins-in-Bins.bins)) (sym c.in-Bins.is)
    (bins_solution c.args.settings c.args.instance.now c.in_ok-bins-in-Bins.bins c.in_ok-bins-in-Bins.ensures.answer
    c.in_ok-bins-in-Bins.ensures.right)

pub returns-in_ok-choice-in-Knapsack : goal.returns-in_ok-choice-in-Knapsack
returns-in_ok-choice-in-Knapsack g c =
    subst (λ (job : SolvingJob). IsSolution (Solves job) c.args.settings c.args.instance.now
    (Knapsack c.in_ok-choice-in-Knapsack.choice)) (sym c.in-Knapsack.is)
    (choice_solution c.args.settings c.args.instance.now c.in_ok-choice-in-Knapsack.choice
    c.in_ok-choice-in-Knapsack.ensures.answer)
