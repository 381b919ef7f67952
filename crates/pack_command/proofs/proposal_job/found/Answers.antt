use Rattle.std.proofs.Common.{sym, subst}
use Rattle.text_terms.specs.declared.claim.SolvingJob.{SolvingJob}
use Rattle.answer_streams.specs.declared.solution.Solution.TheVariants.{Fit, Strip, Bins, Knapsack}
use Rattle.pack_command.specs.Proposed.{IsProposedSolution}
use Rattle.pack_command.proofs.ProposedFit.{fit_proposed}
use Rattle.pack_command.proofs.ProposedStrip.{strip_proposed}
use Rattle.pack_command.proofs.ProposedBins.{bins_proposed}
use Rattle.pack_command.proofs.ProposedChoice.{choice_proposed}
use Rattle.pack_command.proofs.proposal_job.found.Goals as goal

pub returns-in_ok-outcome-in-Fit : goal.returns-in_ok-outcome-in-Fit
returns-in_ok-outcome-in-Fit g c =
    subst (λ (job : SolvingJob). IsProposedSolution job c.args.settings.now c.args.instance.now
    (Fit c.in_ok-outcome-in-Fit.outcome)) (sym c.in-Fit.is)
    (fit_proposed c.args.settings.now c.args.instance.now c.in_ok-outcome-in-Fit.outcome
    c.in_ok-outcome-in-Fit.ensures.right c.in_ok-outcome-in-Fit.ensures.past
    c.in_ok-outcome-in-Fit.ensures.plain)

pub returns-in_ok-strip-in-Strip : goal.returns-in_ok-strip-in-Strip
returns-in_ok-strip-in-Strip g c =
    subst (λ (job : SolvingJob). IsProposedSolution job c.args.settings.now c.args.instance.now
    (Strip c.in_ok-strip-in-Strip.strip)) (sym c.in-Strip.is)
    (strip_proposed c.args.settings.now c.args.instance.now c.in_ok-strip-in-Strip.strip
    c.in_ok-strip-in-Strip.ensures.right c.in_ok-strip-in-Strip.ensures.named
    c.in_ok-strip-in-Strip.ensures.limited c.in_ok-strip-in-Strip.ensures.past)

pub returns-in_ok-bins-in-Bins : goal.returns-in_ok-bins-in-Bins
returns-in_ok-bins-in-Bins g c =
    subst (λ (job : SolvingJob). IsProposedSolution job c.args.settings.now c.args.instance.now
    (Bins c.in_ok-bins-in-Bins.bins)) (sym c.in-Bins.is)
    (bins_proposed c.args.settings.now c.args.instance.now c.in_ok-bins-in-Bins.bins c.in_ok-bins-in-Bins.ensures.right
    c.in_ok-bins-in-Bins.ensures.named
    c.in_ok-bins-in-Bins.ensures.limited c.in_ok-bins-in-Bins.ensures.past)

pub returns-in_ok-choice-in-Knapsack : goal.returns-in_ok-choice-in-Knapsack
returns-in_ok-choice-in-Knapsack g c =
    subst (λ (job : SolvingJob). IsProposedSolution job c.args.settings.now c.args.instance.now
    (Knapsack c.in_ok-choice-in-Knapsack.choice)) (sym c.in-Knapsack.is)
    (choice_proposed c.args.settings.now c.args.instance.now c.in_ok-choice-in-Knapsack.choice
    c.in_ok-choice-in-Knapsack.ensures.right
    c.in_ok-choice-in-Knapsack.ensures.limited c.in_ok-choice-in-Knapsack.ensures.past)
