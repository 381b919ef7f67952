use Rattle.std.proofs.Common.{ℕ, sym, subst, ap₂, ◌∙◌}
use Rattle.level_search.specs.Bounds.{PlainBounds, first_bounds}
use Rattle.bin_knapsack.specs.declared.bins.Bins.{Bins}
use Rattle.bin_knapsack.specs.BinAnswers.{AreTrueBins}
use Rattle.proposed_answers.specs.Counts.{AreFirstBounds, AreLimitedBins}
use Rattle.proposed_answers.proofs.BinsAnswered.{run_limited, between_bounds}
use Rattle.proposed_answers.proofs.least.least_bins_proposed.Goals as goal

pub improved-requires : goal.improved-requires
improved-requires g c =
    subst (λ (b : PlainBounds). AreFirstBounds c.args.instance.now b)
    (ap₂ (λ (m : ℕ) (n : ℕ). first_bounds m c.in-Between.tokens n c.in-Between.numbers.items)
    (sym c.from.ensures) (sym c.from-in-Between.ensures)
    ∙ sym c.new-first.ensures)
    (between_bounds c.args.instance.now c.in-Between.refuted c.in-Between.bins c.in-Between.tokens
    c.in-Between.numbers.items
    (subst (λ (b : Bins). AreTrueBins c.args.instance.now b) c.in-Between.is c.in_ok-found.ensures.right)
    (subst (λ (b : Bins). AreLimitedBins c.args.instance.now b) c.in-Between.is
    (run_limited c.args.instance.now c.len-limits.ensures.limits _ _ c.in_ok-found.found
    c.in_ok-found.ensures.answer)).1)

pub returns-in-Least-clause-limited : goal.returns-in-Least-clause-limited
returns-in-Least-clause-limited g c =
    subst (λ (b : Bins). AreLimitedBins c.args.instance.now b) c.in-Least.is
    (run_limited c.args.instance.now c.len-limits.ensures.limits _ _ c.in_ok-found.found c.in_ok-found.ensures.answer)
