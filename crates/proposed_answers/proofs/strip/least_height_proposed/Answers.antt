use Rattle.std.proofs.Common.{ℕ, sym, subst, ap₂, ◌∙◌}
use Rattle.level_search.specs.Bounds.{PlainBounds, first_bounds}
use Rattle.strip_solver.specs.declared.strip.Strip.{Strip}
use Rattle.strip_solver.specs.Strips.{IsTrueStrip}
use Rattle.proposed_answers.specs.declared.effort.Effort.TheVariants.{Root}
use Rattle.proposed_answers.specs.Heights.{AreHeightBounds, IsLimitedStrip}
use Rattle.proposed_answers.proofs.Strips.{run_limited, between_bounds}
use Rattle.proposed_answers.proofs.strip.least_height_proposed.Goals as goal

pub narrowed-requires-clause-bounds : goal.narrowed-requires-clause-bounds
narrowed-requires-clause-bounds g c κs within =
    subst (λ (b : PlainBounds). AreHeightBounds c.args.instance.now c.args.settings.now Root b)
    (ap₂ (λ (m : ℕ) (n : ℕ). first_bounds m c.in-Between.tokens n c.in-Between.places.items)
    (sym c.from.ensures) (sym c.from-in-Between.ensures)
    ∙ sym c.new-first.ensures)
    (between_bounds c.args.instance.now c.args.settings.now c.in-Between.refuted c.in-Between.height
    c.in-Between.tokens c.in-Between.places.items
    (subst (λ (s : Strip). IsTrueStrip c.args.instance.now s) c.in-Between.is c.in_ok-found.ensures.right)
    (subst IsLimitedStrip c.in-Between.is
    (run_limited c.args.instance.now c.len-limits.ensures.limits _ _ c.in_ok-found.found
    c.in_ok-found.ensures.answer)))

pub returns-in-Least-clause-limited : goal.returns-in-Least-clause-limited
returns-in-Least-clause-limited g c =
    subst IsLimitedStrip c.in-Least.is
    (run_limited c.args.instance.now c.len-limits.ensures.limits _ _ c.in_ok-found.found c.in_ok-found.ensures.answer)
