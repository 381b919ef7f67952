use Rattle.std.proofs.Common.{◌≡◌}
use Rattle.level_search.specs.Bounds.{plain_bounds, levels_left}
use Rattle.proposed_answers.specs.Values.{AreValueBounds}
use Rattle.proposed_answers.proofs.values.narrow_values.Given as goal

abbrev pub invariant-loop-level : goal.invariant-loop-level
invariant-loop-level g l = record {
  bounds : AreValueBounds l.fn.instance l.fn.settings (plain_bounds l.bounds);
  search : l.search ≡ record { instance = l.fn.instance; scales = l.fn.settings.scales };
}

abbrev pub decreases-loop-level : goal.decreases-loop-level
decreases-loop-level g l = levels_left (plain_bounds l.bounds)
