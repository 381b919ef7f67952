use Rattle.std.proofs.Common.{◌≡◌}
use Rattle.tree_terms.specs.Levels.{first_values}
use Rattle.tree_terms.specs.RunEnds.{value_answer}
use Rattle.level_search.specs.Runs.{plain_reached}
use Rattle.level_search.proofs.OnRun.{IsOnRun, decisions_left}
use Rattle.bin_knapsack.proofs.greatest.bisect_values.Given as goal

abbrev pub invariant-loop-level : goal.invariant-loop-level
invariant-loop-level g l = record {
  run : IsOnRun (value_answer l.fn.instance l.fn.settings.budget l.fn.settings.scales) 0
      (first_values l.fn.instance).refuted
      (first_values l.fn.instance) (plain_reached l.reached);
  search : l.search ≡ record { instance = l.fn.instance; scales = l.fn.settings.scales };
}

abbrev pub decreases-loop-level : goal.decreases-loop-level
decreases-loop-level g l = decisions_left (plain_reached l.reached)
