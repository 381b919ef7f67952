use Rattle.level_search.specs.Bounds.{plain_bounds, HasNoLevelLeft}
use Rattle.proposed_answers.specs.declared.effort.Effort.TheVariants.{Share}
use Rattle.proposed_answers.specs.Heights.{AreHeightBounds}
use Rattle.proposed_answers.proofs.heights.narrow_in_rounds.Given as goal

abbrev pub invariant-loop : goal.invariant-loop
invariant-loop g l = record {
  kept : AreHeightBounds l.fn.instance l.fn.settings Share (plain_bounds l.bounds);
  narrow : HasNoLevelLeft (plain_bounds l.bounds);
}
