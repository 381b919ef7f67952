use Rattle.bounded_answers.specs.ValueLevels.{AreLevels, IsWithin}
use Rattle.bounded_answers.proofs.asking.GoalSearch.narrow.Given as goal

abbrev pub invariant-loop : goal.invariant-loop
invariant-loop l = record {
  levels : AreLevels l.fn.instance l.now;
  within : IsWithin l.fn.levels l.now;
}
