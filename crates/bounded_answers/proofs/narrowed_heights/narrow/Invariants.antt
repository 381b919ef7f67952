use Rattle.std.proofs.Common.{◌≤◌}
use Rattle.bounded_answers.specs.Heights.{AreLevels, IsWithin}
use Rattle.bounded_answers.proofs.narrowed_heights.narrow.Given as goal

abbrev pub invariant-loop : goal.invariant-loop
invariant-loop l = record {
  levels : AreLevels l.fn.instance l.now;
  within : IsWithin l.fn.levels l.now;
  open_from : l.open ≤ l.fn.levels.placed;
}
