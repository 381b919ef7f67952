use Rattle.tree_terms.proofs.SpentRuns.{height_spent, bins_spent, value_spent, height_end, bins_end, value_end}
use Rattle.tree_terms.proofs.SpentRuns.{height_enough, bins_enough, value_enough}
use Rattle.tree_terms.proofs.level_laws.runs_are_spent_exactly.Goals as goal

pub returns-clause-height : goal.returns-clause-height
returns-clause-height c = height_spent

pub returns-clause-bins : goal.returns-clause-bins
returns-clause-bins c = bins_spent

pub returns-clause-value : goal.returns-clause-value
returns-clause-value c = value_spent

pub returns-clause-height_end : goal.returns-clause-height_end
returns-clause-height_end c instance budget scales limits = height_end instance limits budget scales

pub returns-clause-bins_end : goal.returns-clause-bins_end
returns-clause-bins_end c instance budget scales limits = bins_end instance limits budget scales

pub returns-clause-value_end : goal.returns-clause-value_end
returns-clause-value_end c = value_end

pub returns-clause-height_enough : goal.returns-clause-height_enough
returns-clause-height_enough c instance budget scales limits = height_enough instance limits budget scales

pub returns-clause-bins_enough : goal.returns-clause-bins_enough
returns-clause-bins_enough c instance budget scales limits = bins_enough instance limits budget scales

pub returns-clause-value_enough : goal.returns-clause-value_enough
returns-clause-value_enough c instance budget scales limits = value_enough instance limits budget scales
