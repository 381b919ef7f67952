use Rattle.packing_terms.specs.OuterPaths.{bins_with, choices_with}
use Rattle.outer_check.proofs.Opened.{bins_opened, value_opened, none_open}
use Rattle.outer_check.proofs.laws.outer_steps_leave_the_open_nodes.Goals as goal

pub returns-clause-bins : goal.returns-clause-bins
returns-clause-bins c = bins_opened

pub returns-clause-value : goal.returns-clause-value
returns-clause-value c = value_opened

pub returns-clause-whole_bins : goal.returns-clause-whole_bins
returns-clause-whole_bins c k = none_open (bins_with k)

pub returns-clause-whole_value : goal.returns-clause-whole_value
returns-clause-whole_value c = none_open choices_with
