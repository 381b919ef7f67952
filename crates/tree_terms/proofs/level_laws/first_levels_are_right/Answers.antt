use Rattle.tree_terms.proofs.level_laws.first_levels_are_right.Goals as goal
use Rattle.tree_terms.proofs.FirstLevels.{height_zero, stack_packs, no_bins, spread_packs, value_above, value_zero}

pub returns-clause-height_refuted : goal.returns-clause-height_refuted
returns-clause-height_refuted c instance limits = height_zero instance limits

pub returns-clause-height_placed : goal.returns-clause-height_placed
returns-clause-height_placed c instance limits narrow = stack_packs instance limits narrow

pub returns-clause-bins_refuted : goal.returns-clause-bins_refuted
returns-clause-bins_refuted c instance scales limits = no_bins instance limits scales

pub returns-clause-bins_placed : goal.returns-clause-bins_placed
returns-clause-bins_placed c instance scales limits small = spread_packs instance limits small scales

pub returns-clause-value_refuted : goal.returns-clause-value_refuted
returns-clause-value_refuted c instance limits = value_above instance limits

pub returns-clause-value_placed : goal.returns-clause-value_placed
returns-clause-value_placed c instance limits = value_zero instance limits
