use Rattle.packing_terms.proofs.Excess.{excess_law}
use Rattle.tree_terms.proofs.FirstFound.{first_large_is, first_too_wide_is, none_large_is, none_too_wide_is}
use Rattle.tree_terms.proofs.SpentRuns.{height_exactly, no_height_exactly, bins_exactly, no_bins_exactly}
use Rattle.tree_terms.proofs.level_laws.optima_are_there_exactly.Goals as goal

pub returns-clause-height : goal.returns-clause-height
returns-clause-height c instance limits = height_exactly instance limits excess_law

pub returns-clause-no_height : goal.returns-clause-no_height
returns-clause-no_height c instance limits = no_height_exactly instance limits excess_law

pub returns-clause-bins : goal.returns-clause-bins
returns-clause-bins c instance limits = bins_exactly instance limits excess_law

pub returns-clause-no_bins : goal.returns-clause-no_bins
returns-clause-no_bins c instance limits = no_bins_exactly instance limits excess_law

pub returns-clause-wide : goal.returns-clause-wide
returns-clause-wide c = first_too_wide_is

pub returns-clause-no_wide : goal.returns-clause-no_wide
returns-clause-no_wide c = none_too_wide_is

pub returns-clause-large : goal.returns-clause-large
returns-clause-large c = first_large_is

pub returns-clause-no_large : goal.returns-clause-no_large
returns-clause-no_large c = none_large_is
