use Rattle.packing_terms.proofs.Packings.{none_fits, none_shared}
use Rattle.packing_terms.proofs.ScaleInBins.{bins_share}
use Rattle.packing_terms.proofs.scale_laws.excess_refutes.Goals as goal

pub returns-clause-one : goal.returns-clause-one
returns-clause-one c = none_fits

pub returns-clause-many : goal.returns-clause-many
returns-clause-many c = none_shared

pub returns-clause-bins : goal.returns-clause-bins
returns-clause-bins c instance fs k x p = none_shared instance fs k x (bins_share instance k p)
