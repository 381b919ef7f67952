use Rattle.packing_terms.proofs.Families.{dual_feasible}
use Rattle.packing_terms.proofs.scale_laws.scales_are_dual_feasible.Goals as goal

pub returns : goal.returns
returns c = dual_feasible
