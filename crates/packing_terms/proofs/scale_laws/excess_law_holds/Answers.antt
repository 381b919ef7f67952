use Rattle.packing_terms.proofs.Excess.{excess_law}
use Rattle.packing_terms.proofs.scale_laws.excess_law_holds.Goals as goal

pub returns : goal.returns
returns c = excess_law
