use Rattle.tree_terms.proofs.FirstLevels.{stack_packs}
use Rattle.tree_terms.proofs.Heights.{zero_from}
use Rattle.tree_terms.proofs.reduced_laws.first_heights_are_right_from.Goals as goal

pub returns-clause-refuted : goal.returns-clause-refuted
returns-clause-refuted c instance start limits = zero_from instance limits start

pub returns-clause-placed : goal.returns-clause-placed
returns-clause-placed c instance limits narrow = stack_packs instance limits narrow
