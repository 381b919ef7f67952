use Rattle.packing_terms.proofs.Levels.{level_facts}
use Rattle.packing_terms.proofs.symmetry_laws.facts_are_of_all_levels.Goals as goal

pub returns : goal.returns
returns c = level_facts
