use Rattle.verdict_terms.proofs.FamilyTrees.{families_in_trees}
use Rattle.verdict_terms.proofs.family_laws.families_in_trees_are_refutations.Goals as goal

pub returns : goal.returns
returns c = families_in_trees
