use Rattle.verdict_terms.proofs.Refuting.{inner_fed, bins_tree_fed, value_tree_fed}
use Rattle.verdict_terms.proofs.check_laws.fed_trees_are_refutations.Goals as goal

pub returns : goal.returns
returns c = record { inner = inner_fed; bins = bins_tree_fed; value = value_tree_fed }
