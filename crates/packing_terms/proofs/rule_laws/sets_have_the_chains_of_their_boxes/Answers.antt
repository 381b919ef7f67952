use Rattle.packing_terms.proofs.SetChains.{heads_same, tails_same}
use Rattle.packing_terms.proofs.rule_laws.sets_have_the_chains_of_their_boxes.Goals as goal

pub returns-clause-heads : goal.returns-clause-heads
returns-clause-heads c instance keep X i v k kept = heads_same instance keep kept X i v k

pub returns-clause-tails : goal.returns-clause-tails
returns-clause-tails c instance keep X i v k kept = tails_same instance keep kept X i v k
