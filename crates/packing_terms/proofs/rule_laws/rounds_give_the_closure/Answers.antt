use Rattle.packing_terms.proofs.RoundsLemmas.{closure_is}
use Rattle.packing_terms.proofs.rule_laws.rounds_give_the_closure.Goals as goal

pub returns : goal.returns
returns c instance es i u v r = closure_is instance es i u v r
