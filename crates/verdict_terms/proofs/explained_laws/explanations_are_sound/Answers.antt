use Rattle.packing_terms.proofs.Excess.{excess_law}
use Rattle.verdict_terms.proofs.explained_laws.explanations_are_sound.Goals as goal
use Rattle.verdict_terms.proofs.Sound.{explains_sound, none_fits}

pub returns-clause-under : goal.returns-clause-under
returns-clause-under c instance places es lines sides packing h =
    explains_sound excess_law instance sides places packing h

pub returns-clause-fits : goal.returns-clause-fits
returns-clause-fits c instance lines sides h = none_fits excess_law instance sides lines h
