use Rattle.set_search.proofs.search.SetSearch.decide.Goals as goal

pub returns-clause-outcome : goal.returns-clause-outcome
returns-clause-outcome c = rw c.locate-source.ensures at c.decide_by.ensures.outcome
