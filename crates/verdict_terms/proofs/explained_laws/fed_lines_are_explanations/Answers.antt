use Rattle.verdict_terms.proofs.explained_laws.fed_lines_are_explanations.Goals as goal
use Rattle.verdict_terms.proofs.Answered.{whole_explains, done_explains, more_open, refused_first, refusal_stays}
use Rattle.verdict_terms.proofs.Answered.{past_whole}

pub returns-clause-whole : goal.returns-clause-whole
returns-clause-whole c instance lines = whole_explains instance lines

pub returns-clause-done : goal.returns-clause-done
returns-clause-done c instance lines = done_explains instance lines

pub returns-clause-more : goal.returns-clause-more
returns-clause-more c instance lines = more_open instance lines

pub returns-clause-refused : goal.returns-clause-refused
returns-clause-refused c instance lines code = refused_first instance lines code

pub returns-clause-stays : goal.returns-clause-stays
returns-clause-stays c instance lines more code e = refusal_stays instance lines more code e

pub returns-clause-past : goal.returns-clause-past
returns-clause-past c instance lines more line h = past_whole instance lines more line h
