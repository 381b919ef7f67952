use Rattle.verdict_terms.proofs.explained_laws.lines_are_judged.Goals as goal
use Rattle.verdict_terms.proofs.Accepted.{line_exact}

pub returns : goal.returns
returns c instance node line = line_exact instance node line
