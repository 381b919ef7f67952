use Rattle.tree_terms.proofs.level_laws.runs_keep_both_certificates.Goals as goal
use Rattle.tree_terms.proofs.Optima.{heights_keep, bins_keep, values_keep}

pub returns-clause-height : goal.returns-clause-height
returns-clause-height c instance budget scales limits narrow = heights_keep instance limits narrow budget scales

pub returns-clause-bins : goal.returns-clause-bins
returns-clause-bins c instance budget scales limits small = bins_keep instance limits small budget scales

pub returns-clause-value : goal.returns-clause-value
returns-clause-value c instance budget scales limits = values_keep instance limits budget scales
