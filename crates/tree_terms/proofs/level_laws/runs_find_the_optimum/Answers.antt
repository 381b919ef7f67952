use Rattle.tree_terms.proofs.level_laws.runs_find_the_optimum.Goals as goal
use Rattle.packing_terms.proofs.Excess.{excess_law}
use Rattle.tree_terms.proofs.Optima.{height_optimum, bins_optimum, value_optimum}

pub returns-clause-height : goal.returns-clause-height
returns-clause-height c instance budget scales limits narrow unspent =
    height_optimum instance limits excess_law narrow budget scales unspent

pub returns-clause-bins : goal.returns-clause-bins
returns-clause-bins c instance budget scales limits small unspent =
    bins_optimum instance limits excess_law small budget scales unspent

pub returns-clause-value : goal.returns-clause-value
returns-clause-value c instance budget scales limits unspent =
    value_optimum instance limits excess_law budget scales unspent
