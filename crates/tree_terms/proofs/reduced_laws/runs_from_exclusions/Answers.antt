use Rattle.std.proofs.Common.{refl}
use Rattle.tree_terms.proofs.Heights.{keeps_from, least_from, end_from, spent_from, enough_from}
use Rattle.tree_terms.proofs.reduced_laws.runs_from_exclusions.Goals as goal

pub returns-clause-none : goal.returns-clause-none
returns-clause-none c instance budget scales = refl

pub returns-clause-keeps : goal.returns-clause-keeps
returns-clause-keeps c instance start budget scales limits decide narrow =
    keeps_from instance limits start decide narrow budget scales

pub returns-clause-least : goal.returns-clause-least
returns-clause-least c instance start budget scales limits decide narrow unspent =
    least_from instance limits start decide narrow budget scales unspent

pub returns-clause-end : goal.returns-clause-end
returns-clause-end c instance start budget scales limits = end_from instance start budget scales limits

pub returns-clause-spent : goal.returns-clause-spent
returns-clause-spent c instance start budget scales = spent_from instance start budget scales

pub returns-clause-enough : goal.returns-clause-enough
returns-clause-enough c instance start budget scales limits bound =
    enough_from instance start budget scales limits bound
