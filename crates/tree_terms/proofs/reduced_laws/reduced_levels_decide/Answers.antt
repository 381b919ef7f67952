use Rattle.tree_terms.proofs.Heights.{reduced_right, reduced_yes}
use Rattle.tree_terms.proofs.reduced_laws.reduced_levels_decide.Goals as goal

pub returns-clause-yes : goal.returns-clause-yes
returns-clause-yes c instance h scales limits = reduced_yes instance h limits scales

pub returns-clause-right : goal.returns-clause-right
returns-clause-right c instance h scales limits = reduced_right instance h limits scales
