use Rattle.tree_terms.proofs.Runs.{run_ends}
use Rattle.level_search.proofs.OnRun.{run_stays}
use Rattle.level_search.proofs.laws.followed_runs_are_runs.Goals as goal

pub returns-clause-step : goal.returns-clause-step
returns-clause-step c = λ answer r level next. run_stays answer r level next

pub returns-clause-end : goal.returns-clause-end
returns-clause-end c = λ answer r over. run_ends answer r over
