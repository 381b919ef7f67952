use Rattle.tree_terms.proofs.level_laws.run_of_levels.Goals as goal
use Rattle.tree_terms.proofs.Runs.{run_ends, run_goes_on, run_over}
use Rattle.tree_terms.proofs.LevelOrder.{rising_end, falling_end, spent_exactly, asked_between, from_run}

pub returns-clause-over : goal.returns-clause-over
returns-clause-over c = run_ends

pub returns-clause-next : goal.returns-clause-next
returns-clause-next c = run_goes_on

pub returns-clause-ends : goal.returns-clause-ends
returns-clause-ends c = run_over

pub returns-clause-rising : goal.returns-clause-rising
returns-clause-rising c = rising_end

pub returns-clause-falling : goal.returns-clause-falling
returns-clause-falling c = falling_end

pub returns-clause-spent : goal.returns-clause-spent
returns-clause-spent c = spent_exactly

pub returns-clause-asked : goal.returns-clause-asked
returns-clause-asked c answer r level d = asked_between answer d

pub returns-clause-reached : goal.returns-clause-reached
returns-clause-reached c = from_run
