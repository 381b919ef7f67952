use Rattle.tree_terms.proofs.OuterAnswers.{bin_tree_answer, choice_tree_answer, yes_settled}
use Rattle.tree_terms.proofs.laws.outer_answers_are_of_their_sets.Goals as goal

pub returns-clause-bins : goal.returns-clause-bins
returns-clause-bins c instance k scales = bin_tree_answer instance scales k

pub returns-clause-value : goal.returns-clause-value
returns-clause-value c instance goal scales = choice_tree_answer instance scales goal

pub returns-clause-yes : goal.returns-clause-yes
returns-clause-yes c = yes_settled
