use Rattle.verdict_terms.proofs.BoundedViews.{bounded_view, bounded_path}
use Rattle.verdict_terms.proofs.bounded_laws.bounded_nodes_are_on_paths.Goals as goal

pub returns-clause-open : goal.returns-clause-open
returns-clause-open c = bounded_view

pub returns-clause-few : goal.returns-clause-few
returns-clause-few c = bounded_path
