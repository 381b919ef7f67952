use Rattle.std.proofs.Common.{ap, ◌∙◌, Some}
use Rattle.tree_terms.specs.Trees.{Verdict}
use Rattle.tree_terms.specs.Paths.{outcome_of}
use Rattle.tree_terms.proofs.Joins.{split_joins}
use Rattle.tree_terms.proofs.Reached.{node_parts, child_there, none_past}
use Rattle.tree_terms.proofs.laws.subtrees_are_at_paths.Goals as goal

pub returns-clause-parts : goal.returns-clause-parts
returns-clause-parts c tree front rest = node_parts (Some tree) front rest

pub returns-clause-child : goal.returns-clause-child
returns-clause-child c tree path token own children k child e l = child_there tree path k token own children child e l

pub returns-clause-no_child : goal.returns-clause-no_child
returns-clause-no_child c tree path token own children k child e l = none_past tree path token own children child e k l

pub returns-clause-outcome : goal.returns-clause-outcome
returns-clause-outcome c tree path token own children child e =
    ap outcome_of e
    ∙ ap (λ (v : Verdict). Some v) (split_joins token own children child)
