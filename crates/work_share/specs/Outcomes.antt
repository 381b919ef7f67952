-- Outcomes as the plain data of the definitions.
use Rattle.tree_terms.specs.Trees.{PlainOutcome, Decided, Past as PlainPast, Yes as PlainYes, No as PlainNo}
use Rattle.proof_tree.specs.declared.outcome.Outcome.{Outcome}
use Rattle.proof_tree.specs.declared.outcome.Outcome.TheVariants.{Yes, No, Past}

-- an outcome, with lists
abbrev pub plain_outcome : Outcome → PlainOutcome
plain_outcome (Yes numbers count) = Decided (PlainYes numbers.items count)
plain_outcome (No tokens count) = Decided (PlainNo tokens count)
plain_outcome Past = PlainPast
