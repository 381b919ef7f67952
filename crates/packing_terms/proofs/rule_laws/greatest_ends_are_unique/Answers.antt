use Rattle.packing_terms.proofs.UniqueEnds.{same_ends}
use Rattle.packing_terms.proofs.rule_laws.greatest_ends_are_unique.Goals as goal

pub returns : goal.returns
returns c instance X first second sides some_dim count other ends others =
    same_ends instance sides X some_dim first second count other ends others
