use Rattle.answer_terms.proofs.Spent.{spent_exactly, enough}
use Rattle.answer_terms.proofs.walk_laws.walks_are_spent_exactly.Goals as goal

pub returns : goal.returns
returns c = record { spent = spent_exactly; enough = enough }
