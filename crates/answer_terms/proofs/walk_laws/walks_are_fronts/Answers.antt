use Rattle.answer_terms.proofs.Decided.{walks_are_good, walks_are_fronts}
use Rattle.answer_terms.proofs.Named.{front_names}
use Rattle.answer_terms.proofs.walk_laws.walks_are_fronts.Goals as goal

pub returns : goal.returns
returns c = record { good = walks_are_good; named = front_names; fronts = walks_are_fronts }
