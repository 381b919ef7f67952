use Rattle.answer_terms.proofs.FrontOwn.{own_fronts_are_fronts}
use Rattle.answer_terms.proofs.front_laws.own_fronts_are_fronts.Goals as goal

pub returns : goal.returns
returns c = own_fronts_are_fronts
