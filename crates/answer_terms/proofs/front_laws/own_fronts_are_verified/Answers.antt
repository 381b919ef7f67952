use Rattle.answer_terms.proofs.FrontOwn.{own_fronts_are_verified}
use Rattle.answer_terms.proofs.front_laws.own_fronts_are_verified.Goals as goal

pub returns : goal.returns
returns c = own_fronts_are_verified
