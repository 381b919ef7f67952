use Rattle.answer_terms.proofs.HeightOwn.{own_bounded_strips_verified}
use Rattle.answer_terms.proofs.height_laws.own_bounded_strips_are_verified.Goals as goal

pub returns : goal.returns
returns c = own_bounded_strips_verified
