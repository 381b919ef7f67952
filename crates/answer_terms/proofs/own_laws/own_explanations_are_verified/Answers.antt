use Rattle.answer_terms.proofs.OwnExplained.{own_explained}
use Rattle.answer_terms.proofs.own_laws.own_explanations_are_verified.Goals as goal

pub returns : goal.returns
returns c = own_explained
