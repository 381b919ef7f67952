use Rattle.verdict_terms.proofs.Places.{places_tested}
use Rattle.verdict_terms.proofs.check_laws.places_are_tested.Goals as goal

pub returns : goal.returns
returns c = places_tested
