use Rattle.verdict_terms.proofs.Stays.{refusals_stay}
use Rattle.verdict_terms.proofs.laws.refusals_stay.Goals as goal

pub returns : goal.returns
returns c = refusals_stay
