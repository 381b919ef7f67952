use Rattle.verdict_terms.proofs.Sizes.{fits_wider}
use Rattle.verdict_terms.proofs.front_laws.sizes_are_monotone.Goals as goal

pub returns : goal.returns
returns c = fits_wider
