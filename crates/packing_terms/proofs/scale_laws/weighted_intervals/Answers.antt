use Rattle.packing_terms.proofs.Packings.{weighted_any, weighted_images}
use Rattle.packing_terms.proofs.scale_laws.weighted_intervals.Goals as goal

pub returns-clause-any : goal.returns-clause-any
returns-clause-any c = weighted_any

pub returns-clause-scales : goal.returns-clause-scales
returns-clause-scales c = weighted_images
