use Rattle.packing_terms.specs.Scales.{image_product, whole_product}
use Rattle.packing_terms.proofs.Excess.{excess_law}
use Rattle.verdict_terms.proofs.ShareBounds.{shares_fit}
use Rattle.verdict_terms.proofs.ShareSteps.{share_most, two_steps}
use Rattle.verdict_terms.proofs.bounded_laws.shares_fit_the_whole.Goals as goal

pub returns-clause-sets : goal.returns-clause-sets
returns-clause-sets c instance fs keep tuple set fits = shares_fit excess_law instance fs keep fits tuple

pub returns-clause-one : goal.returns-clause-one
returns-clause-one c = share_most

pub returns-clause-steps : goal.returns-clause-steps
returns-clause-steps c instance fs v = two_steps (image_product instance fs v) (whole_product instance fs)
