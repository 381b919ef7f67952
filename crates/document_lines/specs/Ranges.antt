-- The ranges of the numbers of a claim.
use Rattle.std.specs.Prelude.{◌<◌, ◌≤◌}
use Rattle.packing_terms.specs.Packing.{PlainInstance, box_count}
use Rattle.packing_terms.specs.Limits.{max_height}
use Rattle.text_terms.specs.declared.claim.Claim.{Claim}
use Rattle.text_terms.specs.declared.claim.Claim.TheVariants.{LeastHeight, HeightBetween, LeastBins, BinsBetween}
use Rattle.text_terms.specs.declared.claim.Claim.TheVariants.{GreatestValue, ValueBetween}
use Rattle.text_terms.specs.Claims.{max_worth}

-- the numbers of a claim of an instance are within their ends
abbrev pub IsRanged : PlainInstance → Claim → Type 0
IsRanged instance (LeastHeight h) = (1 ≤ h) × (h ≤ max_height)
IsRanged instance (HeightBetween a b) = (a < b) × (b ≤ max_height)
IsRanged instance (LeastBins k) = (1 ≤ k) × (k ≤ box_count instance)
IsRanged instance (BinsBetween a b) = (a < b) × (b ≤ box_count instance)
IsRanged instance (GreatestValue v) = v ≤ max_worth
IsRanged instance (ValueBetween a b) = (a < b) × (b ≤ max_worth)
IsRanged instance _ = Unit {0}
