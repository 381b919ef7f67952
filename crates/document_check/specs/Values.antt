-- What a claim says of a value that isn't reached.
use Rattle.std.specs.Prelude.{ℕ, ◌≡◌}
use Rattle.packing_terms.specs.Packing.{PlainInstance}
use Rattle.text_terms.specs.declared.claim.Claim.{Claim}
use Rattle.verdict_terms.specs.declared.heading.Heading.TheVariants.{Answer, Reduced}
use Rattle.verdict_terms.specs.Stages.{refutation_goal, value_refuted}
use Rattle.verdict_terms.specs.Trees.{ToReach}

-- the value is the one that the claim says to be refuted
pub record IsValueClaim (instance : PlainInstance) (claim : Claim) (refuted : ℕ) : Type 0 where
  pub answer : refutation_goal Answer instance claim ≡ ToReach instance refuted
  pub reduced : refutation_goal Reduced instance claim ≡ ToReach instance refuted
  pub value : value_refuted claim ≡ refuted
