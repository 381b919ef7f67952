-- What is promised of these documents.
use Rattle.std.specs.Prelude.{ℕ, suc, ◌≡◌}
use Rattle.packing_terms.specs.Packing.{PlainInstance, Fits}
use Rattle.packing_terms.specs.Goals.{with_last_side, IsLeastHeight}
use Rattle.packing_terms.specs.Limits.{IsInstance}
use Rattle.text_terms.specs.declared.claim.Claim.TheVariants.{LeastHeight, HeightBetween}
use Rattle.text_terms.specs.Claims.{IsHeightBetween}
use Rattle.answer_terms.specs.BoundedLaws.{IsBoundedFor}
use Rattle.answer_terms.specs.HeightAnswers.{BoundedHeights, BoundedStrip, NoneFits, AreBoundedHeights, IsBoundedStrip}
use Rattle.answer_terms.specs.HeightAnswers.{height_claim, strip_claim, bounded_strip_text}

-- the document of an answer is verified with its claim, and about the instance
abbrev pub OwnBoundedStripsAreVerified : Type 0
OwnBoundedStripsAreVerified = (instance : PlainInstance) (strip : BoundedStrip)
    → IsInstance instance → IsBoundedStrip instance strip
    → IsBoundedFor instance (bounded_strip_text instance strip) (strip_claim strip)

-- The placed height is the least over all packings if it is one more than the refuted height, and else the
-- least one lies between the two. If a box is too wide, the boxes fit at no height.
abbrev pub BoundedStripsAreTrue : Type 0
BoundedStripsAreTrue =
    ((instance : PlainInstance) (heights : BoundedHeights)
    → IsInstance instance → AreBoundedHeights instance heights
    → (suc heights.refuted ≡ heights.placed → IsLeastHeight instance heights.placed)
    × IsHeightBetween instance heights.refuted heights.placed)
    × ((instance : PlainInstance) (v i : ℕ) → IsInstance instance → IsBoundedStrip instance (NoneFits v i)
    → (h : ℕ) → ¬ Fits (with_last_side instance h))

-- the claim is that the placed height is the least if it is one more than the refuted height, and else that the
-- least one lies between the two
abbrev pub BoundedHeightsAreTold : Type 0
BoundedHeightsAreTold = (heights : BoundedHeights)
    → (suc heights.refuted ≡ heights.placed
    → height_claim heights.refuted heights.placed ≡ LeastHeight heights.placed)
    × (¬ (suc heights.refuted ≡ heights.placed)
    → height_claim heights.refuted heights.placed ≡ HeightBetween heights.refuted heights.placed)
