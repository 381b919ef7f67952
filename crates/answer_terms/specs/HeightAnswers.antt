-- The answer of `strip` by refutations with families, its status, and its text: a document in the one spelling.
--
--     bounded strip          instance lines          result ..          place lines, proof, tokens          end
use Rattle.std.specs.Prelude.{ℕ, suc, ◌<◌, ◌≤◌, ◌==◌, cond, List, [], ◌∷◌, ◌++◌, length, map, codes}
use Rattle.packing_terms.specs.Packing.{PlainInstance, IsPacking}
use Rattle.packing_terms.specs.Goals.{with_last_side, HasTooWideBox}
use Rattle.packing_terms.specs.Limits.{max_height}
use Rattle.packing_terms.specs.TooLarge.{IsFirstTooWide}
use Rattle.packing_terms.specs.Tokens.PlainToken.{TooLarge}
use Rattle.text_terms.specs.Spelling.{lines_text}
use Rattle.text_terms.specs.declared.claim.SolvingJob.TheVariants.{Strip}
use Rattle.text_terms.specs.declared.claim.Claim.{Claim}
use Rattle.text_terms.specs.declared.claim.Claim.TheVariants.{LeastHeight, HeightBetween, NoHeight}
use Rattle.text_terms.specs.Claims.{result_words}
use Rattle.verdict_terms.specs.FamilyRefutation.{FamilyToken, Plain, Family, Free, RefutesFamilies}
use Rattle.verdict_terms.specs.FamilyLines.{family_token_words, most_joining}
use Rattle.answer_terms.specs.Answers.{Lines, claim_status, document_lines, place_lines, token_lines}

-- A refuted height, with the tokens that refute it, and a placed height, with coordinates of a packing.
pub record BoundedHeights : Type 0 where
  pub refuted : ℕ
  pub tokens : List FamilyToken
  pub placed : ℕ
  pub places : List ℕ

-- The two heights, or the first box that is longer than the container in a dimension other than the last, and
-- its first such dimension, both counted from 0.
pub data BoundedStrip : Type 0 where
  Heights : (heights : BoundedHeights) → BoundedStrip
  NoneFits : (box dim : ℕ) → BoundedStrip

-- a family's token has a line: from 1 to 9 boxes join by it
abbrev pub AreJoining : List FamilyToken → Type 0
AreJoining [] = Unit {0}
AreJoining (Plain t ∷ ts) = AreJoining ts
AreJoining (Family i vs ∷ ts) = (1 ≤ length vs) × (length vs ≤ most_joining) × AreJoining ts

-- The coordinates are a packing at the placed height, and the tokens refute the refuted height, which is the
-- lower one.
pub record AreBoundedHeights (instance : PlainInstance) (heights : BoundedHeights) : Type 0 where
  pub rising : heights.refuted < heights.placed
  pub most : heights.placed ≤ max_height
  pub narrow : ¬ HasTooWideBox instance
  pub packing : IsPacking (with_last_side instance heights.placed) heights.places
  pub refutation : RefutesFamilies (with_last_side instance heights.refuted) (Free []) heights.tokens
  pub joining : AreJoining heights.tokens

abbrev pub IsBoundedStrip : PlainInstance → BoundedStrip → Type 0
IsBoundedStrip instance (Heights heights) = AreBoundedHeights instance heights
IsBoundedStrip instance (NoneFits v i) = IsFirstTooWide instance v i

-- the claim: the placed height is the least if it is one more than the refuted height
unfoldable pub height_claim : ℕ → ℕ → Claim
height_claim refuted placed = cond (suc refuted == placed) (LeastHeight placed) (HeightBetween refuted placed)

abbrev pub strip_claim : BoundedStrip → Claim
strip_claim (Heights heights) = height_claim heights.refuted heights.placed
strip_claim (NoneFits v i) = NoHeight

abbrev pub strip_status : BoundedStrip → ℕ
strip_status strip = claim_status (strip_claim strip)

-- a line for each token
abbrev pub family_token_lines : List FamilyToken → Lines
family_token_lines tokens = map family_token_words tokens

-- what stands between the result line and `end`: a line for each box, `proof`, and a line for each token; or
-- the line of a box that is too wide
abbrev pub heights_backing : PlainInstance → List ℕ → List FamilyToken → Lines
heights_backing instance places tokens =
    place_lines instance places ++ (codes "proof" ∷ []) ∷ family_token_lines tokens

abbrev pub strip_backing : PlainInstance → BoundedStrip → Lines
strip_backing instance (Heights heights) = heights_backing instance heights.places heights.tokens
strip_backing instance (NoneFits v i) = token_lines (TooLarge (suc v) (suc i) ∷ [])

abbrev pub bounded_strip_lines : PlainInstance → BoundedStrip → Lines
bounded_strip_lines instance strip =
    document_lines (codes "bounded") instance Strip (result_words (strip_claim strip)) (strip_backing instance strip)

-- the document, a line feed after each line
unfoldable pub bounded_strip_text : PlainInstance → BoundedStrip → List ℕ
bounded_strip_text instance strip = lines_text (bounded_strip_lines instance strip)
