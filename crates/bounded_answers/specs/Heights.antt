-- A refuted and a placed height as they are held, and what is promised of them.
use Rattle.std.specs.Prelude.{ℕ, suc, pred, ◌-◌, ◌<◌, ◌≤◌, Bool, true, false, List, [], ◌∷◌, map}
use Rattle.packing_terms.specs.Packing.{PlainInstance}
use Rattle.packing_terms.specs.Goals.{with_last_side}
use Rattle.packing_terms.specs.Tokens.{PlainToken}
use Rattle.text_terms.specs.declared.settings.Settings.{Settings}
use Rattle.tree_terms.specs.Levels.{height_run}
use Rattle.tree_terms.specs.RunEnds.{HasHeightPastBudget}
use Rattle.verdict_terms.specs.FamilyRefutation.{FamilyToken as PlainFamilyToken, Plain as PlainPlain, Free, RefutesFamilies}
use Rattle.bounded_tokens.specs.declared.family_token.FamilyToken.{FamilyToken}
use Rattle.bounded_tokens.specs.FamilyPlain.{plain_family_tokens}
use Rattle.answer_terms.specs.HeightAnswers.{BoundedHeights, BoundedStrip as PlainStrip, Heights, NoneFits as PlainNoneFits}
use Rattle.answer_terms.specs.HeightAnswers.{AreBoundedHeights, IsBoundedStrip, AreJoining}
use Rattle.strip_solver.specs.declared.strip.Strip.{Strip}
use Rattle.strip_solver.specs.declared.strip.Strip.TheVariants.{Least, Between, NoneFits as NoHeightFits}
use Rattle.proposed_answers.specs.Heights.{height_count}
use Rattle.proposed_answers.specs.Shares.{level_share}
use Rattle.bounded_answers.specs.declared.height_levels.HeightLevels.{HeightLevels}
use Rattle.bounded_answers.specs.declared.height_levels.HeightProof.{HeightProof}
use Rattle.bounded_answers.specs.declared.height_levels.HeightProof.TheVariants.{Plain, Families}
use Rattle.bounded_answers.specs.declared.height_levels.BoundedStrip.{BoundedStrip}
use Rattle.bounded_answers.specs.declared.height_levels.BoundedStrip.TheVariants.{Levels, NoneFits}

-- plain tokens as those of a refutation with families
abbrev pub as_families : List PlainToken → List PlainFamilyToken
as_families tokens = map (λ t. PlainPlain t) tokens

-- the tokens of a refutation
abbrev pub plain_proof : HeightProof → List PlainFamilyToken
plain_proof (Plain tokens) = as_families tokens
plain_proof (Families tokens) = plain_family_tokens tokens.items

abbrev pub plain_levels : HeightLevels → BoundedHeights
plain_levels levels = record {
  refuted = levels.refuted;
  tokens = plain_proof levels.proof;
  placed = levels.placed;
  places = levels.places.items;
}

-- the tokens refute the refuted height, and the coordinates are a packing at the placed one
abbrev pub AreLevels : PlainInstance → HeightLevels → Type 0
AreLevels instance levels = AreBoundedHeights instance (plain_levels levels)

-- what is answered for a strip as the plain data of the definitions
abbrev pub plain_strip : BoundedStrip → PlainStrip
plain_strip (Levels levels) = Heights (plain_levels levels)
plain_strip (NoneFits v i) = PlainNoneFits v i

-- it is an answer: two heights with their certificates, or the first box that is too wide
abbrev pub IsAnswer : PlainInstance → BoundedStrip → Type 0
IsAnswer instance strip = IsBoundedStrip instance (plain_strip strip)

-- the inner levels lie within the outer ones
pub record IsWithin (outer inner : HeightLevels) : Type 0 where
  pub refuted : outer.refuted ≤ inner.refuted
  pub placed : inner.placed ≤ outer.placed

-- the tokens refute the height, and each family's token has a line
pub record AreRefutedBy (instance : PlainInstance) (height : ℕ) (tokens : List FamilyToken) : Type 0 where
  pub refutation : RefutesFamilies (with_last_side instance height) (Free []) (plain_family_tokens tokens)
  pub joining : AreJoining (plain_family_tokens tokens)

-- ---- the heights of the run without families

-- where the run without families ends, if it is at two heights
abbrev pub told_heights : ℕ → List PlainToken → ℕ → List ℕ → BoundedHeights
told_heights refuted tokens placed places =
    record { refuted = refuted; tokens = as_families tokens; placed = placed; places = places }

abbrev pub strip_told : Strip → PlainStrip
strip_told (Least height places tokens) = Heights (told_heights (height - 1) tokens height places.items)
strip_told (Between refuted tokens height places) = Heights (told_heights refuted tokens height places.items)
strip_told (NoHeightFits v i) = PlainNoneFits v i

-- The run of class trees ends open: some height that it decides has a tree with more branchings than the
-- budget. The two heights lie within its heights.
pub record IsOpenRun (instance : PlainInstance) (settings : Settings) (refuted placed : ℕ) : Type 0 where
  pub spent : HasHeightPastBudget instance settings.budget settings.scales
  pub lower : (height_run instance settings.budget settings.scales).refuted ≤ refuted
  pub upper : placed ≤ (height_run instance settings.budget settings.scales).placed

-- The two heights lie within two others, such that the class trees of the height above the lower one and of the
-- height below the upper one have more branchings than the share of the budget. No definition names the run with
-- proposals, so it isn't said that it ends with these.
pub record IsOpenProposed (instance : PlainInstance) (settings : Settings) (refuted placed : ℕ) : Type 0 where
  pub low : ℕ
  pub high : ℕ
  pub lower : low ≤ refuted
  pub upper : placed ≤ high
  pub past_above : level_share settings.budget < height_count instance settings.scales (suc low)
  pub past_below : level_share settings.budget < height_count instance settings.scales (pred high)

-- the run without families ends open, without proposals or with them, and the two heights lie within its
-- heights
abbrev pub IsOpenWithout : Bool → PlainInstance → Settings → ℕ → ℕ → Type 0
IsOpenWithout false instance settings refuted placed = IsOpenRun instance settings refuted placed
IsOpenWithout true instance settings refuted placed = IsOpenProposed instance settings refuted placed

-- an answer is two heights with others between only where that run's is, and within it
abbrev pub IsOpenOnlyPast : Bool → PlainInstance → Settings → PlainStrip → Type 0
IsOpenOnlyPast proposals instance settings (Heights heights) =
    suc heights.refuted < heights.placed
    → IsOpenWithout proposals instance settings heights.refuted heights.placed
IsOpenOnlyPast proposals instance settings (PlainNoneFits v i) = Unit {0}
