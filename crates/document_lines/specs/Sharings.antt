-- The bins of a document.
use Rattle.std.specs.Prelude.{ℕ, ◌*◌, ◌<◌, ◌≡◌, ◌==◌, Bool, true, false, List, length, map, Option, Some, Result, Ok}
use Rattle.std.specs.Prelude.{Err}
use Rattle.std.specs.List.{range_with_len, All}
use Rattle.packing_terms.specs.Packing.{PlainInstance, dims, box_count}
use Rattle.packing_terms.specs.Goals.{subset, in_bin, places_of}
use Rattle.packing_terms.specs.Scales.{SidesFit}
use Rattle.verdict_terms.specs.declared.check_answers.PlaceVerdict.{PlaceVerdict}
use Rattle.verdict_terms.specs.Placing.{place_verdict}
use Rattle.text_terms.specs.declared.claim.Claim.{Claim}
use Rattle.verdict_terms.specs.declared.heading.Heading.TheVariants.{Answer}
use Rattle.verdict_terms.specs.declared.reason.Reason.{Reason}
use Rattle.verdict_terms.specs.declared.reason.Reason.TheVariants.{OutsideAt}
use Rattle.verdict_terms.specs.Stages.{Stage, placed, refutation_goal, refused_by, bins_reason, share_line}
use Rattle.verdict_terms.specs.Stages.Stage.{Sharing, Proving}
use Rattle.verdict_terms.specs.Trees.{ToFitIn}
use Rattle.document_lines.specs.declared.judge.LineStop.{LineStop}
use Rattle.document_lines.specs.declared.judge.LineStop.TheVariants.{Refused, NoMemory}

-- the boxes of a bin, and the verdict on their places
abbrev pub bin_group : PlainInstance → List ℕ → List ℕ → ℕ → List ℕ × PlaceVerdict
bin_group instance bins places b =
    (in_bin bins b, place_verdict (subset instance (in_bin bins b)) (places_of instance places (in_bin bins b)))

-- those of the first k bins
abbrev pub bin_groups : PlainInstance → List ℕ → List ℕ → ℕ → List (List ℕ × PlaceVerdict)
bin_groups instance bins places k = map (bin_group instance bins places) (range_with_len 0 k)

-- whether the reason is that a box leaves the container
abbrev pub is_outside : Option Reason → Bool
is_outside (Some (OutsideAt v i)) = true
is_outside _ = false

-- what is kept: a coordinate in each dimension for each bin number, and each of these is small
-- enough
pub record AreShares (instance : PlainInstance) (k : ℕ) (bins places : List ℕ) : Type 0 where
  pub enough : length places ≡ length bins * dims instance
  pub below : All (λ b. b < k) bins

-- behind all bins no side of a box exceeds the container's
pub record IsShared (instance : PlainInstance) (k : ℕ) (bins places : List ℕ) (is_shared : Bool) : Type 0 where
  pub shares : AreShares instance k bins places
  pub fit : is_shared ≡ true → SidesFit instance

-- the bins so far, and behind them all
abbrev pub share_stage : PlainInstance → Claim → ℕ → List ℕ → List ℕ → Bool → Stage
share_stage instance claim k bins places true = placed Answer claim (refutation_goal Answer instance claim)
share_stage instance claim k bins places false = Sharing instance claim k bins places

-- behind a line that was taken: at the last one the places are tested
abbrev pub shared_by : PlainInstance → Claim → ℕ → List ℕ → List ℕ → Result Stage Reason
shared_by instance claim k bins places =
    elim (length bins == box_count instance) [
      | true ↦ refused_by (bins_reason instance k bins places) (Ok (placed Answer claim (refutation_goal Answer instance claim)))
      | false ↦ Ok (Sharing instance claim k bins places)
    ]

-- the bin and the coordinates of a box that were taken, or why they are refused
abbrev pub TakesShare : PlainInstance → ℕ → List ℕ → List ℕ → List ℕ → List ℕ → List ℕ
    → Result (Unit {0}) LineStop → Type 0
TakesShare instance k bins places numbers more_bins more_places (Ok u) =
    (claim : Claim) → share_line instance claim k bins places numbers ≡ shared_by instance claim k more_bins more_places
TakesShare instance k bins places numbers more_bins more_places (Err (Refused reason)) =
    (claim : Claim) → share_line instance claim k bins places numbers ≡ Err reason
TakesShare instance k bins places numbers more_bins more_places (Err NoMemory) = Unit {0}

-- whether these are the bins of all boxes, tested; or why they are refused
abbrev pub TestsShares : PlainInstance → ℕ → List ℕ → List ℕ → Result Bool LineStop → Type 0
TestsShares instance k bins places (Ok true) =
    ((claim : Claim) → shared_by instance claim k bins places ≡ Ok (placed Answer claim (refutation_goal Answer instance claim)))
    × SidesFit instance
TestsShares instance k bins places (Ok false) =
    (claim : Claim) → shared_by instance claim k bins places ≡ Ok (Sharing instance claim k bins places)
TestsShares instance k bins places (Err (Refused reason)) =
    (claim : Claim) → shared_by instance claim k bins places ≡ Err reason
TestsShares instance k bins places (Err NoMemory) = Unit {0}

-- where a refutation for bins is wanted, no side of a box exceeds the container's
abbrev pub HaveSides : Stage → Type 0
HaveSides (Proving claim (ToFitIn instance k)) = SidesFit instance
HaveSides _ = Unit {0}
