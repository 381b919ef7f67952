-- The tree with priced leaves of a document.
use Rattle.std.specs.Prelude.{ℕ, ◌≡◌, ◌≤◌, Bool, true, false, List, [], ◌∷◌, Result, Ok, Err}
use Rattle.packing_terms.specs.Packing.{PlainInstance, dims}
use Rattle.packing_terms.specs.OuterRefutation.{Choice as BoxChoice}
use Rattle.packing_terms.specs.OuterFeeding.{OpenNode}
use Rattle.packing_terms.specs.OuterPaths.{open_nodes, choices_with}
use Rattle.verdict_terms.specs.declared.check_answers.FeedVerdict.{FeedVerdict}
use Rattle.verdict_terms.specs.declared.check_answers.FeedVerdict.TheVariants.{More, Done, Refused}
use Rattle.text_terms.specs.declared.claim.Claim.{Claim}
use Rattle.verdict_terms.specs.BoundedRefutation.{BoundedToken}
use Rattle.verdict_terms.specs.BoundedJudging.{bounded_after}
use Rattle.outer_check.specs.Outers.{PlainOuter, OuterTree, ForBins, ForValue}
use Rattle.verdict_terms.specs.Stages.{Stage, bounding_line}
use Rattle.verdict_terms.specs.Stages.Stage.{Bounding, Ended}
use Rattle.document_lines.specs.declared.judge.LineStop.{LineStop}
use Rattle.document_lines.specs.declared.judge.LineStop.TheVariants.{Refused as LineRefused, NoMemory}
use Rattle.document_lines.specs.declared.bounding.BoundStep.{BoundStep}
use Rattle.document_lines.specs.declared.bounding.BoundStep.TheVariants.{Tokens, Whole, Stopped}
use Rattle.document_lines.specs.Checkers.{is_outer_open}

-- the value of an outer refuter, and its open nodes
abbrev pub value_of : OuterTree → ℕ
value_of (ForBins k view) = 0
value_of (ForValue y view) = y

abbrev pub choices_of : OuterTree → List (OpenNode BoxChoice)
choices_of (ForBins k view) = []
choices_of (ForValue y view) = open_nodes choices_with view

abbrev pub IsForValue : OuterTree → Type 0
IsForValue (ForBins k view) = ⊥
IsForValue (ForValue y view) = Unit {0}

-- where the document stands at the open nodes of a refuter, and behind its tree
abbrev pub at_nodes : Claim → PlainOuter → Stage
at_nodes claim o = Bounding o.instance claim (value_of o.tree) (choices_of o.tree)

abbrev pub behind_nodes : Claim → PlainOuter → Stage
behind_nodes claim o = Bounding o.instance claim (value_of o.tree) []

-- where the document stands; behind a refused token it stands nowhere
abbrev pub bound_stage : BoundStep → Claim → PlainOuter → Stage
bound_stage Tokens claim o = at_nodes claim o
bound_stage Whole claim o = behind_nodes claim o
bound_stage Stopped claim o = behind_nodes claim o

abbrev pub wants_tokens : BoundStep → Bool
wants_tokens Tokens = true
wants_tokens Whole = false
wants_tokens Stopped = false

-- a node is open where tokens are wanted
abbrev pub IsOpenAt : BoundStep → Bool → Type 0
IsOpenAt Tokens opens = opens ≡ true
IsOpenAt Whole opens = Unit {0}
IsOpenAt Stopped opens = Unit {0}

pub record IsBoundHeld (step : BoundStep) (o : PlainOuter) (dim_count : ℕ) : Type 0 where
  pub opens : IsOpenAt step (is_outer_open o)
  pub for_value : IsForValue o.tree
  pub same_dims : dim_count ≡ dims o.instance
  pub least : 2 ≤ dim_count
  pub most : dim_count ≤ 4

-- the refuter is of the same instance and value
pub record IsSame (old new : PlainOuter) : Type 0 where
  pub instance : new.instance ≡ old.instance
  pub for_value : IsForValue new.tree
  pub value : value_of new.tree ≡ value_of old.tree

-- a token that was fed: the open nodes with it, and whether one is still open; or why it is refused
abbrev pub FeedsNodes : PlainOuter → BoundedToken → PlainOuter → FeedVerdict → Type 0
FeedsNodes old t new More =
    (bounded_after old.instance (value_of old.tree) (choices_of old.tree) t ≡ Ok (choices_of new.tree))
    × (is_outer_open new ≡ true)
FeedsNodes old t new Done =
    (bounded_after old.instance (value_of old.tree) (choices_of old.tree) t ≡ Ok (choices_of new.tree))
    × (choices_of new.tree ≡ [])
FeedsNodes old t new (Refused code) =
    bounded_after old.instance (value_of old.tree) (choices_of old.tree) t ≡ Err code

-- a line that was taken where a token is wanted: the open nodes with it, and whether none is left; or
-- why it is refused
abbrev pub TakesBounded : PlainOuter → List (List ℕ) → PlainOuter → Result Bool LineStop → Type 0
TakesBounded old words new (Ok true) =
    ((claim : Claim) → bounding_line old.instance claim (value_of old.tree) (choices_of old.tree) words
    ≡ Ok (behind_nodes claim new)) × IsSame old new
TakesBounded old words new (Ok false) =
    ((claim : Claim) → bounding_line old.instance claim (value_of old.tree) (choices_of old.tree) words
    ≡ Ok (at_nodes claim new)) × IsSame old new × (is_outer_open new ≡ true)
TakesBounded old words new (Err (LineRefused reason)) =
    ((claim : Claim) → bounding_line old.instance claim (value_of old.tree) (choices_of old.tree) words ≡ Err reason)
    × IsSame old new
TakesBounded old words new (Err NoMemory) = IsSame old new

-- before `end` and behind it
abbrev pub bound_end_stage : PlainInstance → Claim → ℕ → Bool → Stage
bound_end_stage instance claim value true = Ended claim
bound_end_stage instance claim value false = Bounding instance claim value []
