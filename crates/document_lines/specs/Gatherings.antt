-- The tree with families of a document.
use Rattle.std.specs.Prelude.{ℕ, ◌≡◌, ◌≤◌, Bool, true, false, List, [], ◌∷◌, Result, Ok, Err}
use Rattle.packing_terms.specs.Packing.{PlainInstance, dims}
use Rattle.verdict_terms.specs.declared.check_answers.FeedVerdict.{FeedVerdict}
use Rattle.verdict_terms.specs.declared.check_answers.FeedVerdict.TheVariants.{More, Done, Refused}
use Rattle.text_terms.specs.declared.claim.Claim.{Claim}
use Rattle.verdict_terms.specs.FamilyRefutation.{FamilyToken, Free}
use Rattle.verdict_terms.specs.FamilyChecking.{families_after}
use Rattle.outer_check.specs.FamilyRefuters.{PlainFamilyRefuter}
use Rattle.verdict_terms.specs.Stages.{Stage, gathering_line}
use Rattle.verdict_terms.specs.Stages.Stage.{ProvingFamilies, Gathering, Ended}
use Rattle.document_lines.specs.declared.judge.LineStop.{LineStop}
use Rattle.document_lines.specs.declared.judge.LineStop.TheVariants.{Refused as LineRefused, NoMemory}
use Rattle.document_lines.specs.declared.tree.TreeStep.{TreeStep}
use Rattle.document_lines.specs.declared.tree.TreeStep.TheVariants.{Proof, Tokens, Whole, Stopped}
use Rattle.document_lines.specs.Checkers.{has_open}

-- nothing was refused, and a node is open
abbrev pub is_family_open : PlainFamilyRefuter → Bool
is_family_open r = has_open r.checked.refused r.checked.nodes

-- where the document stands before `proof`, at the open nodes of a refuter, and behind its tree
abbrev pub before_families : Claim → PlainFamilyRefuter → Stage
before_families claim r = ProvingFamilies r.instance claim

abbrev pub at_families : Claim → PlainFamilyRefuter → Stage
at_families claim r = Gathering r.instance claim r.checked.nodes

abbrev pub behind_families : Claim → PlainFamilyRefuter → Stage
behind_families claim r = Gathering r.instance claim []

-- where the document stands; behind a refused token it stands nowhere
abbrev pub family_stage : TreeStep → Claim → PlainFamilyRefuter → Stage
family_stage Proof claim r = before_families claim r
family_stage Tokens claim r = at_families claim r
family_stage Whole claim r = behind_families claim r
family_stage Stopped claim r = behind_families claim r

-- what is kept: nothing was fed before `proof`, and a node is open where tokens are wanted
abbrev pub AreReady : TreeStep → PlainFamilyRefuter → Type 0
AreReady Proof r = (r.checked.nodes ≡ Free [] ∷ []) × (is_family_open r ≡ true)
AreReady Tokens r = is_family_open r ≡ true
AreReady Whole r = Unit {0}
AreReady Stopped r = Unit {0}

pub record IsFamilyHeld (step : TreeStep) (r : PlainFamilyRefuter) (dim_count : ℕ) : Type 0 where
  pub ready : AreReady step r
  pub same_dims : dim_count ≡ dims r.instance
  pub least : 2 ≤ dim_count
  pub most : dim_count ≤ 4

-- a token that was fed: the open nodes with it, and whether one is still open; or why it is refused
abbrev pub FeedsFamily : PlainFamilyRefuter → FamilyToken → PlainFamilyRefuter → FeedVerdict → Type 0
FeedsFamily old t new More =
    (families_after old.instance old.checked.nodes t ≡ Ok new.checked.nodes) × (is_family_open new ≡ true)
FeedsFamily old t new Done = families_after old.instance old.checked.nodes t ≡ Ok []
FeedsFamily old t new (Refused code) = families_after old.instance old.checked.nodes t ≡ Err code

-- a line that was taken where a token is wanted: the open nodes with it, and whether none is left; or
-- why it is refused
abbrev pub TakesFamily : PlainFamilyRefuter → List (List ℕ) → PlainFamilyRefuter → Result Bool LineStop → Type 0
TakesFamily old words new (Ok true) =
    ((claim : Claim) → gathering_line old.instance claim old.checked.nodes words ≡ Ok (behind_families claim new))
    × (new.instance ≡ old.instance)
TakesFamily old words new (Ok false) =
    ((claim : Claim) → gathering_line old.instance claim old.checked.nodes words ≡ Ok (at_families claim new))
    × (new.instance ≡ old.instance) × (is_family_open new ≡ true)
TakesFamily old words new (Err (LineRefused reason)) =
    ((claim : Claim) → gathering_line old.instance claim old.checked.nodes words ≡ Err reason)
    × (new.instance ≡ old.instance)
TakesFamily old words new (Err NoMemory) = new.instance ≡ old.instance

-- before `end` and behind it
abbrev pub family_end_stage : PlainInstance → Claim → Bool → Stage
family_end_stage instance claim true = Ended claim
family_end_stage instance claim false = Gathering instance claim []
