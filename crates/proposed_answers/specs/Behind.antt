-- The outcome with a proposal: the proposal where it passes its test, and else the outcome of the class
-- tree under the budget. The number of workers has no part.
use Rattle.std.specs.Prelude.{ℕ, ◌≡◌, ◌*◌, ◌/◌, Bool, true, false, List, [], length, map}
use Rattle.std.specs.List.{list_any}
use Rattle.packing_terms.specs.Packing.{PlainInstance, dims, box_count}
use Rattle.packing_terms.specs.Tokens.{PlainToken}
use Rattle.packing_terms.specs.Tokens.PlainToken.{Scales, GlobalScales}
use Rattle.tree_terms.specs.Trees.{PlainOutcome, Decided, Past, Yes, No, outcome, under_budget, count_of}
use Rattle.tree_terms.specs.ClassTree.{class_tree}
use Rattle.verdict_terms.specs.declared.check_answers.PlaceVerdict.{PlaceVerdict}
use Rattle.verdict_terms.specs.declared.check_answers.PlaceVerdict.TheVariants.{Good, Outside, Overlap}
use Rattle.verdict_terms.specs.Placing.{place_verdict}
use Rattle.verdict_terms.specs.Checking.{starting, is_whole, inner_after, checked_after_all}
use Rattle.proof_tree.specs.Plain.{plain_token}
use Rattle.conflict_search.specs.declared.proposal.Proposal.{Proposal}
use Rattle.conflict_search.specs.declared.proposal.Proposal.TheVariants.{Places as ProposedPlaces}
use Rattle.conflict_search.specs.declared.proposal.Proposal.TheVariants.{Tokens as ProposedTokens}
use Rattle.conflict_search.specs.declared.proposal.Proposal.TheVariants.{Nothing as ProposedNothing}

-- a proposal, with lists
pub data PlainProposal : Type 0 where
  Places : List ℕ → PlainProposal
  Tokens : List PlainToken → PlainProposal
  Nothing : PlainProposal

abbrev pub plain_proposal : Proposal → PlainProposal
plain_proposal (ProposedPlaces places) = Places places.items
plain_proposal (ProposedTokens tokens) = Tokens (map plain_token tokens.items)
plain_proposal ProposedNothing = Nothing

-- proposed places have one coordinate for each box and dimension
abbrev pub IsCounted : PlainInstance → PlainProposal → Type 0
IsCounted instance (Places places) = length places ≡ box_count instance * dims instance
IsCounted instance (Tokens tokens) = Unit {0}
IsCounted instance Nothing = Unit {0}

-- whether the tokens are taken one by one and leave no node open
abbrev pub is_refutation : PlainInstance → List PlainToken → Bool
is_refutation instance tokens = is_whole (checked_after_all (inner_after instance) (starting []) tokens)

-- places that are a packing are a yes without a branching; else it is the other outcome
abbrev pub by_places : PlaceVerdict → List ℕ → PlainOutcome → PlainOutcome
by_places Good places other = Decided (Yes places 0)
by_places (Outside v i) places other = other
by_places (Overlap u v) places other = other

-- tokens that are a refutation are a no, in which each second token but the last is a split
abbrev pub by_tokens : Bool → List PlainToken → PlainOutcome → PlainOutcome
by_tokens true tokens other = Decided (No tokens (length tokens / 2))
by_tokens false tokens other = other

-- the proposal where it passes its test, and else the other outcome
abbrev pub outcome_with_proposal : PlainInstance → PlainProposal → PlainOutcome → PlainOutcome
outcome_with_proposal instance (Places places) other = by_places (place_verdict instance places) places other
outcome_with_proposal instance (Tokens tokens) other = by_tokens (is_refutation instance tokens) tokens other
outcome_with_proposal instance Nothing other = other

-- the count of branchings of the described tree, and its outcome under a budget
abbrev pub tree_count : PlainInstance → Bool → ℕ
tree_count instance scales = count_of (outcome (class_tree instance [] scales))

abbrev pub tree_outcome : PlainInstance → ℕ → Bool → PlainOutcome
tree_outcome instance budget scales = under_budget budget (outcome (class_tree instance [] scales))

-- whether a token compares the images of scale functions
abbrev pub is_scale_line : PlainToken → Bool
is_scale_line (Scales fs) = true
is_scale_line (GlobalScales fs) = true
is_scale_line _ = false

abbrev pub has_scale_line : List PlainToken → Bool
has_scale_line tokens = list_any is_scale_line tokens

-- a no has no such token
abbrev pub IsWithoutScales : PlainOutcome → Type 0
IsWithoutScales (Decided (No tokens count)) = has_scale_line tokens ≡ false
IsWithoutScales (Decided (Yes numbers count)) = Unit {0}
IsWithoutScales Past = Unit {0}

-- a proposal has no such token
abbrev pub IsPlainProposal : PlainProposal → Type 0
IsPlainProposal (Tokens tokens) = has_scale_line tokens ≡ false
IsPlainProposal (Places places) = Unit {0}
IsPlainProposal Nothing = Unit {0}
