-- The tree of a document.
use Rattle.std.specs.Prelude.{ℕ, ◌≡◌, ◌≤◌, Bool, true, false, List, [], ◌∷◌, Some, Result, Ok, Err}
use Rattle.packing_terms.specs.Tokens.{PlainToken}
use Rattle.text_terms.specs.declared.claim.Claim.{Claim}
use Rattle.verdict_terms.specs.declared.check_answers.FeedVerdict.{FeedVerdict}
use Rattle.verdict_terms.specs.declared.check_answers.FeedVerdict.TheVariants.{More, Done, Refused}
use Rattle.verdict_terms.specs.Stages.{Stage, tree_line, grown_tree}
use Rattle.verdict_terms.specs.Stages.Stage.{Proving, Refuting, Ending}
use Rattle.verdict_terms.specs.Trees.{Refuted, ToFit, ToFitIn, ToReach, Tree, InnerTree, BinTree, ValueTree, begun}
use Rattle.verdict_terms.specs.Trees.{tree_dims, tree_after, is_whole}
use Rattle.document_lines.specs.declared.judge.LineStop.{LineStop}
use Rattle.document_lines.specs.declared.judge.LineStop.TheVariants.{Refused as LineRefused, NoMemory}
use Rattle.document_lines.specs.declared.tree.TreeStep.{TreeStep}
use Rattle.document_lines.specs.declared.tree.TreeStep.TheVariants.{Proof, Tokens, Whole, Stopped}

-- a token that was fed: the tree with it, and whether a node is still open; or why it is refused
abbrev pub IsFed : Tree → PlainToken → Tree → Bool → FeedVerdict → Type 0
IsFed old t new opens More = (tree_after old t ≡ Ok new) × (is_whole new ≡ false) × (opens ≡ true)
IsFed old t new opens Done = (tree_after old t ≡ Ok new) × (is_whole new ≡ true)
IsFed old t new opens (Refused code) = tree_after old t ≡ Err code

-- what a tree to which no token was fed is to refute: its one open node is what it begins with
abbrev pub refuted_by : Tree → Refuted
refuted_by (InnerTree instance []) = ToFit instance []
refuted_by (InnerTree instance (start ∷ nodes)) = ToFit instance start
refuted_by (BinTree instance k nodes) = ToFitIn instance k
refuted_by (ValueTree instance y nodes) = ToReach instance y

-- where the document stands; behind a refused token it stands nowhere
abbrev pub tree_stage : TreeStep → Claim → ℕ → Tree → Stage
tree_stage Proof claim dims tree = Proving claim (refuted_by tree)
tree_stage Tokens claim dims tree = Refuting claim tree
tree_stage Whole claim dims tree = Ending claim (Some dims)
tree_stage Stopped claim dims tree = Ending claim (Some dims)

abbrev pub takes_lines : TreeStep → Bool
takes_lines Proof = true
takes_lines Tokens = true
takes_lines Whole = false
takes_lines Stopped = false

-- what is kept: nothing was fed before `proof`, and a node is open where tokens are wanted
abbrev pub IsReady : TreeStep → Tree → Bool → Type 0
IsReady Proof tree opens = (begun (refuted_by tree) ≡ tree) × (opens ≡ true)
IsReady Tokens tree opens = opens ≡ true
IsReady Whole tree opens = Unit {0}
IsReady Stopped tree opens = Unit {0}

-- the dimensions of the tree
abbrev pub HasDims : TreeStep → ℕ → Tree → Type 0
HasDims Proof dims tree = dims ≡ tree_dims tree
HasDims Tokens dims tree = dims ≡ tree_dims tree
HasDims Whole dims tree = Unit {0}
HasDims Stopped dims tree = Unit {0}

pub record IsTreeHeld (step : TreeStep) (tree : Tree) (opens : Bool) (dims : ℕ) : Type 0 where
  pub ready : IsReady step tree opens
  pub same_dims : HasDims step dims tree
  pub least : 2 ≤ dims
  pub most : dims ≤ 4

-- a line that was taken where a token is wanted: the tree with it, and whether it is whole; or why
-- it is refused
abbrev pub TakesToken : Tree → List (List ℕ) → Tree → Bool → Result Bool LineStop → Type 0
TakesToken old words new opens (Ok whole) =
    ((claim : Claim) → tree_line claim old words ≡ Ok (grown_tree claim new)) × (is_whole new ≡ whole)
    × (tree_dims new ≡ tree_dims old) × (whole ≡ false → opens ≡ true)
TakesToken old words new opens (Err (LineRefused reason)) = (claim : Claim) → tree_line claim old words ≡ Err reason
TakesToken old words new opens (Err NoMemory) = Unit {0}
