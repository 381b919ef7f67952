-- A tree that is checked token by token: the open nodes, the next one first, and the refusal if
-- there was one.
use Rattle.std.specs.Prelude.{ℕ, List, [], ◌∷◌, ◌++◌, Bool, true, false, Option, Some, None, Result, Ok, Err}
use Rattle.packing_terms.specs.Results.{◌>>=◌}
use Rattle.packing_terms.specs.declared.Exclusion.{Exclusion}
use Rattle.packing_terms.specs.Packing.{PlainInstance}
use Rattle.packing_terms.specs.Tokens.{PlainToken}
use Rattle.packing_terms.specs.Feeding.{children}
use Rattle.packing_terms.specs.OuterRefutation.{Bins, Choice as BoxChoice}
use Rattle.packing_terms.specs.OuterFeeding.{OpenNode, bin_children, choice_children}
use Rattle.verdict_terms.specs.declared.check_answers.RefuseCode.{RefuseCode}
use Rattle.verdict_terms.specs.declared.check_answers.RefuseCode.TheVariants.{After}
use Rattle.verdict_terms.specs.declared.check_answers.FeedVerdict.{FeedVerdict}
use Rattle.verdict_terms.specs.declared.check_answers.FeedVerdict.TheVariants.{More, Done, Refused}
use Rattle.verdict_terms.specs.Judging.{refusal}
use Rattle.verdict_terms.specs.OuterJudging.{bin_refusal, value_refusal}

-- what is left, where the first node is refused with this code, or else gets these children
abbrev pub left_by : {Node : Type 0} → Option RefuseCode → List Node → List Node → Result (List Node) RefuseCode
left_by (Some code) nodes rest = Err code
left_by None nodes rest = Ok (nodes ++ rest)

-- the open nodes after a token, or why it is refused; a whole tree takes no token
abbrev pub nodes_after : {Node : Type 0} → (Node → PlainToken → Option RefuseCode) → (Node → PlainToken → List Node)
    → List Node → PlainToken
    → Result (List Node) RefuseCode
nodes_after refusal children [] t = Err After
nodes_after refusal children (n ∷ nodes) t = left_by (refusal n t) (children n t) nodes

-- inner tokens at nodes of the inner tree of one instance; outer ones at nodes for k bins, and at
-- nodes for a value
abbrev pub inner_after : PlainInstance → List (List Exclusion) → PlainToken → Result (List (List Exclusion)) RefuseCode
inner_after instance nodes t = nodes_after (refusal instance) children nodes t

abbrev pub bins_after : PlainInstance → ℕ → List (OpenNode Bins) → PlainToken → Result (List (OpenNode Bins)) RefuseCode
bins_after instance k nodes t = nodes_after (bin_refusal instance k) (bin_children k) nodes t

abbrev pub value_after : PlainInstance → ℕ → List (OpenNode BoxChoice) → PlainToken
    → Result (List (OpenNode BoxChoice)) RefuseCode
value_after instance goal nodes t = nodes_after (value_refusal instance goal) choice_children nodes t

-- the open nodes, and why a token was refused
pub record Checked (Node : Type 0) : Type 0 where
  pub nodes : List Node
  pub refused : Option RefuseCode

-- nothing was fed yet
abbrev pub starting : {Node : Type 0} → Node → Checked Node
starting root = record { nodes = root ∷ []; refused = None }

-- the nodes that a token leaves, or the nodes as they were with the refusal
abbrev pub checked_by : {Node : Type 0} → List Node → Result (List Node) RefuseCode → Checked Node
checked_by nodes (Ok left) = record { nodes = left; refused = None }
checked_by nodes (Err code) = record { nodes = nodes; refused = Some code }

-- a token more; a refusal stays
abbrev pub kept_or : {Node : Type 0} → Option RefuseCode → Checked Node → Checked Node → Checked Node
kept_or (Some code) old new = old
kept_or None old new = new

abbrev pub checked_after : {Node : Type 0} → (List Node → PlainToken → Result (List Node) RefuseCode) → Checked Node
    → PlainToken → Checked Node
checked_after after old t = kept_or old.refused old (checked_by old.nodes (after old.nodes t))

-- whether the tree was accepted whole
abbrev pub is_whole_by : {Node : Type 0} → Option RefuseCode → List Node → Bool
is_whole_by None [] = true
is_whole_by None (n ∷ nodes) = false
is_whole_by (Some code) nodes = false

abbrev pub is_whole : {Node : Type 0} → Checked Node → Bool
is_whole s = is_whole_by s.refused s.nodes

-- what is answered, by what is held after the token
abbrev pub answered_by : {Node : Type 0} → Option RefuseCode → List Node → FeedVerdict
answered_by (Some code) nodes = Refused code
answered_by None [] = Done
answered_by None (n ∷ nodes) = More

abbrev pub answered : {Node : Type 0} → Checked Node → FeedVerdict
answered s = answered_by s.refused s.nodes

-- all tokens, one by one
abbrev pub nodes_after_all : {Node : Type 0} → (List Node → PlainToken → Result (List Node) RefuseCode) → List Node
    → List PlainToken
    → Result (List Node) RefuseCode
nodes_after_all after nodes [] = Ok nodes
nodes_after_all after nodes (t ∷ ts) = after nodes t >>= λ left. nodes_after_all after left ts

-- the same as they are fed: what is held after them all
abbrev pub checked_after_all : {Node : Type 0} → (List Node → PlainToken → Result (List Node) RefuseCode) → Checked Node
    → List PlainToken → Checked Node
checked_after_all after s [] = s
checked_after_all after s (t ∷ ts) = checked_after_all after (checked_after after s t) ts
