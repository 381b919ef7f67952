-- An explained refutation that is audited line by line: the open nodes, the next one first, and the
-- refusal if there was one.
use Rattle.std.specs.Prelude.{ℕ, ◌≡◌, ◌+◌, List, [], ◌∷◌, ◌++◌, Bool, true, false, Option, Some, None, Result, Ok, Err}
use Rattle.packing_terms.specs.Results.{◌>>=◌}
use Rattle.packing_terms.specs.Packing.{PlainInstance, dims, box_count}
use Rattle.packing_terms.specs.Exclusions.{relation_count}
use Rattle.verdict_terms.specs.declared.explained_answers.AuditCode.{AuditCode}
use Rattle.verdict_terms.specs.declared.explained_answers.AuditCode.TheVariants.{After}
use Rattle.verdict_terms.specs.declared.explained_answers.AuditVerdict.{AuditVerdict}
use Rattle.verdict_terms.specs.declared.explained_answers.AuditVerdict.TheVariants.{More, Done, Refused}
use Rattle.verdict_terms.specs.Steps.{PlainStep}
use Rattle.verdict_terms.specs.ExplainedJudging.{AuditNode, at_rest, audit_refusal, audit_children}

-- what is left, where the first node is refused with this code, or else gets these children
abbrev pub left_by : Option AuditCode → List AuditNode → List AuditNode → Result (List AuditNode) AuditCode
left_by (Some code) nodes rest = Err code
left_by None nodes rest = Ok (nodes ++ rest)

-- the open nodes after a line, or why it is refused; a whole tree takes no line
abbrev pub audited_after : PlainInstance → List AuditNode → PlainStep → Result (List AuditNode) AuditCode
audited_after instance [] line = Err After
audited_after instance (n ∷ nodes) line = left_by (audit_refusal instance n line) (audit_children n line) nodes

-- all lines, one by one
abbrev pub audited_after_all : PlainInstance → List AuditNode → List PlainStep → Result (List AuditNode) AuditCode
audited_after_all instance nodes [] = Ok nodes
audited_after_all instance nodes (line ∷ lines) =
    audited_after instance nodes line >>= λ left. audited_after_all instance left lines

-- the open nodes, and why a line was refused
pub record Audited : Type 0 where
  pub nodes : List AuditNode
  pub refused : Option AuditCode

-- nothing was fed yet
abbrev pub starting : Audited
starting = record { nodes = at_rest [] ∷ []; refused = None }

-- the nodes that a line leaves, or the nodes as they were with the refusal
abbrev pub audited_by : List AuditNode → Result (List AuditNode) AuditCode → Audited
audited_by nodes (Ok left) = record { nodes = left; refused = None }
audited_by nodes (Err code) = record { nodes = nodes; refused = Some code }

-- a line more; a refusal stays
abbrev pub kept_or : Option AuditCode → Audited → Audited → Audited
kept_or (Some code) old new = old
kept_or None old new = new

abbrev pub audited_with : PlainInstance → Audited → PlainStep → Audited
audited_with instance old line = kept_or old.refused old (audited_by old.nodes (audited_after instance old.nodes line))

-- all lines as they are fed: what is held after them
abbrev pub audited_with_all : PlainInstance → Audited → List PlainStep → Audited
audited_with_all instance s [] = s
audited_with_all instance s (line ∷ lines) = audited_with_all instance (audited_with instance s line) lines

-- all lines are accepted, from the start on, and a node is open behind them
abbrev pub LeavesOpen : PlainInstance → List PlainStep → Type 0
LeavesOpen instance lines = (n : AuditNode) × (nodes : List AuditNode)
    × (audited_after_all instance (at_rest [] ∷ []) lines ≡ Ok (n ∷ nodes))

-- whether the tree was accepted whole
abbrev pub is_whole_by : Option AuditCode → List AuditNode → Bool
is_whole_by None [] = true
is_whole_by None (n ∷ nodes) = false
is_whole_by (Some code) nodes = false

abbrev pub is_whole : Audited → Bool
is_whole s = is_whole_by s.refused s.nodes

-- what is answered, by what is held after the line
abbrev pub answered_by : Option AuditCode → List AuditNode → AuditVerdict
answered_by (Some code) nodes = Refused code
answered_by None [] = Done
answered_by None (n ∷ nodes) = More

abbrev pub answered : Audited → AuditVerdict
answered s = answered_by s.refused s.nodes

-- how many nodes can be open: each split of a node leaves fewer relations open in both children
abbrev pub most_open_nodes : PlainInstance → ℕ
most_open_nodes instance = relation_count (dims instance) (box_count instance) + 1
