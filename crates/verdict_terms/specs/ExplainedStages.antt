-- How the lines of an explained document are taken one by one: where a document stands between two
-- lines, and what the next line makes of that.
--
--     explained fit     Heading
--     format ..         Reading: the parts of the instance so far
--     result no
--     pair 1 1 2        Explaining: the open nodes of the tree
--     end               Ending: `end` is wanted
--                       Ended
use Rattle.std.specs.Prelude.{ℕ, not, ◌&&◌, Bool, true, false, List, [], ◌∷◌, Option, Some, None, Result, Ok, Err}
use Rattle.std.specs.Prelude.{codes}
use Rattle.packing_terms.specs.Packing.{PlainInstance, dims}
use Rattle.packing_terms.specs.Results.{◌>>=◌}
use Rattle.text_terms.specs.declared.fault.TextFault.{TextFault}
use Rattle.text_terms.specs.Lines.{Line, same_bytes}
use Rattle.text_terms.specs.Texts.{Parts, no_parts, add_line, at_end}
use Rattle.verdict_terms.specs.Stages.{is_word, is_result, is_blank}
use Rattle.verdict_terms.specs.declared.explained_answers.AuditCode.{AuditCode}
use Rattle.verdict_terms.specs.declared.explained_answers.AuditCode.TheVariants.{Kind, After}
use Rattle.verdict_terms.specs.Steps.{PlainStep}
use Rattle.verdict_terms.specs.StepLines.{step_of}
use Rattle.verdict_terms.specs.ExplainedJudging.{AuditNode, at_rest}
use Rattle.verdict_terms.specs.Auditing.{audited_after}
use Rattle.verdict_terms.specs.declared.explained_reason.ExplainedReason.{ExplainedReason}
use Rattle.verdict_terms.specs.declared.explained_reason.ExplainedReason.TheVariants.{Text, Line as LineOf, TooShort}

pub data ExplainedStage : Type 0 where
  Heading : ExplainedStage
  Reading : (parts : Parts) → ExplainedStage
  Explaining : (instance : PlainInstance) (nodes : List AuditNode) → ExplainedStage
  Ending : (instance : PlainInstance) → ExplainedStage
  Ended : (instance : PlainInstance) → ExplainedStage

-- a line of another form, and a line behind the end, share the words of the codes
abbrev pub form : ExplainedReason
form = LineOf Kind

abbrev pub after : ExplainedReason
after = LineOf After

-- refused with the reason unless the test holds
abbrev pub require : {A : Type 0} → Bool → ExplainedReason → Result A ExplainedReason → Result A ExplainedReason
require true reason rest = rest
require false reason rest = Err reason

-- the line is these two words
abbrev pub are_two : List ℕ → List ℕ → List (List ℕ) → Bool
are_two key other (word ∷ next ∷ []) = same_bytes word key && same_bytes next other
are_two key other _ = false

-- the first line
abbrev pub heading_line : List (List ℕ) → Result ExplainedStage ExplainedReason
heading_line words = require (are_two (codes "explained") (codes "fit") words) form (Ok (Reading no_parts))

-- a fault of the instance text is reported by its code
abbrev pub text_fault : {A : Type 0} → Result A ℕ → Result A ExplainedReason
text_fault (Ok x) = Ok x
text_fault (Err code) = Err (Text code)

-- the instance that the parts are, or the fault of the end of the text
abbrev pub end_of_parts : Result PlainInstance TextFault → Result PlainInstance ExplainedReason
end_of_parts (Ok instance) = Ok instance
end_of_parts (Err fault) = Err (Text fault.code)

-- behind the result line: no line of the tree came yet
abbrev pub begun : PlainInstance → ExplainedStage
begun instance = Explaining instance (at_rest [] ∷ [])

-- the result line: the end of the instance text is tested first
abbrev pub result_line : Parts → List (List ℕ) → Result ExplainedStage ExplainedReason
result_line parts words =
    end_of_parts (at_end parts 0) >>= λ instance. require (are_two (codes "result") (codes "no") words) form
    (Ok (begun instance))

-- a line behind the first, up to the result line
abbrev pub reading_line : Bool → Parts → Line → Result ExplainedStage ExplainedReason
reading_line true parts line = result_line parts line.words
reading_line false parts line = text_fault (add_line parts line) >>= λ more. Ok (Reading more)

-- a line where one of the tree is wanted: `end` comes too early, and another line has to be a step
abbrev pub tree_step : Bool → Option PlainStep → Result PlainStep ExplainedReason
tree_step true step = Err TooShort
tree_step false None = Err form
tree_step false (Some s) = Ok s

abbrev pub coded : {A : Type 0} → Result A AuditCode → Result A ExplainedReason
coded (Ok x) = Ok x
coded (Err code) = Err (LineOf code)

-- the tree, and `end` behind it where it is whole
abbrev pub grown : PlainInstance → List AuditNode → ExplainedStage
grown instance [] = Ending instance
grown instance (n ∷ nodes) = Explaining instance (n ∷ nodes)

abbrev pub tree_line : PlainInstance → List AuditNode → List (List ℕ) → Result ExplainedStage ExplainedReason
tree_line instance nodes words =
    tree_step (is_word (codes "end") words) (step_of (dims instance) words)
    >>= λ s. coded (audited_after instance nodes s) >>= λ left. Ok (grown instance left)

-- a line of the kinds of a tree where `end` is wanted comes too late
abbrev pub late_by : Option PlainStep → ExplainedReason
late_by (Some s) = after
late_by None = form

abbrev pub end_line : PlainInstance → List (List ℕ) → Result ExplainedStage ExplainedReason
end_line instance words = require (is_word (codes "end") words) (late_by (step_of (dims instance) words))
    (Ok (Ended instance))

-- a line without a bad byte that isn't blank, by its words; the instance lines aren't among these
abbrev pub words_line : ExplainedStage → List (List ℕ) → Result ExplainedStage ExplainedReason
words_line Heading words = heading_line words
words_line (Reading parts) words = Err form
words_line (Explaining instance nodes) words = tree_line instance nodes words
words_line (Ending instance) words = end_line instance words
words_line (Ended instance) words = Err after

-- a line that isn't blank. A bad byte is refused as the place where it stands says.
abbrev pub filled_line : ExplainedStage → Line → Result ExplainedStage ExplainedReason
filled_line (Reading parts) line = reading_line (is_result line) parts line
filled_line (Ended instance) line = Err after
filled_line stage line = require (not line.bad) form (words_line stage line.words)

-- a line: a blank one is skipped everywhere
abbrev pub stage_after : ExplainedStage → Line → Result ExplainedStage ExplainedReason
stage_after stage line = elim (is_blank line) [ true ↦ Ok stage | false ↦ filled_line stage line ]
