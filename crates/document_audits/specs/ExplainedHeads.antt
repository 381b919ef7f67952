-- The lines up to the result line.
use Rattle.std.specs.Prelude.{◌≡◌, Result, Ok, Err}
use Rattle.text_terms.specs.Lines.{Line}
use Rattle.text_terms.specs.Texts.{Parts, add_line}
use Rattle.verdict_terms.specs.ExplainedStages.{text_fault}
use Rattle.document_audits.specs.declared.explained_head.TextStop.{TextStop}
use Rattle.document_audits.specs.declared.explained_head.TextStop.TheVariants.{Refused, NoMemory}

-- a line of the instance text that was taken: the parts with it, or the reason of the refusal
abbrev pub TakesText : Parts → Line → Parts → Result (Unit {0}) TextStop → Type 0
TakesText parts line new (Ok u) = text_fault (add_line parts line) ≡ Ok new
TakesText parts line new (Err (Refused reason)) = text_fault (add_line parts line) ≡ Err reason
TakesText parts line new (Err NoMemory) = Unit {0}
