-- A verified document, read again line by line: the first line, the lines of the instance, the
-- result line, and the tokens.
use Rattle.std.specs.Prelude.{ℕ, Bool, true, false, List, [], ◌∷◌, ◌++◌, Option, Some, None, Result, Ok, Err, codes}
use Rattle.packing_terms.specs.Packing.{PlainInstance, dims}
use Rattle.packing_terms.specs.Tokens.{PlainToken}
use Rattle.text_terms.specs.Lines.{Line, same_bytes}
use Rattle.text_terms.specs.Texts.{Parts, no_parts, first_word, add_line, at_end}
use Rattle.text_terms.specs.Feeding.{NumberedLine}
use Rattle.text_terms.specs.TokenLines.{line_token}
use Rattle.instance_text.specs.declared.reader.ReadTextError.{ReadTextError}
use Rattle.instance_text.specs.Reading.{finished_instance}
use Rattle.proof_tree.specs.Plain.{plain_tokens}
use Rattle.document_audits.specs.declared.refutation_reading.Reading.{Reading}
use Rattle.document_audits.specs.declared.refutation_reading.Reading.TheVariants.{Heading, Describing as ReadDescribing}
use Rattle.document_audits.specs.declared.refutation_reading.Reading.TheVariants.{Proving as ReadProving}
use Rattle.document_audits.specs.declared.refutation_reading.Reading.TheVariants.{Broken as ReadBroken}

-- whether the first word is `result`
abbrev pub says_result : List (List ℕ) → Bool
says_result words = same_bytes (first_word words) (codes "result")

-- where the reading stands
pub data Reread : Type 0 where
  Unheaded : Reread
  Describing : (parts : Parts) → Reread
  Proving : (instance : PlainInstance) (tokens : List PlainToken) → Reread
  Broken : Reread

-- the parts that are held, or a text at fault
abbrev pub described : {E : Type 0} → Result Parts E → Reread
described (Ok parts) = Describing parts
described (Err e) = Broken

-- the instance before the result line
abbrev pub proving : {E : Type 0} → Result PlainInstance E → Reread
proving (Ok instance) = Proving instance []
proving (Err e) = Broken

abbrev pub proved_with : Result Parts ReadTextError → Reread
proved_with parts = proving (finished_instance parts 0)

abbrev pub headed : List (List ℕ) → Reread
headed [] = Unheaded
headed (word ∷ words) = Describing no_parts

-- the tokens with the one of a line, if it has one
abbrev pub with_token : PlainInstance → List PlainToken → Option PlainToken → Reread
with_token instance tokens (Some t) = Proving instance (tokens ++ t ∷ [])
with_token instance tokens None = Proving instance tokens

abbrev pub describing_line : Bool → Parts → Line → Reread
describing_line true parts line = proving (at_end parts 0)
describing_line false parts line = described (add_line parts line)

-- a line more
abbrev pub reread_line : Reread → Line → Reread
reread_line Unheaded line = headed line.words
reread_line (Describing parts) line = describing_line (says_result line.words) parts line
reread_line (Proving instance tokens) line = with_token instance tokens (line_token (dims instance) line)
reread_line Broken line = Broken

abbrev pub reread_lines : Reread → List NumberedLine → Reread
reread_lines at [] = at
reread_lines at (l ∷ ls) = reread_lines (reread_line at l.line) ls

-- what the program holds
abbrev pub plain_reading : Reading → Reread
plain_reading Heading = Unheaded
plain_reading (ReadDescribing parts) = described parts
plain_reading (ReadProving instance tokens) = Proving instance (plain_tokens tokens.items)
plain_reading ReadBroken = Broken
