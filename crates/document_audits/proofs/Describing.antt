-- A line of the instance, as the reader takes it.
use Rattle.std.proofs.Common.{◌≡◌, ◌∙◌, inl, inr, ℕ, refl, sym, ap, Bool, true, false, Result, Ok}
use Rattle.std.proofs.Common.{Err}
use Rattle.text_terms.specs.declared.fault.TextFault.{TextFault}
use Rattle.text_terms.specs.Lines.{Line}
use Rattle.text_terms.specs.Texts.{Parts, add_line, at_line}
use Rattle.text_terms.specs.Feeding.{Lexer, ended_line}
use Rattle.instance_text.specs.declared.reader.ReadTextError.{ReadTextError}
use Rattle.instance_text.specs.declared.reader.ReadTextError.TheVariants.{Fault}
use Rattle.instance_text.specs.Reading.{Steps, Answers, as_read}
use Rattle.document_audits.specs.Rereading.{says_result, described, describing_line, reread_line}
use Rattle.document_audits.specs.Rereading.Reread.{Describing, Broken}

-- a line that isn't the result line
by_says : (parts : Parts) (line : Line) (b : Bool) → b ≡ false
    → describing_line b parts line ≡ described (add_line parts line)
by_says parts line false e = refl
by_says parts line true e = absurd (cc (e))

added : (n : ℕ) (r : Result Parts ℕ) (new : Parts) → Ok new ≡ as_read (at_line n r) → Describing new ≡ described r
added n (Ok more) new e = let same : new ≡ more = cc (e) in ap Describing same
added n (Err k) new e = absurd (cc (e))

at_fault : (n : ℕ) (r : Result Parts ℕ) (kept : ReadTextError)
    → ◌≡◌ {A = Result Parts ReadTextError} (Err kept) (as_read (at_line n r)) → Broken ≡ described r
at_fault n (Ok more) kept e = absurd (cc (e))
at_fault n (Err k) kept e = refl

pub line_taken : (reader new : Result Parts ReadTextError) (line : Lexer) (y : Unit {0})
    → says_result line.held.words ≡ false → Steps reader line new → Answers new (Ok y)
    → described new ≡ reread_line (described reader) (ended_line line.held)
line_taken reader (Err e) line y says steps answers = absurd answers
line_taken (Err e) (Ok new) line y says steps answers = absurd (cc (steps))
line_taken (Ok parts) (Ok new) line y says steps answers = elim steps [
  | inl e ↦ absurd (cc (e))
  | inr e ↦ added line.number (add_line parts (ended_line line.held)) new e
      ∙ sym (by_says parts (ended_line line.held) _ says)
]

pub line_refused : (reader new : Result Parts ReadTextError) (line : Lexer) (error : ReadTextError) (fault : TextFault)
    → error ≡ Fault fault → says_result line.held.words ≡ false → Steps reader line new
    → Answers {Y = Unit {0}} new (Err error) → Broken ≡ reread_line (described reader) (ended_line line.held)
line_refused (Err e) new line error fault is says steps answers = refl
line_refused (Ok parts) (Ok new) line error fault is says steps answers = absurd answers
line_refused (Ok parts) (Err kept) line error fault is says steps answers = elim steps [
  | inl e ↦ absurd (cc (e, answers, is))
  | inr e ↦ at_fault line.number (add_line parts (ended_line line.held)) kept e
      ∙ sym (by_says parts (ended_line line.held) _ says)
]
