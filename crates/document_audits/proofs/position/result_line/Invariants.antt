use Rattle.std.proofs.Common.{◌≡◌, ◌≤◌, drop}
use Rattle.text_terms.specs.Feeding.{new_lexer, lines_fed}
use Rattle.instance_text.proofs.Whole.{lines}
use Rattle.document_audits.proofs.Numbers.{number_told}
use Rattle.document_audits.proofs.position.result_line.Given as goal

abbrev pub invariant-loop-byte : goal.invariant-loop-byte
invariant-loop-byte l =
    (number_told (lines_fed l.lexer (drop l.byte-index l.bytes)) ≡ number_told (lines_fed new_lexer l.bytes))
    × (lines l.lexer ≤ l.byte-index)
