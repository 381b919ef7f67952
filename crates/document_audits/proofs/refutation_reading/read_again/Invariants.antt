use Rattle.std.proofs.Common.{◌≡◌, ◌≤◌, drop}
use Rattle.text_terms.specs.Feeding.{new_lexer, lines_fed}
use Rattle.instance_text.proofs.Whole.{lines}
use Rattle.document_audits.specs.Rereading.{plain_reading, reread_lines}
use Rattle.document_audits.specs.Rereading.Reread.{Unheaded}
use Rattle.document_audits.proofs.refutation_reading.read_again.Given as goal

abbrev pub invariant-loop-byte : goal.invariant-loop-byte
invariant-loop-byte l =
    (reread_lines (plain_reading l.at) (lines_fed l.lexer (drop l.byte-index l.bytes))
    ≡ reread_lines Unheaded (lines_fed new_lexer l.bytes)) × (lines l.lexer ≤ l.byte-index)
