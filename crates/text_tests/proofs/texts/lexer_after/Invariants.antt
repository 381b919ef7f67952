use Rattle.std.proofs.Common.{◌≤◌}
use Rattle.instance_text.proofs.Whole.{lines}
use Rattle.text_tests.proofs.texts.lexer_after.Given as goal

abbrev pub invariant-loop-byte : goal.invariant-loop-byte
invariant-loop-byte l = lines l.lexer ≤ l.byte-index
