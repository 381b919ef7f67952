use Rattle.std.proofs.Common.{◌≤◌}
use Rattle.instance_text.proofs.Whole.{lines}
use Rattle.refutation_tests.proofs.family_lines.read.Given as goal

abbrev pub invariant-loop-byte : goal.invariant-loop-byte
invariant-loop-byte l = lines l.lexer ≤ l.byte-index
