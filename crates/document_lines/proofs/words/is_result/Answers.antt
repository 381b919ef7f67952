use Rattle.std.proofs.Common.{arith}
use Rattle.document_lines.proofs.Lengths.{counted, blank_result}
use Rattle.document_lines.proofs.words.is_result.Goals as goal

pub returns-then-word_count-eq0-clause-result : goal.returns-then-word_count-eq0-clause-result
returns-then-word_count-eq0-clause-result c =
    blank_result c.args.line.now.held.bad c.args.line.now.held.count c.args.line.now.held.words
    (counted 0 _ _ _ c.word_count.ensures.limits c.word_count.ensures.count c.if-word_count-eq0.true (omega arith))
