use Rattle.std.proofs.Common.{◌∙◌, sym, arith}
use Rattle.document_audits.proofs.Numbers.{number_is, found_at, found_last, found_none}
use Rattle.document_audits.proofs.position.result_line.Goals as goal

pub returns-then-is_result : goal.returns-then-is_result
returns-then-is_result c =
    c.line_number.ensures
    ∙ found_at c.args.bytes.now c.loop-byte.byte-index c.loop-byte.lexer c.feed.new.self _ (omega arith)
    c.feed.ensures.step c.in-Line.ensures.ended (sym c.is_result.ensures ∙ c.if-is_result.true)
    (c.loop-byte.invariant.0 ∙ number_is c.args.bytes.now)

pub returns-in-More-finish : goal.returns-in-More-finish
returns-in-More-finish c =
    found_none c.args.bytes.now c.loop-byte.byte-index c.loop-byte.lexer _ (omega arith) c.in-More-finish.ensures.ended
    (c.loop-byte.invariant.0 ∙ number_is c.args.bytes.now)

pub returns-in-Line-finish : goal.returns-in-Line-finish
returns-in-Line-finish c =
    c.number_if_result.ensures
    ∙ found_last c.args.bytes.now c.loop-byte.byte-index c.loop-byte.lexer c.finish.new.self _ (omega arith)
    c.finish.ensures.step c.in-Line-finish.ensures.ended
    (c.loop-byte.invariant.0 ∙ number_is c.args.bytes.now)
