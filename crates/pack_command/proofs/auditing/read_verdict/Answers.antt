use Rattle.pack_command.proofs.BoundedRead.{bounded_read, bounded_unread, read_counts, unread_counts, held_read, begun_of}
use Rattle.pack_command.proofs.auditing.read_verdict.Goals as goal

pub returns-in-Ok-clause-is : goal.returns-in-Ok-clause-is
returns-in-Ok-clause-is g c =
    held_read _ _ c.in-Ok-Whole.field-0 c.in-Ok-Whole.bytes c.in-Ok-Whole.field-0-is c.in-Ok-Whole.ensures.moves
    c.in-Ok.verdict c.as_slice.result.now c.as_slice.ensures.value c.in-Ok.ensures

pub returns-in-Ok-read_bounded-clause-is : goal.returns-in-Ok-read_bounded-clause-is
returns-in-Ok-read_bounded-clause-is g c =
    bounded_read _ _ _ _ _ _ _ _ _
    (begun_of _ _ c.in-Ok-Begun.field-0 c.in-Ok-Begun.lexer c.in-Ok-Begun.count c.in-Ok-Begun.job
    c.in-Ok-Begun.field-0-is c.in-Ok-Begun.ensures.moves)
    c.in-Ok-Begun.ensures.count c.in-Ok-read_bounded.verdict c.in-Ok-read_bounded.ensures

pub returns-in-Ok-read_bounded-clause-reads : goal.returns-in-Ok-read_bounded-clause-reads
returns-in-Ok-read_bounded-clause-reads g c =
    read_counts _ _ _ _ _ _ _ _ _
    (begun_of _ _ c.in-Ok-Begun.field-0 c.in-Ok-Begun.lexer c.in-Ok-Begun.count c.in-Ok-Begun.job
    c.in-Ok-Begun.field-0-is c.in-Ok-Begun.ensures.moves)
    c.in-Ok-Begun.ensures.count c.in-Ok-read_bounded.verdict c.in-Ok-read_bounded.ensures

pub returns-in-Ok-Begun-clause-is : goal.returns-in-Ok-Begun-clause-is
returns-in-Ok-Begun-clause-is g c =
    bounded_unread _ _ _ _ _ _ _ _ _
    (begun_of _ _ c.in-Ok-Begun.field-0 c.in-Ok-Begun.lexer c.in-Ok-Begun.count c.in-Ok-Begun.job
    c.in-Ok-Begun.field-0-is c.in-Ok-Begun.ensures.moves)
    c.in-Ok-Begun.ensures.count c.in-Err-read_bounded.stop c.in-Err-read_bounded.ensures

pub returns-in-Ok-Begun-clause-reads : goal.returns-in-Ok-Begun-clause-reads
returns-in-Ok-Begun-clause-reads g c =
    unread_counts _ _ _ _ _ _ _ _ _
    (begun_of _ _ c.in-Ok-Begun.field-0 c.in-Ok-Begun.lexer c.in-Ok-Begun.count c.in-Ok-Begun.job
    c.in-Ok-Begun.field-0-is c.in-Ok-Begun.ensures.moves)
    c.in-Ok-Begun.ensures.count c.in-Err-read_bounded.stop c.in-Err-read_bounded.ensures
