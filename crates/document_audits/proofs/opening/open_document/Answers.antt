use Rattle.std.proofs.Common.{Ok, Err}
use Rattle.document_audits.proofs.Openings.{whole_behind}
use Rattle.document_audits.proofs.opening.open_document.Goals as goal

pub returns-in-Ok-read_on-clause-moves : goal.returns-in-Ok-read_on-clause-moves
returns-in-Ok-read_on-clause-moves g c =
    whole_behind c.args.limit _ _ _ c.in-Ok.opening c.in-Some.kind c.in-Some.is c.if-is_bounded.ensures
    c.in-Ok.ensures.moves (Ok c.in-Ok-read_on.bytes) c.in-Ok-read_on.ensures.moves

pub returns-in-Err-read_on-clause-moves : goal.returns-in-Err-read_on-clause-moves
returns-in-Err-read_on-clause-moves g c =
    whole_behind c.args.limit _ _ _ c.in-Ok.opening c.in-Some.kind c.in-Some.is c.if-is_bounded.ensures
    c.in-Ok.ensures.moves (Err c.in-Err-read_on.stop) c.in-Err-read_on.ensures.moves
