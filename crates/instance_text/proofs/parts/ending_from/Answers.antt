use Rattle.std.proofs.Common.{sym}
use Rattle.instance_text.proofs.Lines.{times_fault, ending_read}
use Rattle.instance_text.proofs.parts.ending_from.Goals as goal

pub returns-in-Ok-times_from : goal.returns-in-Ok-times_from
returns-in-Ok-times_from c =
    ending_read c.args.format c.args.room c.args.from c.args.line.now.held.words c.in-Ok.value c.in-Ok-times_from.times
    c.if-has_times_alone.ensures.value
    (sym c.in-Ok.ensures) (sym c.in-Ok-times_from.ensures)

pub returns-in-Err-times_from : goal.returns-in-Err-times_from
returns-in-Err-times_from c =
    times_fault c.args.format c.args.room c.args.from c.args.line.now.held.words c.in-Ok.value c.in-Err-times_from.code
    c.if-has_times_alone.ensures.value
    (sym c.in-Ok.ensures) (sym c.in-Err-times_from.ensures)
