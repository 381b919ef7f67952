use Rattle.std.proofs.Common.{sym, ap, ◌∙◌}
use Rattle.work_share.specs.Fronts.{piece_of}
use Rattle.work_share.proofs.Advance.{entry_read}
use Rattle.work_share.proofs.front.piece_at.Goals as goal

pub returns : goal.returns
returns c = c.piece.ensures c.args.number ∙ ap piece_of
    (sym (entry_read c.args.slots.now c.args.number c.index-slots-number.result c.requires c.index-slots-number.is))
