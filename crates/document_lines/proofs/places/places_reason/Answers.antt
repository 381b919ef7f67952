use Rattle.std.proofs.Common.{sym}
use Rattle.document_lines.proofs.PlaceReasons.{outside_reason, overlap_reason}
use Rattle.document_lines.proofs.places.places_reason.Goals as goal

pub returns-in-Outside : goal.returns-in-Outside
returns-in-Outside c =
    outside_reason c.args.instance.now c.args.places.now c.in-Outside.box_no c.in-Outside.dim
    c.in-Outside.ensures.tells.box_there (sym c.in-Outside.ensures.exact)

pub returns-in-Overlap : goal.returns-in-Overlap
returns-in-Overlap c =
    overlap_reason c.args.instance.now c.args.places.now c.in-Overlap.first c.in-Overlap.second
    c.in-Overlap.ensures.tells.rising c.in-Overlap.ensures.tells.there (sym c.in-Overlap.ensures.exact)
