use Rattle.std.proofs.Common.{◌∙◌, sym, ap, not}
use Rattle.document_lines.proofs.BinGroups.{outside_found, outside_more, overlap_more, overlap_first, overlap_kept}
use Rattle.document_lines.proofs.bins.bins_reason.Goals as goal
use Rattle.document_lines.proofs.bins.bins_reason.Goals.{then-is_none, else-is_none}

pub returns-then-is_outside : goal.returns-then-is_outside
returns-then-is_outside c =
    outside_found c.args.instance.now c.args.bins.now c.args.places.now c.loop-bin.bin c.in_ok-reason.reason
    c.in_ok-reason.ensures c.loop-bin.invariant.0 c.args.bin_count c.loop-bin-test.true
    (sym c.is_outside.ensures ∙ c.if-is_outside.true)

pub loop-bin-preserved : goal.loop-bin-preserved
loop-bin-preserved c =
    let none = sym c.is_outside.ensures ∙ c.if-is_outside.false in (
      outside_more c.args.instance.now c.args.bins.now c.args.places.now c.loop-bin.bin c.in_ok-reason.reason
          c.in_ok-reason.ensures c.loop-bin.invariant.0 none,
      elim c.if-is_none.branch [
        | then-is_none w ↦ overlap_first c.loop-bin.overlap c.in_ok-reason.reason c.if-is_none.overlap
            (c.is_none.ensures ∙ ap not w.if-is_none.true) w.overlap-is
        | else-is_none w ↦ overlap_kept c.loop-bin.overlap c.in_ok-reason.reason c.if-is_none.overlap
            (c.is_none.ensures ∙ ap not w.if-is_none.false) w.overlap-is
      ]
          ∙ sym (overlap_more c.args.instance.now c.args.bins.now c.args.places.now c.loop-bin.bin c.in_ok-reason.reason
          c.in_ok-reason.ensures c.loop-bin.invariant.0 c.loop-bin.overlap c.loop-bin.invariant.1 none),
    )
