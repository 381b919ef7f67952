use Rattle.std.proofs.Common.{arith, sym, ap}
use Rattle.std.specs.List.{flat_map}
use Rattle.std.proofs.lemmas.List.{take_all}
use Rattle.instance_text.specs.Writing.{box_text}
use Rattle.pack_streams.proofs.Writers.{none, more, same}
use Rattle.instance_text.proofs.Written.{boxes_more}
use Rattle.instance_text.proofs.writing.write_boxes.Goals as goal

pub loop-box_no-init : goal.loop-box_no-init
loop-box_no-init g c = none _ _ _

pub loop-box_no-preserved : goal.loop-box_no-preserved
loop-box_no-preserved g c =
    same _ _ _ _ _ _ _ _ (sym (boxes_more c.args.instance.now.boxes c.loop-box_no.box_no (omega arith)))
    (more _ _ _ _ _ _ _ _ _ _ _ c.loop-box_no.invariant c.write_box-now.ensures)

pub returns : goal.returns
returns g c = same _ _ _ _ _ _ _ _
    (ap (flat_map box_text) (take_all c.loop-box_no.box_no c.args.instance.now.boxes (omega arith)))
    c.loop-box_no.invariant
