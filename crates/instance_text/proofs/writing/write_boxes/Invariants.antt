use Rattle.std.proofs.Common.{take}
use Rattle.std.specs.List.{flat_map}
use Rattle.pack_streams.specs.Writing.{Continues}
use Rattle.instance_text.specs.Writing.{box_text}
use Rattle.instance_text.proofs.writing.write_boxes.Given as goal

abbrev pub invariant-loop-box_no : goal.invariant-loop-box_no
invariant-loop-box_no g l =
    Continues (g.K.Sink.written l.initial.sink) (g.K.Sink.written l.sink) (g.K.Sink.faults l.initial.sink)
    (g.K.Sink.faults l.sink)
    (flat_map box_text (take l.box_no l.instance.boxes)) l.initial.now l.now
