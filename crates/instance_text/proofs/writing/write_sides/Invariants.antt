use Rattle.std.proofs.Common.{map, take}
use Rattle.std.specs.Prelude.{slice_index_or}
use Rattle.std.specs.Fmt.{decimal}
use Rattle.packing_terms.specs.Packing.{no_box}
use Rattle.pack_streams.specs.Writing.{Continues}
use Rattle.instance_text.specs.Writing.{after_spaces}
use Rattle.instance_text.proofs.writing.write_sides.Given as goal

abbrev pub invariant-loop-dim : goal.invariant-loop-dim
invariant-loop-dim g l =
    Continues (g.K.Sink.written l.initial.sink) (g.K.Sink.written l.sink) (g.K.Sink.faults l.initial.sink)
    (g.K.Sink.faults l.sink)
    (after_spaces (map decimal (take l.dim (slice_index_or l.instance.boxes l.box_no no_box).sides)))
    l.initial.now l.now
