use Rattle.std.proofs.Common.{map}
use Rattle.std.specs.Fmt.{decimal}
use Rattle.packing_terms.specs.Packing.{place}
use Rattle.packing_terms.specs.Sums.{below}
use Rattle.pack_streams.specs.Writing.{Continues}
use Rattle.instance_text.specs.Writing.{after_spaces}
use Rattle.answer_streams.proofs.documents.write_coordinates.Given as goal

abbrev pub invariant-loop-dim : goal.invariant-loop-dim
invariant-loop-dim g l =
    Continues (g.K.Sink.written l.initial.sink) (g.K.Sink.written l.sink) (g.K.Sink.faults l.initial.sink)
    (g.K.Sink.faults l.sink)
    (after_spaces (map (λ i. decimal (place l.instance l.places l.box_no i)) (below l.dim))) l.initial.now l.now
