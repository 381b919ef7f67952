use Rattle.std.proofs.Common.{◌*◌, take}
use Rattle.pack_streams.specs.Writing.{Continues}
use Rattle.answer_terms.specs.WalkLines.{place_lines}
use Rattle.answer_streams.specs.FrontTexts.{text_of}
use Rattle.answer_streams.proofs.front_lines.write_places.Given as goal

abbrev pub invariant-loop-k : goal.invariant-loop-k
invariant-loop-k g l =
    Continues (g.K.Sink.written l.initial.sink) (g.K.Sink.written l.sink) (g.K.Sink.faults l.initial.sink)
    (g.K.Sink.faults l.sink)
    (text_of (place_lines (take (2 * l.k) l.places))) l.initial.now l.now
