use Rattle.std.proofs.Common.{map}
use Rattle.pack_streams.specs.Writing.{Continues}
use Rattle.answer_terms.specs.WalkLines.{step_lines}
use Rattle.size_front.specs.Plain.{plain_corner, plain_point}
use Rattle.answer_streams.specs.FrontTexts.{text_of}
use Rattle.answer_streams.proofs.FrontPieces.{first}
use Rattle.answer_streams.proofs.front_steps.write_steps.Given as goal

abbrev pub invariant-loop-k : goal.invariant-loop-k
invariant-loop-k g l =
    Continues (g.K.Sink.written l.initial.sink) (g.K.Sink.written l.sink) (g.K.Sink.faults l.initial.sink)
    (g.K.Sink.faults l.sink)
    (text_of (step_lines (first l.k (map plain_corner l.corners)) (first l.k (map plain_point l.points))))
    l.initial.now l.now
