use Rattle.std.proofs.Common.{take}
use Rattle.pack_streams.specs.Writing.{Continues}
use Rattle.text_terms.specs.Spelling.{lines_text}
use Rattle.answer_terms.specs.Explained.{step_lines}
use Rattle.answer_streams.proofs.explained.write_steps_on.Given as goal

abbrev pub invariant-loop-k : goal.invariant-loop-k
invariant-loop-k g l =
    Continues (g.K.Sink.written l.initial.sink) (g.K.Sink.written l.sink) (g.K.Sink.faults l.initial.sink)
    (g.K.Sink.faults l.sink)
    (lines_text (step_lines (take l.k l.steps))) l.initial.now l.now
