use Rattle.std.proofs.Common.{map}
use Rattle.packing_terms.specs.Sums.{below}
use Rattle.pack_streams.specs.Writing.{Continues}
use Rattle.text_terms.specs.Spelling.{lines_text}
use Rattle.answer_terms.specs.Answers.{numbered_words}
use Rattle.answer_streams.proofs.numbered.write_all_numbered.Given as goal

abbrev pub invariant-loop-k : goal.invariant-loop-k
invariant-loop-k g l =
    Continues (g.K.Sink.written l.initial.sink) (g.K.Sink.written l.sink) (g.K.Sink.faults l.initial.sink)
    (g.K.Sink.faults l.sink)
    (lines_text (map (numbered_words l.key l.dims l.numbers) (below l.k))) l.initial.now l.now
