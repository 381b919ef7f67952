use Rattle.std.proofs.Common.{map}
use Rattle.packing_terms.specs.Sums.{below}
use Rattle.pack_streams.specs.Writing.{Continues}
use Rattle.text_terms.specs.Spelling.{lines_text}
use Rattle.answer_terms.specs.Answers.{place_words}
use Rattle.answer_streams.proofs.documents.write_places.Given as goal

abbrev pub invariant-loop-box_no : goal.invariant-loop-box_no
invariant-loop-box_no g l =
    Continues (g.K.Sink.written l.initial.sink) (g.K.Sink.written l.sink) (g.K.Sink.faults l.initial.sink)
    (g.K.Sink.faults l.sink)
    (lines_text (map (place_words l.instance l.places) (below l.box_no))) l.initial.now l.now
