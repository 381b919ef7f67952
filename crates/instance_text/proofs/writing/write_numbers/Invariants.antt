use Rattle.std.proofs.Common.{map, take}
use Rattle.std.specs.Fmt.{decimal}
use Rattle.pack_streams.specs.Writing.{Continues}
use Rattle.instance_text.specs.Writing.{after_spaces}
use Rattle.instance_text.proofs.writing.write_numbers.Given as goal

abbrev pub invariant-loop-k : goal.invariant-loop-k
invariant-loop-k g l =
    Continues (g.K.Sink.written l.initial.sink) (g.K.Sink.written l.sink) (g.K.Sink.faults l.initial.sink)
    (g.K.Sink.faults l.sink)
    (after_spaces (map decimal (take l.k l.numbers))) l.initial.now l.now
