use Rattle.std.proofs.Common.{length, ◌-◌}
use Rattle.pack_streams.proofs.Runs.{Wrote}
use Rattle.answer_streams.proofs.block_buffer.give.Given as goal

abbrev pub invariant-loop-done : goal.invariant-loop-done
invariant-loop-done g l =
    Wrote (g.K.Sink.written l.initial.out) (g.K.Sink.written l.out) (g.K.Sink.faults l.initial.out)
    (g.K.Sink.faults l.out) l.piece l.done

abbrev pub decreases-loop-done : goal.decreases-loop-done
decreases-loop-done g l = length l.piece - l.done
