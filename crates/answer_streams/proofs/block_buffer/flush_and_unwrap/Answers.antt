use Rattle.std.proofs.Common.{refl, subst}
use Rattle.pack_streams.specs.Writing.{Writes}
use Rattle.answer_streams.specs.Fronts.{shown}
use Rattle.answer_streams.proofs.Blocks.{behind_err, behind_end}
use Rattle.answer_streams.proofs.block_buffer.flush_and_unwrap.Goals as goal

pub returns-in-Ok-clause-written : goal.returns-in-Ok-clause-written
returns-in-Ok-clause-written g c = λ before text wrote.
    let old = c.args.front in
    let front = c.empty-result.new.self in
    let ended = c.empty-result.ensures in
    let whole = subst
    (λ r. Writes g.B.SinkBrand.begun (shown (g.K.Sink.written old.out.now) old.block old.start old.end) before
    (g.K.Sink.faults old.out.now) text r) c.in-Ok.is wrote in
    rw (c.unwrap_sink.ensures.out, c.unwrap_sink.ensures.result)
    (behind_end _ _ _ _ front.block front.start front.end before before _ _ text _ refl refl front.since whole
    ended.shown ended.empty ended.count)

pub returns-in-Err-clause-written : goal.returns-in-Err-clause-written
returns-in-Err-clause-written g c = λ before text wrote.
    let old = c.args.front in
    let failed = subst
    (λ r. Writes g.B.SinkBrand.begun (shown (g.K.Sink.written old.out.now) old.block old.start old.end) before
    (g.K.Sink.faults old.out.now) text r) c.in-Err.is wrote in
    rw (c.unwrap_sink-in-Err.ensures.out, c.unwrap_sink-in-Err.ensures.result)
    (behind_err _ _ _ _ before before _ text _ _ refl refl old.since failed)
