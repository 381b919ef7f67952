use Rattle.std.proofs.Common.{refl, sym, ◌∙◌}
use Rattle.answer_streams.proofs.Blocks.{same_start}
use Rattle.answer_streams.proofs.streaming.write_through.Goals as goal

pub returns-clause-written : goal.returns-clause-written
returns-clause-written g c =
    let begun = c.buffer_over-front.ensures.shown ∙ c.requires.begun in
    same_start _ _ _ _ _ _ _ _ (sym c.requires.begun) refl
    (c.flush_and_unwrap.ensures.written (g.K.Sink.faults c.args.out.now) _
    (same_start _ _ _ _ _ _ _ _ begun c.buffer_over-front.ensures.faults c.write_to-written.ensures))
