use Rattle.std.proofs.Common.{arith, take, ◌∙◌, ap}
use Rattle.std.specs.Io.KnownBytes.{append_known}
use Rattle.answer_streams.proofs.Blocks.{shown_put, on_ok}
use Rattle.answer_streams.proofs.block_buffer.BlockBufferSink.write.Goals as goal

pub returns-clause-moves : goal.returns-clause-moves
returns-clause-moves g c =
    let n = c.put-count.result in
    let room = on_ok c.make_room.result _ (c.if-is_err.ensures).value c.make_room.ensures.room in (
      omega (arith, room, c.put-count.ensures.count, c.requires),
      omega (arith, c.put-count.ensures.count),
      shown_put _ _ _ c.make_room.new.self.start c.make_room.new.self.end n c.args.piece.now
          c.make_room.new.self.ordered (omega (arith, room)) c.put-count.ensures.bytes
          ∙ ap (λ u. append_known u (take n c.args.piece.now)) c.make_room.ensures.shown,
    )
