use Rattle.std.proofs.Common.{arith}
use Rattle.answer_streams.proofs.Blocks.{shown_given}
use Rattle.answer_streams.proofs.block_buffer.BlockBuffer.empty.Goals as goal

pub returns-then-self-clause-shown : goal.returns-then-self-clause-shown
returns-then-self-clause-shown g c =
    shown_given _ _ c.args.self.now.block c.args.self.now.start c.args.self.now.end c.give_part-taken.result
    (omega (arith, c.give_part-taken.ensures.within, c.args.self.now.ordered)) c.give_part-taken.ensures.moves
