use Rattle.std.proofs.Common.{arith}
use Rattle.std.proofs.lemmas.List.{take_rest, length-drop}
use Rattle.pack_streams.proofs.Faults.{stays_on}
use Rattle.pack_streams.proofs.Runs.{wrote_more}
use Rattle.answer_streams.proofs.block_buffer.give.Goals as goal

pub loop-done-preserved : goal.loop-done-preserved
loop-done-preserved g c =
    let m = c.in-Took.ensures.moves in
    let few = rw (take_rest, length-drop) at m.1 in
    record {
      within = omega arith;
      bytes = wrote_more _ _ _ c.args.piece.now c.loop-done.done c.in-Took.count c.loop-done.invariant.bytes m.2;
      count = stays_on _ _ _ c.loop-done.invariant.count c.in-Took.ensures.count;
    }
