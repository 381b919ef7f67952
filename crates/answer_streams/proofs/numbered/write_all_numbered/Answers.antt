use Rattle.pack_streams.proofs.Writers.{more, same}
use Rattle.answer_streams.proofs.NumberedTexts.{numbered_more}
use Rattle.answer_streams.proofs.numbered.write_all_numbered.Goals as goal

pub loop-k-preserved : goal.loop-k-preserved
loop-k-preserved g c = same _ _ _ _ _ _ _ _ (numbered_more c.args.key.now c.args.dims c.args.numbers.now c.loop-k.k)
    (more _ _ _ _ _ _ _ _ _ _ _ c.loop-k.invariant c.write_numbered-now.ensures)
