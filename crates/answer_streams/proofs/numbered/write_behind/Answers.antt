use Rattle.std.proofs.Common.{◌≡◌, ◌+◌, ap, arith, get_or}
use Rattle.pack_streams.proofs.Writers.{more, same}
use Rattle.answer_streams.proofs.NumberedTexts.{behind_more}
use Rattle.answer_streams.proofs.numbered.write_behind.Goals as goal

pub loop-dim-preserved : goal.loop-dim-preserved
loop-dim-preserved g c =
    let e : c.args.start + 1 + c.loop-dim.dim ≡ c.args.start + (1 + c.loop-dim.dim) = omega arith in
    same _ _ _ _ _ _ _ _ (behind_more c.args.numbers.now c.args.start c.loop-dim.dim _
    (ap (λ k. get_or c.args.numbers.now k 0) e))
    (more _ _ _ _ _ _ _ _ _ _ _ c.loop-dim.invariant
    (more _ _ _ _ _ _ _ _ _ _ _ c.write_on-named.ensures.goes_on c.write_number-now.ensures.goes_on))
