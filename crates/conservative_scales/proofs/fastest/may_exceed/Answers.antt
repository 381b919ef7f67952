use Rattle.std.proofs.Common.{◌+◌, arith, refl, get_or}
use Rattle.conservative_scales.proofs.Shares.{shared_next, shared_test}
use Rattle.conservative_scales.proofs.fastest.may_exceed.Goals as goal

pub loop-box_no-preserved : goal.loop-box_no-preserved
loop-box_no-preserved c =
    let s = c.requires.shares c.loop-box_no.box_no (omega arith) in
    shared_next c.args.instance.now (λ v. get_or c.args.images.now (c.args.at + v) 0) c.loop-box_no.box_no
    c.loop-box_no.total (get_or c.args.shares.now c.loop-box_no.box_no 0) _
    c.loop-box_no.invariant s.0 s.1 refl
    (c.requires.small c.loop-box_no.box_no (omega arith))

pub returns : goal.returns
returns c =
    shared_test c.args.instance.now (λ v. get_or c.args.images.now (c.args.at + v) 0) c.args.copies c.loop-box_no.box_no
    c.loop-box_no.total c.args.whole
    c.loop-box_no.invariant (omega arith)
